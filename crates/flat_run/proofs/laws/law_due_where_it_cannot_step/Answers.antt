use Rattle.flat_run.proofs.DueLaws.{due_where_stuck}
use Rattle.flat_run.proofs.laws.law_due_where_it_cannot_step.Goals as goal

pub returns : goal.returns
returns c = due_where_stuck
