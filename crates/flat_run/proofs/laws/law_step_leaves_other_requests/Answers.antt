use Rattle.flat_run.proofs.RunLaws.{others_stay}
use Rattle.flat_run.proofs.laws.law_step_leaves_other_requests.Goals as goal

pub returns : goal.returns
returns c = others_stay
