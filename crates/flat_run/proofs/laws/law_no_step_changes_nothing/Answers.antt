use Rattle.flat_run.proofs.RunLaws.{stuck_stays}
use Rattle.flat_run.proofs.laws.law_no_step_changes_nothing.Goals as goal

pub returns : goal.returns
returns c = stuck_stays
