use Rattle.world_core.proofs.Reordered as reordered
use Rattle.world_core.proofs.laws.law_step_keeps_run.Goals as goal

pub returns : goal.returns
returns c = reordered.step_keeps_run
