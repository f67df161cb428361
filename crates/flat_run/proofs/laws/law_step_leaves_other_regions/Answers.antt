use Rattle.flat_run.proofs.RunLaws.{regions_stay}
use Rattle.flat_run.proofs.laws.law_step_leaves_other_regions.Goals as goal

pub returns : goal.returns
returns c = regions_stay
