use Rattle.flat_run.proofs.ShapeLaws.{shapes_stay}
use Rattle.flat_run.proofs.laws.law_regions_keep_their_shape.Goals as goal

pub returns : goal.returns
returns c = shapes_stay
