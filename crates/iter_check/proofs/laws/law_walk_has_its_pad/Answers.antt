use Rattle.iter_check.proofs.LengthLaws.{begin_leaves}
use Rattle.iter_check.proofs.laws.law_walk_has_its_pad.Goals as goal

pub returns : goal.returns
returns c = begin_leaves
