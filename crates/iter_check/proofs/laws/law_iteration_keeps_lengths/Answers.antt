use Rattle.iter_check.proofs.LengthLaws.{iteration_leaves}
use Rattle.iter_check.proofs.laws.law_iteration_keeps_lengths.Goals as goal

pub returns : goal.returns
returns c = iteration_leaves
