use Rattle.node_core.proofs.Parts.{orderly}
use Rattle.node_core.proofs.laws.law_parts_are_orderly.Goals as goal

pub returns : goal.returns
returns c = orderly
