use Rattle.flat_run.proofs.RunLaws.{fault_leaves}
use Rattle.flat_run.proofs.laws.law_fault_leaves_memory.Goals as goal

pub returns : goal.returns
returns c = fault_leaves
