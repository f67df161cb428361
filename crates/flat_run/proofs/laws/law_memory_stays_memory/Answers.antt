use Rattle.flat_run.proofs.ShapeLaws.{memory_stays}
use Rattle.flat_run.proofs.laws.law_memory_stays_memory.Goals as goal

pub returns : goal.returns
returns c = memory_stays
