use Rattle.run_explained.proofs.Scenarios as laws
use Rattle.run_explained.proofs.law_flat_start_is.Goals as goal

pub returns : goal.returns
returns c = laws.flat_start_is
