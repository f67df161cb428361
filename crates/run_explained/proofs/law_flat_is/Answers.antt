use Rattle.run_explained.proofs.Scenarios as laws
use Rattle.run_explained.proofs.law_flat_is.Goals as goal

pub returns : goal.returns
returns c = laws.flat_is
