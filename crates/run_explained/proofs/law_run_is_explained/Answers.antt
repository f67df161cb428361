use Rattle.run_explained.proofs.Explained as laws
use Rattle.run_explained.proofs.law_run_is_explained.Goals as goal

pub returns : goal.returns
returns c = laws.run_is_explained
