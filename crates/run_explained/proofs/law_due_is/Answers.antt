use Rattle.run_explained.proofs.Scenarios as laws
use Rattle.run_explained.proofs.law_due_is.Goals as goal

pub returns : goal.returns
returns c = laws.due_is
