use Rattle.flat_run.proofs.RunLaws.{both_legal}
use Rattle.flat_run.proofs.laws.law_legal_concatenation.Goals as goal

pub returns : goal.returns
returns c = both_legal
