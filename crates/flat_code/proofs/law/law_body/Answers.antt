use Rattle.flat_code.proofs.Whole.{body_right}
use Rattle.flat_code.proofs.law.law_body.Goals as goal

pub returns : goal.returns
returns c = body_right
