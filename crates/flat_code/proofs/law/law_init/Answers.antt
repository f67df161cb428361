use Rattle.flat_code.proofs.Init.{init_right}
use Rattle.flat_code.proofs.law.law_init.Goals as goal

pub returns : goal.returns
returns c = init_right
