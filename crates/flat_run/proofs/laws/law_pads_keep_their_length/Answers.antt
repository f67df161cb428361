use Rattle.flat_run.proofs.LimitLaws.{pads_stay}
use Rattle.flat_run.proofs.laws.law_pads_keep_their_length.Goals as goal

pub returns : goal.returns
returns c = pads_stay
