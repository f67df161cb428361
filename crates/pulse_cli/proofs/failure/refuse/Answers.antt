use Rattle.std.proofs.Common.{inr}
use Rattle.pulse_cli.proofs.failure.refuse.Goals as goal

pub returns : goal.returns
returns g c = inr c.say-in-Err.ensures
