use Rattle.pulse_base.proofs.ReadingLemmas.{gave_up}
use Rattle.pulse_base.proofs.reading.read_all.Goals as goal

pub returns-in-Err-append-clause-bytes : goal.returns-in-Err-append-clause-bytes
returns-in-Err-append-clause-bytes g c = gave_up _ _ _ _ _ _ _ c.chunks.invariant.0 c.in-Ok.ensures.bytes
