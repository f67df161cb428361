use Rattle.std.proofs.Common.{length, ◌≡◌, ◌-◌, ◌+◌}
use Rattle.pulse_base.proofs.ReadingLemmas.{Found}
use Rattle.pulse_base.proofs.reading.read_all.Given as goal

abbrev pub invariant-chunks : goal.invariant-chunks
invariant-chunks g l = Found (g.R.Source.left l.fn.src) (g.R.Source.left l.src) l.found × (g.R.Source.faults l.src ≡ g.R.Source.faults l.fn.src)

abbrev pub decreases-chunks : goal.decreases-chunks
decreases-chunks g l = l.max + 1 - length l.found
