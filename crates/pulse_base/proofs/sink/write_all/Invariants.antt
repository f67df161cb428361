use Rattle.std.proofs.Common.{length, ◌≡◌, ◌-◌, ◌≤◌}
use Rattle.pulse_base.proofs.WritingLemmas.{Wrote}
use Rattle.pulse_base.proofs.sink.write_all.Given as goal

abbrev pub invariant-pieces : goal.invariant-pieces
invariant-pieces g l = record {
  inside : l.at ≤ length l.bytes;
  wrote : Wrote (g.W.Sink.taken l.fn.out) (g.W.Sink.taken l.out) l.bytes l.at;
  kept : g.W.Sink.faults l.out ≡ g.W.Sink.faults l.fn.out;
}

abbrev pub decreases-pieces : goal.decreases-pieces
decreases-pieces g l = length l.bytes - l.at
