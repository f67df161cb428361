use Rattle.std.proofs.Common.{refl, arith, inl, inr, subst, Contains}
use Rattle.pulse_base.proofs.mem_sink.MemSinkSink.write.Goals as goal
use Rattle.pulse_base.proofs.mem_sink.MemSinkSink.write.Goals.{then-left-eq0-via-then-left-eq0, then-left-eq0-via-else-left-eq0+then-is_listed}

pub returns-then-left-eq0-clause-fails : goal.returns-then-left-eq0-clause-fails
returns-then-left-eq0-clause-fails c = (
  λ _. elim c.then-left-eq0.branch [
    | then-left-eq0-via-then-left-eq0 w ↦ rw (← c.self.view_is) (inr (omega arith))
    | then-left-eq0-via-else-left-eq0+then-is_listed w ↦ rw (← c.self.view_is) (inl (subst (λ l. Contains l c.self.inside.calls) w.as_slice.ensures (w.is_listed.ensures.0 w.if-is_listed.true)))
  ],
  λ _. refl,
)
