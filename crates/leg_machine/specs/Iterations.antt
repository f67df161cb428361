-- What an iteration and the beginning of a walk answer.
use Rattle.std.specs.Prelude.{◌≡◌, ℕ, List, length}
use Rattle.pulse_base.specs.declared.answer.Cause.TheVariants.{NotWritable, DivZero}
use Rattle.pulse_isa.specs.Step.{End, Faults}
use Rattle.pulse_isa.specs.Step as m
use Rattle.leg_machine.specs.declared.context.Context.{Context}
use Rattle.leg_machine.specs.declared.context.Ended.{Ended}
use Rattle.leg_machine.specs.declared.context.Ended.TheVariants as e
use Rattle.leg_machine.specs.declared.begin_walk.Begun.{Begun}
use Rattle.leg_machine.specs.declared.begin_walk.Begun.TheVariants as b

-- the answer, the context and the record are those of the end of a run: Done keeps the pointer, and a fault keeps
-- the record and the whole context
abbrev pub IsIteration : Ended → End → (was now : Context) → (old new : List ℕ) → Type 0
IsIteration e.Done end was now old new = (end ≡ m.Done new now.pad) × (now.cur ≡ was.cur)
IsIteration e.Go end was now old new = end ≡ m.Goes now.cur new now.pad
IsIteration e.NotWritable end was now old new = (end ≡ Faults NotWritable) × (now ≡ was) × (new ≡ old)
IsIteration e.DivZero end was now old new = (end ≡ Faults DivZero) × (now ≡ was) × (new ≡ old)

-- the end of a run over arguments, which it leaves as they are
abbrev pub end_of : Begun → (arguments : List ℕ) → End
end_of (b.Done pad) arguments = m.Done arguments pad
end_of (b.Go cur pad) arguments = m.Goes cur arguments pad
end_of b.DivZero arguments = Faults DivZero

-- the pad, if there is one, has this many bytes
abbrev pub HasPadOf : ℕ → Begun → Type 0
HasPadOf size (b.Done pad) = length pad ≡ size
HasPadOf size (b.Go cur pad) = length pad ≡ size
HasPadOf size b.DivZero = Unit {0}
