-- The run of a leg's code at its record, which is the outcome of its iteration.
use Rattle.std.specs.Prelude.{ℕ, Bool, List, [], Option, Some, None, slice_get}
use Rattle.pulse_base.specs.declared.answer.Cause.TheVariants as cause
use Rattle.pulse_isa.specs.declared.instr.Instr.{Instr}
use Rattle.pulse_isa.specs.Step.{End, Faults, Stuck}
use Rattle.pulse_isa.specs.Step as s
use Rattle.code_verify.specs.Run.{run_body}
use Rattle.code_image.specs.declared.image.Image.{Image}
use Rattle.frame_codec.specs.declared.frame.Leg.{Leg}
use Rattle.run_rules.specs.Outcome.{Outcome}
use Rattle.run_rules.specs.Outcome as o

-- verified code is never stuck, so what stands there does not matter
abbrev pub outcome_of : End → Outcome
outcome_of (s.Done bytes pad) = o.Done bytes pad
outcome_of (s.Goes to bytes pad) = o.Goes to bytes pad
outcome_of (Faults c) = o.Faults c
outcome_of Stuck = o.Faults cause.DivZero

abbrev pub body_in : Option Image → List Instr
body_in None = []
body_in (Some image) = image.body_code

-- the code that runs a leg's iterations
abbrev pub body_of : List Image → Leg → List Instr
body_of images l = body_in (slice_get images l.program)

-- the run of a leg's code on its record
abbrev pub code_run : List Image → Leg → (bytes : List ℕ) (writable : Bool) → Outcome
code_run images l bytes writable = outcome_of (run_body (body_of images l) bytes l.pad l.cur writable)
