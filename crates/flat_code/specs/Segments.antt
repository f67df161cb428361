-- The instructions of both segments of an image, and the laws that they do what the flat program means.
use Rattle.std.specs.Prelude.{◌≡◌, ℕ, ◌+◌, ◌*◌, ◌^◌, ◌<◌, ◌≤◌, All, Bool, true, false, List, [], ◌∷◌, ◌++◌, length, replicate}
use Rattle.pulse_isa.specs.declared.instr.Instr.{Instr}
use Rattle.pulse_isa.specs.declared.instr.Instr.TheVariants.{Load, Return}
use Rattle.code_verify.specs.Run.{run_body, run_init, argument_bytes}
use Rattle.iter_unroll.specs.Flat.{Fs, flat_meaning, flat_iterated, start, flat_iteration}
use Rattle.flat_code.specs.Frame.{Frame, FsFits, end_of}
use Rattle.flat_code.specs.Statements.{sts_len, sts_code}

-- ---- the body: one LOAD of a window, end, next where end falls through, and a RETURN where next does

abbrev pub body_code : ℕ → ℕ → Fs → Fs → List Instr
body_code off len end_part next_part = Load off len ∷ (sts_code end_part 1 ++ (sts_code next_part (1 + sts_len end_part) ++ Return ∷ []))

abbrev pub body_frame : ℕ → ℕ → ℕ → ℕ → Frame
body_frame off len size pad = record { init = false; window = record { off = off; len = len }; size = size; pad = pad; args = 0; given = [] }

-- a run of the body is an iteration
abbrev pub BodyLaw : Type 0
BodyLaw =
    (off len cur : ℕ) (writable : Bool) (end_part next_part : Fs) (bytes pad : List ℕ)
    → off + len ≤ length bytes
    → FsFits (body_frame off len (length bytes) (length pad)) end_part
    → FsFits (body_frame off len (length bytes) (length pad)) next_part
    → run_body (body_code off len end_part next_part) bytes pad cur writable
    ≡ end_of (body_frame off len (length bytes) (length pad)) (flat_iteration (record { args = []; cur = cur; writable = writable }) end_part next_part bytes pad)

-- ---- init: one LOAD of all the arguments, init, and a RETURN

abbrev pub init_code : ℕ → Fs → List Instr
init_code args init_part = Load 0 (8 * args) ∷ (sts_code init_part 1 ++ Return ∷ [])

abbrev pub init_frame : List ℕ → ℕ → Frame
init_frame args pad = record { init = true; window = record { off = 0; len = 8 * length args }; size = 8 * length args; pad = pad; args = length args; given = argument_bytes args }

-- a run of init begins a walk
abbrev pub InitLaw : Type 0
InitLaw =
    (init_part : Fs) (args : List ℕ) (pad : ℕ)
    → All (λ v. v < 2 ^ 64) args
    → FsFits (init_frame args pad) init_part
    → run_init (init_code (length args) init_part) args pad
    ≡ end_of (init_frame args pad) (flat_iterated (flat_meaning (record { args = args; cur = 0; writable = true }) init_part (start [] (replicate pad 0))))
