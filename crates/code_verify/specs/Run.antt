-- The run of code: instruction by instruction from place 0, over the places that are left.
use Rattle.std.specs.Prelude.{ℕ, ◌+◌, if◌then◌else◌, nat_eq, Bool, false, List, [], ◌∷◌, ◌++◌, replicate}
use Rattle.pulse_isa.specs.declared.instr.Instr.{Instr}
use Rattle.pulse_isa.specs.Bytes.{low_bytes}
use Rattle.pulse_isa.specs.Step.{State, End, Stuck, After, On, Ends, step}

-- where a step leads, if `next` says where its state leads
abbrev pub follow : After → (State → End) → End
follow (On s) next = next s
follow (Ends end) next = end

-- the run over the places from `here` on: each place but the state's is passed over
abbrev pub run : ℕ → List Instr → State → End
run here [] s = Stuck
run here (i ∷ is) s = if nat_eq here s.place then follow (step i s) (run (here + 1) is) else run (here + 1) is s

-- the state in which a segment starts
abbrev pub start : List ℕ → List ℕ → ℕ → Bool → State
start bytes pad cur writable =
    record { place = 0; regs = replicate 16 0; window = record { off = 0; len = 0 }; bytes = bytes; pad = pad; cur = cur; writable = writable }

-- the body: one iteration at the record whose pointer is `cur`
abbrev pub run_body : List Instr → (bytes pad : List ℕ) (cur : ℕ) (writable : Bool) → End
run_body code bytes pad cur writable = run 0 code (start bytes pad cur writable)

-- the arguments, 8 bytes each
abbrev pub argument_bytes : List ℕ → List ℕ
argument_bytes [] = []
argument_bytes (v ∷ vs) = low_bytes 8 v ++ argument_bytes vs

-- init: it has the arguments, a zero pad and no record
abbrev pub run_init : List Instr → (args : List ℕ) (pad_size : ℕ) → End
run_init code args pad_size = run 0 code (start (argument_bytes args) (replicate pad_size 0) 0 false)
