-- What is true of each run of verified code.
use Rattle.std.specs.Prelude.{◌≡◌, ◌≢◌, ℕ, ◌<◌, Bool, List, length, Some, slice_get}
use Rattle.pulse_isa.specs.declared.instr.Instr.{Instr}
use Rattle.pulse_isa.specs.Step.{State, Stuck, On, step}
use Rattle.code_verify.specs.declared.bad.Sizes.{Sizes}
use Rattle.code_verify.specs.Run.{run, start}
use Rattle.code_verify.specs.Rules.{target_of}

-- a run over a record, or over arguments, and a pad of those sizes comes to an end that is not Stuck
abbrev pub IsNeverStuck : Sizes → List Instr → Type 0
IsNeverStuck sizes code = (bytes pad : List ℕ) (cur : ℕ) (writable : Bool) → length bytes ≡ sizes.window → length pad ≡ sizes.pad → run 0 code (start bytes pad cur writable) ≢ Stuck

-- each jump goes to a higher place of the code
abbrev pub JumpsUp : List Instr → Type 0
JumpsUp code = (place : ℕ) (i : Instr) (to : ℕ) → slice_get code place ≡ Some i → target_of i ≡ Some to → (place < to) × (to < length code)

-- state t comes after state s, by one instruction or by more
pub data ComesAfter (code : List Instr) : State → State → Type 0 where
  at_once : {s t : State} (i : Instr) → slice_get code s.place ≡ Some i → step i s ≡ On t → ComesAfter code s t
  later : {s t u : State} (i : Instr) → slice_get code s.place ≡ Some i → step i s ≡ On t → ComesAfter code t u → ComesAfter code s u

-- no place is passed twice: a later state is at a higher place
abbrev pub PassesOnce : List Instr → Type 0
PassesOnce code = (s t : State) → ComesAfter code s t → s.place < t.place
