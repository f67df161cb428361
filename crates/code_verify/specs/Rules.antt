-- The rules of the verifier: what holds of each instruction of verified code, by its place.
use Rattle.std.specs.Prelude.{◌≡◌, ℕ, ◌+◌, ◌<◌, ◌≤◌, ◌⊎◌, Bool, true, false, not, ◌&&◌, ◌||◌, nat_eq, nat_lt, nat_le, List, ◌∷◌, length, Option, Some, None, slice_get, All}
use Rattle.pulse_isa.specs.declared.instr.Instr.{Instr}
use Rattle.pulse_isa.specs.declared.instr.Instr.TheVariants.{Load, GetW, PutW, GetP, PutP, GetC, Return, NextIter}
use Rattle.pulse_isa.specs.declared.row.Operands.{Operands}
use Rattle.pulse_isa.specs.declared.row.Operands.TheVariants as o
use Rattle.pulse_isa.specs.Table.{row}
use Rattle.pulse_isa.specs.Spelling.{HasSpelling}
use Rattle.pulse_isa.specs.Step.{Window, is_inside}
use Rattle.code_verify.specs.declared.bad.Sizes.{Sizes}
use Rattle.code_verify.specs.declared.bad.Bad.{Bad}
use Rattle.code_verify.specs.declared.bad.BadKind.{BadKind}
use Rattle.code_verify.specs.declared.bad.BadKind.TheVariants as b

abbrev pub is_load : Instr → Bool
is_load (Load off len) = true
is_load _ = false

-- the window that the first instruction names
abbrev pub window_of : List Instr → Window
window_of (Load off len ∷ is) = record { off = off; len = len }
window_of _ = record { off = 0; len = 0 }

-- ---- the rules

-- each register that the operands name is one of the sixteen
abbrev pub are_registers : Operands → Bool
are_registers (o.Window off len) = true
are_registers (o.Access a w off) = nat_lt a 16
are_registers (o.Register a) = nat_lt a 16
are_registers (o.Constant a imm) = nat_lt a 16
are_registers (o.TwoRegisters a b) = nat_lt a 16 && nat_lt b 16
are_registers (o.ThreeRegisters a b c) = nat_lt a 16 && nat_lt b 16 && nat_lt c 16
are_registers (o.Target to) = true
are_registers (o.Branch a b to) = nat_lt a 16 && nat_lt b 16
are_registers o.Nothing = true

abbrev pub registers_fit : Instr → Bool
registers_fit i = are_registers (row i).operands

-- init has no record: it stores to none, and there is no pointer to it
abbrev pub kind_fits : Bool → Instr → Bool
kind_fits init (PutW a w off) = not init
kind_fits init (GetC a) = not init
kind_fits init _ = true

-- the window lies in the record or the arguments, which have `size` bytes, and what is read and stored in the window
abbrev pub window_fits : ℕ → Window → Instr → Bool
window_fits size window (Load off len) = nat_le (off + len) size
window_fits size window (GetW a w off) = is_inside window off w
window_fits size window (PutW a w off) = is_inside window off w
window_fits size window _ = true

abbrev pub pad_fits : ℕ → Instr → Bool
pad_fits size (GetP a w off) = nat_le (off + w) size
pad_fits size (PutP a w off) = nat_le (off + w) size
pad_fits size _ = true

-- the target of a jump
abbrev pub target_in : Operands → Option ℕ
target_in (o.Target to) = Some to
target_in (o.Branch a b to) = Some to
target_in _ = None

abbrev pub target_of : Instr → Option ℕ
target_of i = target_in (row i).operands

-- a jump goes to a place above its own, and below the length
abbrev pub jump_fits : ℕ → ℕ → Option ℕ → Bool
jump_fits len place None = true
jump_fits len place (Some to) = nat_lt place to && nat_lt to len

-- the run ends here
abbrev pub is_end : Instr → Bool
is_end Return = true
is_end (NextIter a) = true
is_end _ = false

-- ---- the first that is broken

-- the kind where its rule does not hold, else what is broken of the rest
abbrev pub unless : Bool → BadKind → Option BadKind → Option BadKind
unless true k rest = rest
unless false k rest = Some k

-- the first rule that the instruction at a place breaks, in code of `len` places with that window
abbrev pub broken_in : Sizes → Window → ℕ → ℕ → Instr → Option BadKind
broken_in sizes window len place i =
    unless (nat_lt 0 place || is_load i) b.NoLoad (
    unless (nat_eq place 0 || not (is_load i)) b.SecondLoad (
    unless (registers_fit i) b.Register (
    unless (kind_fits sizes.init i) b.Kind (
    unless (window_fits sizes.window window i) b.Window (
    unless (pad_fits sizes.pad i) b.Pad (
    unless (jump_fits len place (target_of i)) b.Jump (
    unless (nat_lt (place + 1) len || is_end i) b.FallsOff
    None)))))))

abbrev pub broken_at : Sizes → List Instr → ℕ → Instr → Option BadKind
broken_at sizes code place i = broken_in sizes (window_of code) (length code) place i

-- no rule is broken at a place below `n`
abbrev pub IsUnbrokenBelow : ℕ → Sizes → List Instr → Type 0
IsUnbrokenBelow n sizes code = (place : ℕ) (i : Instr) → place < n → slice_get code place ≡ Some i → broken_at sizes code place i ≡ None

-- code that keeps every rule
pub record Verified (sizes : Sizes) (code : List Instr) : Type 0 where
  pub some : 0 < length code
  pub short : length code ≤ 8192
  pub spelled : All HasSpelling code
  pub unbroken : IsUnbrokenBelow (length code) sizes code

-- the first rule that is broken at some place, with none broken at an earlier place
pub record BreaksFirst (sizes : Sizes) (code : List Instr) (bad : Bad) : Type 0 where
  pub instr : Instr
  pub some : 0 < length code
  pub short : length code ≤ 8192
  pub stands : slice_get code bad.at ≡ Some instr
  pub broken : broken_at sizes code bad.at instr ≡ Some bad.kind
  pub before : IsUnbrokenBelow bad.at sizes code

-- the first rule that code breaks, and where
abbrev pub IsFirstBad : Sizes → List Instr → Bad → Type 0
IsFirstBad sizes code bad =
    ((length code ≡ 0) × (bad ≡ record { at = 0; kind = b.Empty }))
    ⊎ ((8192 < length code) × (bad ≡ record { at = 8192; kind = b.TooLong }))
    ⊎ BreaksFirst sizes code bad
