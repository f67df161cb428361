-- What the rules say of an instruction at its place, as facts by cases: with them its step is not stuck.
use Rattle.std.specs.Prelude.{◌≡◌, ℕ, ◌+◌, ◌<◌, ◌≤◌, true}
use Rattle.pulse_isa.specs.declared.instr.Instr.{Instr}
use Rattle.pulse_isa.specs.declared.instr.Instr.TheVariants.{Load, GetW, PutW, GetP, PutP, GetC, SetL, SetH, Mov, Add, Sub, Mul, Div, Mod, And, Or, Xor, Not, Shl, Shr, Jmp, Jeq, Jne, Jlt, Jle, Return, NextIter}
use Rattle.pulse_isa.specs.Bytes.{is_width}
use Rattle.pulse_isa.specs.Step.{Window, is_inside}

-- a number in w bytes at `off` of `size` bytes
pub record HasBytes (size off w : ℕ) : Type 0 where
  pub width : is_width w ≡ true
  pub within : off + w ≤ size

-- the same in the window
pub record HasSeen (size : ℕ) (window : Window) (off w : ℕ) : Type 0 where
  pub inside : is_inside window off w ≡ true
  pub bytes : HasBytes size off w

-- a jump goes up, and stays in the code
pub record GoesUp (len place to : ℕ) : Type 0 where
  pub above : place < to
  pub below : to < len

pub record FitsTwo (a b : ℕ) (len place : ℕ) : Type 0 where
  pub a_in : a < 16
  pub b_in : b < 16
  pub next : place + 1 < len

pub record FitsThree (a b c : ℕ) (len place : ℕ) : Type 0 where
  pub a_in : a < 16
  pub b_in : b < 16
  pub c_in : c < 16
  pub next : place + 1 < len

pub record FitsLoad (size : ℕ) (window : Window) (len place off n : ℕ) : Type 0 where
  pub first : place ≡ 0
  pub names : window ≡ record { off = off; len = n }
  pub within : off + n ≤ size
  pub next : place + 1 < len

-- the instruction at a place of code that has `len` places and whose first instruction names `window`, for a
-- record or arguments of `size` bytes and a pad of `pad` bytes
abbrev pub Fits : (size pad : ℕ) → Window → (len place : ℕ) → Instr → Type 0
Fits size pad window len place (Load off n) = FitsLoad size window len place off n
Fits size pad window len place (GetW a w off) = (a < 16) × HasSeen size window off w × (place + 1 < len)
Fits size pad window len place (PutW a w off) = (a < 16) × HasSeen size window off w × (place + 1 < len)
Fits size pad window len place (GetP a w off) = (a < 16) × HasBytes pad off w × (place + 1 < len)
Fits size pad window len place (PutP a w off) = (a < 16) × HasBytes pad off w × (place + 1 < len)
Fits size pad window len place (GetC a) = (a < 16) × (place + 1 < len)
Fits size pad window len place (SetL a imm) = (a < 16) × (place + 1 < len)
Fits size pad window len place (SetH a imm) = (a < 16) × (place + 1 < len)
Fits size pad window len place (Mov a b) = FitsTwo a b len place
Fits size pad window len place (Add a b c) = FitsThree a b c len place
Fits size pad window len place (Sub a b c) = FitsThree a b c len place
Fits size pad window len place (Mul a b c) = FitsThree a b c len place
Fits size pad window len place (Div a b c) = FitsThree a b c len place
Fits size pad window len place (Mod a b c) = FitsThree a b c len place
Fits size pad window len place (And a b c) = FitsThree a b c len place
Fits size pad window len place (Or a b c) = FitsThree a b c len place
Fits size pad window len place (Xor a b c) = FitsThree a b c len place
Fits size pad window len place (Not a b) = FitsTwo a b len place
Fits size pad window len place (Shl a b c) = FitsThree a b c len place
Fits size pad window len place (Shr a b c) = FitsThree a b c len place
Fits size pad window len place (Jmp to) = GoesUp len place to
Fits size pad window len place (Jeq a b to) = FitsTwo a b len place × GoesUp len place to
Fits size pad window len place (Jne a b to) = FitsTwo a b len place × GoesUp len place to
Fits size pad window len place (Jlt a b to) = FitsTwo a b len place × GoesUp len place to
Fits size pad window len place (Jle a b to) = FitsTwo a b len place × GoesUp len place to
Fits size pad window len place Return = Unit {0}
Fits size pad window len place (NextIter a) = a < 16
