-- What one instruction does: from the state before it to the state after it, or to the end of the run.
-- Where a register, a byte of the window or of the pad, or a width is lacking, the run is stuck.
use Rattle.std.specs.Prelude.{ℕ, zero, suc, ◌+◌, ◌-◌, ◌*◌, ◌/◌, ◌%◌, ◌^◌, Bool, true, false, ◌&&◌, nat_eq, nat_lt, nat_le, not, List, length, Option, Some, None, slice_get, slice_set, bit_and, bit_or, bit_xor}
use Rattle.pulse_base.specs.declared.answer.Cause.{Cause}
use Rattle.pulse_base.specs.declared.answer.Cause.TheVariants.{NotWritable, DivZero}
use Rattle.pulse_isa.specs.declared.instr.Instr.{Instr}
use Rattle.pulse_isa.specs.declared.instr.Instr.TheVariants.{Load, GetW, PutW, GetP, PutP, GetC, SetL, SetH, Mov, Add, Sub, Mul, Div, Mod, And, Or, Xor, Not, Shl, Shr, Jmp, Jeq, Jne, Jlt, Jle, Return, NextIter}
use Rattle.pulse_isa.specs.Bytes.{is_width, number_at, stored_at}

-- the part of the record, or of the arguments, that may be read and written
pub record Window : Type 0 where
  pub off : ℕ
  pub len : ℕ

-- `bytes` is the whole record, or in init the arguments; `cur` is the pointer to the record
pub record State : Type 0 where
  pub place : ℕ
  pub regs : List ℕ
  pub window : Window
  pub bytes : List ℕ
  pub pad : List ℕ
  pub cur : ℕ
  pub writable : Bool

-- how a run ends, with the record and the pad that it leaves: a fault leaves none
pub data End : Type 0 where
  Done : (bytes pad : List ℕ) → End
  Goes : (to : ℕ) (bytes pad : List ℕ) → End
  Faults : Cause → End
  Stuck : End

pub data After : Type 0 where
  On : State → After
  Ends : End → After

-- ---- what must be there

abbrev pub given : Bool → After → After
given true after = after
given false after = Ends Stuck

abbrev pub reading : {A : Type 0} → Option A → (A → After) → After
reading None f = Ends Stuck
reading (Some v) f = f v

abbrev pub with_reg : State → ℕ → (ℕ → After) → After
with_reg s a f = reading (slice_get s.regs a) f

abbrev pub with_regs : State → ℕ → ℕ → (ℕ → ℕ → After) → After
with_regs s b c f = with_reg s b (λ x. with_reg s c (λ y. f x y))

abbrev pub permitted : Bool → After → After
permitted true after = after
permitted false after = Ends (Faults NotWritable)

abbrev pub divisible : ℕ → After → After
divisible zero after = Ends (Faults DivZero)
divisible (suc y) after = after

-- ---- what changes

-- the next place, with v in register a
abbrev pub put : ℕ → ℕ → State → After
put a v s = given (nat_lt a (length s.regs)) (On (record s { place = s.place + 1; regs = slice_set s.regs a v }))

-- the same, of a quotient or a remainder by y
abbrev pub put_quotient : ℕ → ℕ → ℕ → State → After
put_quotient a y v s = given (nat_lt a (length s.regs)) (divisible y (put a v s))

abbrev pub put_pad : List ℕ → State → After
put_pad pad s = On (record s { place = s.place + 1; pad = pad })

abbrev pub put_bytes : List ℕ → State → After
put_bytes bytes s = On (record s { place = s.place + 1; bytes = bytes })

abbrev pub jump_if : Bool → ℕ → State → After
jump_if true to s = On (record s { place = to })
jump_if false to s = On (record s { place = s.place + 1 })

-- w bytes at `off` lie in the window
abbrev pub is_inside : Window → ℕ → ℕ → Bool
is_inside window off w = nat_le window.off off && nat_le (off + w) (window.off + window.len)

-- ---- the table

abbrev pub step : Instr → State → After
step (Load off len) s = given (nat_le (off + len) (length s.bytes)) (On (record s { place = s.place + 1; window = record { off = off; len = len } }))
step (GetW a w off) s = given (is_width w && is_inside s.window off w) (reading (number_at s.bytes off w) (λ v. put a v s))
step (PutW a w off) s = given (is_width w && is_inside s.window off w) (with_reg s a (λ v. reading (stored_at s.bytes off w v) (λ bytes. permitted s.writable (put_bytes bytes s))))
step (GetP a w off) s = given (is_width w) (reading (number_at s.pad off w) (λ v. put a v s))
step (PutP a w off) s = given (is_width w) (with_reg s a (λ v. reading (stored_at s.pad off w v) (λ pad. put_pad pad s)))
step (GetC a) s = put a s.cur s
step (SetL a imm) s = put a imm s
step (SetH a imm) s = with_reg s a (λ x. put a (x % 2 ^ 32 + imm * 2 ^ 32) s)
step (Mov a b) s = with_reg s b (λ x. put a x s)
step (Add a b c) s = with_regs s b c (λ x y. put a ((x + y) % 2 ^ 64) s)
step (Sub a b c) s = with_regs s b c (λ x y. put a ((x + (2 ^ 64 - y)) % 2 ^ 64) s)
step (Mul a b c) s = with_regs s b c (λ x y. put a ((x * y) % 2 ^ 64) s)
step (Div a b c) s = with_regs s b c (λ x y. put_quotient a y (x / y) s)
step (Mod a b c) s = with_regs s b c (λ x y. put_quotient a y (x % y) s)
step (And a b c) s = with_regs s b c (λ x y. put a (bit_and x y) s)
step (Or a b c) s = with_regs s b c (λ x y. put a (bit_or x y) s)
step (Xor a b c) s = with_regs s b c (λ x y. put a (bit_xor x y) s)
step (Not a b) s = with_reg s b (λ x. put a (2 ^ 64 - 1 - x) s)
step (Shl a b c) s = with_regs s b c (λ x y. put a ((x * 2 ^ (y % 64)) % 2 ^ 64) s)
step (Shr a b c) s = with_regs s b c (λ x y. put a (x / 2 ^ (y % 64)) s)
step (Jmp to) s = jump_if true to s
step (Jeq a b to) s = with_regs s a b (λ x y. jump_if (nat_eq x y) to s)
step (Jne a b to) s = with_regs s a b (λ x y. jump_if (not (nat_eq x y)) to s)
step (Jlt a b to) s = with_regs s a b (λ x y. jump_if (nat_lt x y) to s)
step (Jle a b to) s = with_regs s a b (λ x y. jump_if (nat_le x y) to s)
step Return s = Ends (Done s.bytes s.pad)
step (NextIter a) s = with_reg s a (λ x. Ends (Goes x s.bytes s.pad))
