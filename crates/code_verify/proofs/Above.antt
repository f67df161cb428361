-- A step of an instruction that fits its place leads to a higher place, if it leads on.
use Rattle.std.proofs.Common.{◌≡◌, ℕ, zero, suc, ◌+◌, ◌-◌, ◌*◌, ◌/◌, ◌%◌, ◌^◌, ◌<◌, Bool, true, false, not, ◌&&◌, nat_eq, nat_lt, nat_le, bit_and, bit_or, bit_xor, List, length, Option, Some, None, subst, arith}
use Rattle.std.specs.List.{slice_get}
use Rattle.pulse_isa.specs.declared.instr.Instr.{Instr}
use Rattle.pulse_isa.specs.declared.instr.Instr.TheVariants.{Load, GetW, PutW, GetP, PutP, GetC, SetL, SetH, Mov, Add, Sub, Mul, Div, Mod, And, Or, Xor, Not, Shl, Shr, Jmp, Jeq, Jne, Jlt, Jle, Return, NextIter}
use Rattle.pulse_isa.specs.Step.{Window, State, After, On, Ends, given, reading, with_reg, with_regs, permitted, divisible, put, put_quotient, put_pad, put_bytes, jump_if, is_inside, step, Goes}
use Rattle.pulse_isa.specs.Bytes.{is_width, number_at, stored_at}
use Rattle.code_verify.specs.declared.bad.Sizes.{Sizes}
use Rattle.code_verify.specs.Rules.{Verified}
use Rattle.code_verify.specs.Fits.{Fits}
use Rattle.code_verify.specs.Laws.{ComesAfter, at_once, later}
use Rattle.code_verify.proofs.Keeps.{fits_in}

abbrev Above : ℕ → After → Type 0
Above place (On t) = place < t.place
Above place (Ends end) = Unit {0}

above_given : (p : ℕ) (b : Bool) (after : After) → Above p after → Above p (given b after)
above_given p true after h = h
above_given p false after h = tt

above_reading : {A : Type 0} (p : ℕ) (o : Option A) (f : A → After) → ((v : A) → Above p (f v)) → Above p (reading o f)
above_reading p None f h = tt
above_reading p (Some v) f h = h v

above_permitted : (p : ℕ) (b : Bool) (after : After) → Above p after → Above p (permitted b after)
above_permitted p true after h = h
above_permitted p false after h = tt

above_divisible : (p y : ℕ) (after : After) → Above p after → Above p (divisible y after)
above_divisible p zero after h = tt
above_divisible p (suc y) after h = h

next_above : (place : ℕ) → place < place + 1
next_above place = omega arith

above_put : (a v : ℕ) (s : State) → Above s.place (put a v s)
above_put a v s = above_given s.place (nat_lt a (length s.regs)) _ (next_above s.place)

above_jump : (b : Bool) (to : ℕ) (s : State) → s.place < to → Above s.place (jump_if b to s)
above_jump true to s h = h
above_jump false to s h = next_above s.place

-- ---- by the shapes of the table's lines

above_get : (b : Bool) (o : Option ℕ) (a : ℕ) (s : State) → Above s.place (given b (reading o (λ v. put a v s)))
above_get b o a s = above_given s.place b (reading o (λ v. put a v s)) (above_reading s.place o (λ v. put a v s) (λ v. above_put a v s))

above_store : (b : Bool) (o : ℕ → Option (List ℕ)) (f : List ℕ → After) (a : ℕ) (s : State) → ((bytes : List ℕ) → Above s.place (f bytes)) → Above s.place (given b (with_reg s a (λ v. reading (o v) f)))
above_store b o f a s h =
    above_given s.place b (with_reg s a (λ v. reading (o v) f))
    (above_reading s.place (slice_get s.regs a) (λ v. reading (o v) f) (λ v. above_reading s.place (o v) f h))

above_unary : (g : ℕ → ℕ) (a b : ℕ) (s : State) → Above s.place (with_reg s b (λ x. put a (g x) s))
above_unary g a b s = above_reading s.place (slice_get s.regs b) (λ x. put a (g x) s) (λ x. above_put a (g x) s)

above_pair : (f : ℕ → ℕ → After) (b c : ℕ) (s : State) → ((x y : ℕ) → Above s.place (f x y)) → Above s.place (with_regs s b c f)
above_pair f b c s h =
    above_reading s.place (slice_get s.regs b) (λ x. with_reg s c (λ y. f x y))
    (λ x. above_reading s.place (slice_get s.regs c) (λ y. f x y) (h x))

above_binary : (g : ℕ → ℕ → ℕ) (a b c : ℕ) (s : State) → Above s.place (with_regs s b c (λ x y. put a (g x y) s))
above_binary g a b c s = above_pair (λ x y. put a (g x y) s) b c s (λ x y. above_put a (g x y) s)

above_division : (g : ℕ → ℕ → ℕ) (a b c : ℕ) (s : State) → Above s.place (with_regs s b c (λ x y. put_quotient a y (g x y) s))
above_division g a b c s =
    above_pair (λ x y. put_quotient a y (g x y) s) b c s
    (λ x y. above_given s.place (nat_lt a (length s.regs)) (divisible y (put a (g x y) s)) (above_divisible s.place y (put a (g x y) s) (above_put a (g x y) s)))

above_branch : (test : ℕ → ℕ → Bool) (a b to : ℕ) (s : State) → s.place < to → Above s.place (with_regs s a b (λ x y. jump_if (test x y) to s))
above_branch test a b to s h = above_pair (λ x y. jump_if (test x y) to s) a b s (λ x y. above_jump (test x y) to s h)

-- ---- each instruction

above : (size pad : ℕ) (window : Window) (len : ℕ) (i : Instr) (s : State) → Fits size pad window len s.place i → Above s.place (step i s)
above size pad window len (Load off n) s f = above_given s.place (nat_le (off + n) (length s.bytes)) (On (record s { place = s.place + 1; window = record { off = off; len = n } })) (next_above s.place)
above size pad window len (GetW a w off) s f = above_get (is_width w && is_inside s.window off w) (number_at s.bytes off w) a s
above size pad window len (PutW a w off) s f = above_store (is_width w && is_inside s.window off w) (stored_at s.bytes off w) (λ bytes. permitted s.writable (put_bytes bytes s)) a s (λ bytes. above_permitted s.place s.writable (put_bytes bytes s) (next_above s.place))
above size pad window len (GetP a w off) s f = above_get (is_width w) (number_at s.pad off w) a s
above size pad window len (PutP a w off) s f = above_store (is_width w) (stored_at s.pad off w) (λ pad. put_pad pad s) a s (λ pad. next_above s.place)
above size pad window len (GetC a) s f = above_put a s.cur s
above size pad window len (SetL a imm) s f = above_put a imm s
above size pad window len (SetH a imm) s f = above_unary (λ x. x % 2 ^ 32 + imm * 2 ^ 32) a a s
above size pad window len (Mov a b) s f = above_unary (λ x. x) a b s
above size pad window len (Add a b c) s f = above_binary (λ x y. (x + y) % 2 ^ 64) a b c s
above size pad window len (Sub a b c) s f = above_binary (λ x y. (x + (2 ^ 64 - y)) % 2 ^ 64) a b c s
above size pad window len (Mul a b c) s f = above_binary (λ x y. (x * y) % 2 ^ 64) a b c s
above size pad window len (Div a b c) s f = above_division (λ x y. x / y) a b c s
above size pad window len (Mod a b c) s f = above_division (λ x y. x % y) a b c s
above size pad window len (And a b c) s f = above_binary bit_and a b c s
above size pad window len (Or a b c) s f = above_binary bit_or a b c s
above size pad window len (Xor a b c) s f = above_binary bit_xor a b c s
above size pad window len (Not a b) s f = above_unary (λ x. 2 ^ 64 - 1 - x) a b s
above size pad window len (Shl a b c) s f = above_binary (λ x y. (x * 2 ^ (y % 64)) % 2 ^ 64) a b c s
above size pad window len (Shr a b c) s f = above_binary (λ x y. x / 2 ^ (y % 64)) a b c s
above size pad window len (Jmp to) s f = f.above
above size pad window len (Jeq a b to) s f = above_branch nat_eq a b to s f.1.above
above size pad window len (Jne a b to) s f = above_branch (λ x y. not (nat_eq x y)) a b to s f.1.above
above size pad window len (Jlt a b to) s f = above_branch nat_lt a b to s f.1.above
above size pad window len (Jle a b to) s f = above_branch nat_le a b to s f.1.above
above size pad window len Return s f = tt
above size pad window len (NextIter a) s f = above_reading s.place (slice_get s.regs a) (λ x. Ends (Goes x s.bytes s.pad)) (λ x. tt)

pub step_above : (sizes : Sizes) (code : List Instr) → Verified sizes code → (i : Instr) (s t : State) → slice_get code s.place ≡ Some i → step i s ≡ On t → s.place < t.place
step_above sizes code v i s t stands leads = subst (Above s.place) leads (above _ _ _ _ i s (fits_in sizes code v s.place i stands))

pub passes_once : (sizes : Sizes) (code : List Instr) → Verified sizes code → (s t : State) → ComesAfter code s t → s.place < t.place
passes_once sizes code v s t (at_once i stands leads) = step_above sizes code v i s t stands leads
passes_once sizes code v s u (later {t = t} i stands leads rest) =
    let first = step_above sizes code v i s t stands leads in
    let others = passes_once sizes code v t u rest in
    omega arith
