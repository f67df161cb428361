-- What each instruction computes, and when it jumps.
use Rattle.std.proofs.Common.{◌≡◌, ℕ, zero, suc, ◌+◌, Bool, true, false, not, nat_eq, nat_lt, nat_le, List, length, refl, ◌∙◌, arith}
use Rattle.std.proofs.lemmas.Bool.{lt-ltb}
use Rattle.iter_syntax.specs.declared.tree.BinaryOp.TheVariants as op
use Rattle.pulse_isa.specs.declared.instr.Instr.{Instr}
use Rattle.pulse_isa.specs.declared.instr.Instr.TheVariants.{Add, Sub, Mul, Div, Mod, And, Or, Xor, Shl, Shr, Jeq, Jne, Jlt, Jle}
use Rattle.pulse_isa.specs.Step.{State, On, jump_if, step}
use Rattle.iter_check.specs.Value.{word, apply}
use Rattle.flat_code.proofs.Base.{at, led}
use Rattle.flat_code.proofs.Operators.{Computes, Jumps}

pub is_add : Computes Add (λ x y. word (apply op.Add x y))
is_add d b c x y s hd hx hy = rw (hx, hy)

pub is_sub : Computes Sub (λ x y. word (apply op.Sub x y))
is_sub d b c x y s hd hx hy = rw (hx, hy)

pub is_mul : Computes Mul (λ x y. word (apply op.Mul x y))
is_mul d b c x y s hd hx hy = rw (hx, hy)

pub is_div : Computes Div (λ x y. word (apply op.Div x y))
is_div d b c x zero s hd hx hy = let lt = lt-ltb d (length s.regs) hd in rw (hx, hy, lt)
is_div d b c x (suc y) s hd hx hy = let lt = lt-ltb d (length s.regs) hd in rw (hx, hy, lt)

pub is_mod : Computes Mod (λ x y. word (apply op.Mod x y))
is_mod d b c x zero s hd hx hy = let lt = lt-ltb d (length s.regs) hd in rw (hx, hy, lt)
is_mod d b c x (suc y) s hd hx hy = let lt = lt-ltb d (length s.regs) hd in rw (hx, hy, lt)

pub is_and : Computes And (λ x y. word (apply op.BitAnd x y))
is_and d b c x y s hd hx hy = rw (hx, hy)

pub is_or : Computes Or (λ x y. word (apply op.BitOr x y))
is_or d b c x y s hd hx hy = rw (hx, hy)

pub is_xor : Computes Xor (λ x y. word (apply op.BitXor x y))
is_xor d b c x y s hd hx hy = rw (hx, hy)

pub is_shl : Computes Shl (λ x y. word (apply op.Shl x y))
is_shl d b c x y s hd hx hy = rw (hx, hy)

pub is_shr : Computes Shr (λ x y. word (apply op.Shr x y))
is_shr d b c x y s hd hx hy = rw (hx, hy)

jump_is : (b c : Bool) (to h : ℕ) (s : State) (regs : List ℕ) → b ≡ c → jump_if b to (at s h regs) ≡ On (at s (led true c to (h + 1)) regs)
jump_is true true to h s regs e = refl
jump_is true false to h s regs e = absurd cc
jump_is false true to h s regs e = absurd cc
jump_is false false to h s regs e = refl

pub jeq_is : (f : ℕ → ℕ → Bool) → ((x y : ℕ) → nat_eq x y ≡ f x y) → Jumps Jeq f
jeq_is f e b c to x y h s regs hx hy =
    let q : step (Jeq b c to) (at s h regs) ≡ jump_if (nat_eq x y) to (at s h regs) = rw (hx, hy) in q ∙ jump_is (nat_eq x y) (f x y) to h s regs (e x y)

pub jne_is : (f : ℕ → ℕ → Bool) → ((x y : ℕ) → not (nat_eq x y) ≡ f x y) → Jumps Jne f
jne_is f e b c to x y h s regs hx hy =
    let q : step (Jne b c to) (at s h regs) ≡ jump_if (not (nat_eq x y)) to (at s h regs) = rw (hx, hy) in q ∙ jump_is (not (nat_eq x y)) (f x y) to h s regs (e x y)

pub jlt_is : (f : ℕ → ℕ → Bool) → ((x y : ℕ) → nat_lt x y ≡ f x y) → Jumps Jlt f
jlt_is f e b c to x y h s regs hx hy =
    let q : step (Jlt b c to) (at s h regs) ≡ jump_if (nat_lt x y) to (at s h regs) = rw (hx, hy) in q ∙ jump_is (nat_lt x y) (f x y) to h s regs (e x y)

pub jle_is : (f : ℕ → ℕ → Bool) → ((x y : ℕ) → nat_le x y ≡ f x y) → Jumps Jle f
jle_is f e b c to x y h s regs hx hy =
    let q : step (Jle b c to) (at s h regs) ≡ jump_if (nat_le x y) to (at s h regs) = rw (hx, hy) in q ∙ jump_is (nat_le x y) (f x y) to h s regs (e x y)

-- the sides swapped
pub swapped : (i : ℕ → ℕ → ℕ → Instr) (f : ℕ → ℕ → Bool) → Jumps i f → Jumps (λ x y to. i y x to) (λ x y. f y x)
swapped i f j b c to x y h s regs hx hy = j c b to y x h s regs hy hx

pub not_not : (b : Bool) → b ≡ not (not b)
not_not true = refl
not_not false = refl

pub le_is : (x y : ℕ) → nat_le x y ≡ not (nat_lt y x)
le_is x y = grind arith

pub lt_is : (x y : ℕ) → nat_lt x y ≡ not (nat_le y x)
lt_is x y = grind arith
