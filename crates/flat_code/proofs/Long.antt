-- How many instructions there are, wherever they stand.
use Rattle.std.proofs.Common.{◌≡◌, ◌≢◌, ℕ, zero, suc, ◌+◌, ◌/◌, ◌^◌, Bool, true, false, not, if◌then◌else◌, nat_eq, List, [], ◌∷◌, ◌++◌, length, Option, Some, None, refl, ap, arith, length-append}
use Rattle.std.proofs.lemmas.Bool.{eq-eqb}
use Rattle.iter_syntax.specs.declared.tree.BinaryOp.{BinaryOp}
use Rattle.iter_syntax.specs.declared.tree.BinaryOp.TheVariants as op
use Rattle.pulse_isa.specs.declared.instr.Instr.{Instr}
use Rattle.pulse_isa.specs.declared.instr.Instr.TheVariants.{SetL, Mov, Not, Jmp}
use Rattle.iter_unroll.specs.Flat.{Fx}
use Rattle.iter_unroll.specs.Flat as x
use Rattle.flat_code.specs.declared.operator.Way.{Way}
use Rattle.flat_code.specs.declared.operator.Way.TheVariants as w
use Rattle.flat_code.specs.Operator.{way_of, computes, jumps}
use Rattle.flat_code.specs.Code.{Code, test, at_home, by_value, by_branch, operand, unless_home, len_unless_home, operand_code, operand_len, two_code, flip_code, not_code, compute, compare, move, joined_target, joined, by_way, number_code, num_code, one_code, code_of}

pub record Long (c : Code) : Type 0 where
  pub value : (t here : ℕ) → length (c.value t t here) ≡ c.value_len
  pub slot : (d t here : ℕ) → d ≢ t → length (c.value d t here) ≡ c.slot_len
  pub branch : (sense : Bool) (to t here : ℕ) → length (c.branch sense to t here) ≡ c.branch_len

-- ---- the three ways

pub at_home_long : (k : ℕ) → Long (at_home k)
at_home_long k = record { value = λ t here. refl; slot = λ d t here ne. refl; branch = λ sense to t here. refl }

pub by_value_long : (v : ℕ → ℕ → ℕ → List Instr) (n : ℕ) → ((d t here : ℕ) → length (v d t here) ≡ n) → Long (by_value v n)
by_value_long v n long = record {
  value = λ t here. long t t here;
  slot = λ d t here ne. long d t here;
  branch = λ sense to t here. omega (arith, length-append (v t t here) (test sense t to ∷ []), long t t here);
}

pub by_branch_long : (c : Bool → ℕ → ℕ → ℕ → List Instr) (n : ℕ) → ((sense : Bool) (to t here : ℕ) → length (c sense to t here) ≡ n) → Long (by_branch c n)
by_branch_long c n long = record {
  value = λ t here. set_long t t here;
  slot = λ d t here ne. set_long d t here;
  branch = long;
}
  where
    set_long : (d t here : ℕ) → length (c false (here + n + 2) t here ++ (SetL d 1 ∷ Jmp (here + n + 3) ∷ SetL d 0 ∷ [])) ≡ n + 3
    set_long d t here = omega (arith, length-append (c false (here + n + 2) t here) (SetL d 1 ∷ Jmp (here + n + 3) ∷ SetL d 0 ∷ []), long false (here + n + 2) t here)

-- ---- operands

pub operand_long : (c : Code) → Long c → (t here : ℕ) → length (operand_code c t here) ≡ operand_len c
operand_long c l t here = by_case c.home
  where
    by_case : (home : Option ℕ) → length (unless_home home (c.value t t here)) ≡ len_unless_home home c.value_len
    by_case None = l.value t here
    by_case (Some k) = refl

pub two_long : (a b : Code) → Long a → Long b → (t here : ℕ) → length (two_code a b t here) ≡ operand_len a + operand_len b
two_long a b la lb t here =
    let ca = operand_code a t here in
    let cb = operand_code b (t + 1) (here + operand_len a) in
    omega (arith, length-append ca cb, operand_long a la t here, operand_long b lb (t + 1) (here + operand_len a))

-- ---- operators

pub flip_length : (a : Code) → Long a → (d t here : ℕ) → length (operand_code a t here ++ Not d (operand a.home t) ∷ []) ≡ operand_len a + 1
flip_length a l d t here = omega (arith, length-append (operand_code a t here) (Not d (operand a.home t) ∷ []), operand_long a l t here)

pub flip_long : (a : Code) → Long a → Long (flip_code a)
flip_long a l = by_value_long _ _ (flip_length a l)

pub not_long : (a : Code) → Long a → Long (not_code a)
not_long a l = by_branch_long _ _ (λ sense to t here. l.branch (not sense) to t here)

pub two_length : (a b : Code) → Long a → Long b → (t here : ℕ) (i : Instr) → length (two_code a b t here ++ i ∷ []) ≡ operand_len a + operand_len b + 1
two_length a b la lb t here i = omega (arith, length-append (two_code a b t here) (i ∷ []), two_long a b la lb t here)

pub compute_long : (i : ℕ → ℕ → ℕ → Instr) (a b : Code) → Long a → Long b → Long (compute i a b)
compute_long i a b la lb = by_value_long _ _ (λ d t here. two_length a b la lb t here (i d (operand a.home t) (operand b.home (t + 1))))

pub compare_long : (j : Bool → ℕ → ℕ → ℕ → Instr) (a b : Code) → Long a → Long b → Long (compare j a b)
compare_long j a b la lb = by_branch_long _ _ (λ sense to t here. two_length a b la lb t here (j sense (operand a.home t) (operand b.home (t + 1)) to))

move_same : (t : ℕ) → length (move t t) ≡ 0
move_same t = let same : nat_eq t t ≡ true = eq-eqb t t refl in ap (λ (c : Bool). length (if c then [] else Mov t t ∷ [])) same

move_other : (d t : ℕ) → d ≢ t → length (move d t) ≡ 1
move_other d t ne = let other : nat_eq d t ≡ false = grind arith in ap (λ (c : Bool). length (if c then [] else Mov d t ∷ [])) other

pub joined_long : (short : Bool) (a b : Code) → Long a → Long b → Long (joined short a b)
joined_long short a b la lb = record {
  value = λ t here. omega (arith, both t t here, move_same t);
  slot = λ d t here ne. omega (arith, both d t here, move_other d t ne);
  branch = λ sense to t here.
      let h1 = here + a.branch_len in
      let target = joined_target short sense to (h1 + b.branch_len) in
      omega (arith, length-append (a.branch short target t here) (b.branch sense to t h1), la.branch short target t here, lb.branch sense to t h1);
}
  where
    both : (d t here : ℕ) → length ((joined short a b).value d t here) ≡ a.value_len + 1 + b.value_len + length (move d t)
    both d t here =
        let h1 = here + a.value_len in
        let ca = a.value t t here in
        let cb = b.value t t (h1 + 1) in
        omega (arith, length-append ca (test short t (h1 + 1 + b.value_len) ∷ (cb ++ move d t)), length-append cb (move d t), la.value t here, lb.value t (h1 + 1))

pub way_long : (o : BinaryOp) (way : Way) (a b : Code) → Long a → Long b → Long (by_way way o a b)
way_long o (w.Joined short) a b la lb = joined_long short a b la lb
way_long o w.Compared a b la lb = compare_long (jumps o) a b la lb
way_long o w.Computed a b la lb = compute_long (computes o) a b la lb

-- ---- expressions

pub number_long : (n h : ℕ) → Long (number_code n h)
number_long n zero = by_value_long _ 1 (λ d t here. refl)
number_long n (suc h) = by_value_long _ 2 (λ d t here. refl)

pub num_long : (n : ℕ) → Long (num_code n)
num_long zero = at_home_long 15
num_long (suc n) = number_long (suc n) (suc n / 2 ^ 32)

pub one_long : (i : ℕ → Instr) → Long (one_code i)
one_long i = by_value_long _ 1 (λ d t here. refl)

pub code_long : (e : Fx) → Long (code_of e)
code_long (x.num n) = num_long n
code_long x.null = at_home_long 15
code_long (x.arg k) = one_long _
code_long (x.slot k) = at_home_long k
code_long x.cur = one_long _
code_long (x.cur_field o w) = one_long _
code_long (x.pad_field o w) = one_long _
code_long (x.not e) = not_long _ (code_long e)
code_long (x.flip e) = flip_long _ (code_long e)
code_long (x.bin o a b) = way_long o (way_of o) _ _ (code_long a) (code_long b)
code_long (x.at a b) = compute_long (computes op.Add) _ _ (code_long a) (code_long b)
