-- The instructions of an expression: as a value in a register, and as a jump by its truth.
-- Register i holds slot i, for i below 8; r8 to r14 are for what is computed on the way; r15 is never written, so it is 0.
use Rattle.std.specs.Prelude.{ℕ, zero, suc, ◌+◌, ◌*◌, ◌/◌, ◌%◌, ◌^◌, Bool, true, false, not, nat_eq, if◌then◌else◌, List, [], ◌∷◌, ◌++◌, Option, Some, None, max}
use Rattle.iter_syntax.specs.declared.tree.BinaryOp.{BinaryOp}
use Rattle.iter_syntax.specs.declared.tree.BinaryOp.TheVariants as op
use Rattle.pulse_isa.specs.declared.instr.Instr.{Instr}
use Rattle.pulse_isa.specs.declared.instr.Instr.TheVariants.{GetW, GetP, GetC, SetL, SetH, Mov, Not, Jmp, Jeq, Jne}
use Rattle.iter_check.specs.Layout.{width_bytes}
use Rattle.iter_unroll.specs.Flat.{Fx}
use Rattle.iter_unroll.specs.Flat as x
use Rattle.flat_code.specs.declared.operator.Way.{Way}
use Rattle.flat_code.specs.declared.operator.Way.TheVariants as w
use Rattle.flat_code.specs.Operator.{way_of, computes, jumps}

-- `value d t here`: from place `here` on, the value into register d, with the registers from t on at hand;
-- `branch sense to t here`: a jump to place `to` where the value's truth is `sense`, and else on to the next place.
-- How many instructions these are depends on no place: `value_len` where d is t, `slot_len` where it is another register,
-- and `branch_len`. `home` is a register that holds the value without any instruction.
pub record Code : Type 0 where
  pub value : ℕ → ℕ → ℕ → List Instr
  pub branch : Bool → ℕ → ℕ → ℕ → List Instr
  pub value_len : ℕ
  pub slot_len : ℕ
  pub branch_len : ℕ
  pub home : Option ℕ

-- ---- three ways to have a value

-- a jump by the truth of register k
abbrev pub test : Bool → ℕ → ℕ → Instr
test true k to = Jne k 15 to
test false k to = Jeq k 15 to

-- it is in register k from the start
abbrev pub at_home : ℕ → Code
at_home k = record {
  value = λ d t here. Mov d k ∷ [];
  branch = λ sense to t here. test sense k to ∷ [];
  value_len = 1;
  slot_len = 1;
  branch_len = 1;
  home = Some k;
}

-- n instructions put it into a register, and a jump tests that
abbrev pub by_value : (ℕ → ℕ → ℕ → List Instr) → ℕ → Code
by_value v n = record {
  value = v;
  branch = λ sense to t here. v t t here ++ test sense t to ∷ [];
  value_len = n;
  slot_len = n;
  branch_len = n + 1;
  home = None;
}

-- n instructions jump by it, and 1 or 0 is set behind the jump
abbrev pub by_branch : (Bool → ℕ → ℕ → ℕ → List Instr) → ℕ → Code
by_branch c n = record {
  value = λ d t here. c false (here + n + 2) t here ++ (SetL d 1 ∷ Jmp (here + n + 3) ∷ SetL d 0 ∷ []);
  branch = c;
  value_len = n + 3;
  slot_len = n + 3;
  branch_len = n;
  home = None;
}

-- ---- operands

-- the register in which an operand is: its home, or t
abbrev pub operand : Option ℕ → ℕ → ℕ
operand None t = t
operand (Some k) t = k

abbrev pub unless_home : Option ℕ → List Instr → List Instr
unless_home None c = c
unless_home (Some k) c = []

abbrev pub len_unless_home : Option ℕ → ℕ → ℕ
len_unless_home None n = n
len_unless_home (Some k) n = 0

abbrev pub operand_code : Code → ℕ → ℕ → List Instr
operand_code c t here = unless_home c.home (c.value t t here)

abbrev pub operand_len : Code → ℕ
operand_len c = len_unless_home c.home c.value_len

-- the left side by t, the right side by t + 1
abbrev pub two_code : Code → Code → ℕ → ℕ → List Instr
two_code a b t here = operand_code a t here ++ operand_code b (t + 1) (here + operand_len a)

-- ---- operators

abbrev pub flip_code : Code → Code
flip_code a = by_value (λ d t here. operand_code a t here ++ Not d (operand a.home t) ∷ []) (operand_len a + 1)

abbrev pub not_code : Code → Code
not_code a = by_branch (λ sense. a.branch (not sense)) a.branch_len

-- one instruction puts what `i` computes of both sides
abbrev pub compute : (ℕ → ℕ → ℕ → Instr) → Code → Code → Code
compute i a b =
    by_value (λ d t here. two_code a b t here ++ i d (operand a.home t) (operand b.home (t + 1)) ∷ []) (operand_len a + operand_len b + 1)

-- one instruction jumps by both sides
abbrev pub compare : (Bool → ℕ → ℕ → ℕ → Instr) → Code → Code → Code
compare j a b =
    by_branch (λ sense to t here. two_code a b t here ++ j sense (operand a.home t) (operand b.home (t + 1)) to ∷ []) (operand_len a + operand_len b + 1)

abbrev pub move : ℕ → ℕ → List Instr
move d t = if nat_eq d t then [] else Mov d t ∷ []

-- the right side is passed over where the truth of the left is `short`; both come into t, since what d holds may be read
abbrev pub joined_value : Bool → Code → Code → ℕ → ℕ → ℕ → List Instr
joined_value short a b d t here =
    a.value t t here ++ (test short t (here + a.value_len + 1 + b.value_len) ∷ (b.value t t (here + a.value_len + 1) ++ move d t))

-- where the left side jumps to: to `to` where it decides for that, and else past the right side
abbrev pub joined_target : Bool → Bool → ℕ → ℕ → ℕ
joined_target true true to past = to
joined_target true false to past = past
joined_target false true to past = past
joined_target false false to past = to

abbrev pub joined : Bool → Code → Code → Code
joined short a b = record {
  value = joined_value short a b;
  branch = λ sense to t here. a.branch short (joined_target short sense to (here + a.branch_len + b.branch_len)) t here ++ b.branch sense to t (here + a.branch_len);
  value_len = a.value_len + 1 + b.value_len;
  slot_len = a.value_len + 1 + b.value_len + 1;
  branch_len = a.branch_len + b.branch_len;
  home = None;
}

abbrev pub by_way : Way → BinaryOp → Code → Code → Code
by_way (w.Joined short) o = joined short
by_way w.Compared o = compare (jumps o)
by_way w.Computed o = compute (computes o)

abbrev pub binary_code : BinaryOp → Code → Code → Code
binary_code o = by_way (way_of o) o

-- ---- leaves

-- a number whose upper half is the second one
abbrev pub number_code : ℕ → ℕ → Code
number_code n zero = by_value (λ d t here. SetL d n ∷ []) 1
number_code n (suc high) = by_value (λ d t here. SetL d (n % 2 ^ 32) ∷ SetH d (suc high) ∷ []) 2

abbrev pub num_code : ℕ → Code
num_code zero = at_home 15
num_code (suc n) = number_code (suc n) (suc n / 2 ^ 32)

abbrev pub one_code : (ℕ → Instr) → Code
one_code i = by_value (λ d t here. i d ∷ []) 1

-- ---- expressions

abbrev pub code_of : Fx → Code
code_of (x.num n) = num_code n
code_of x.null = at_home 15
code_of (x.arg k) = one_code (λ d. GetW d 8 (8 * k))
code_of (x.slot k) = at_home k
code_of x.cur = one_code GetC
code_of (x.cur_field o w) = one_code (λ d. GetW d (width_bytes w) o)
code_of (x.pad_field o w) = one_code (λ d. GetP d (width_bytes w) o)
code_of (x.not e) = not_code (code_of e)
code_of (x.flip e) = flip_code (code_of e)
code_of (x.bin o a b) = binary_code o (code_of a) (code_of b)
code_of (x.at a b) = compute (computes op.Add) (code_of a) (code_of b)

-- how many registers are taken on the way beyond the first
abbrev pub height : Fx → ℕ
height (x.not e) = height e
height (x.flip e) = height e
height (x.bin o a b) = max (height a) (height b + 1)
height (x.at a b) = max (height a) (height b + 1)
height _ = 0
