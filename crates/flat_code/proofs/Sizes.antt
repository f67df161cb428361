-- There are at most four instructions a node.
use Rattle.std.proofs.Common.{◌≡◌, ℕ, zero, suc, ◌+◌, ◌*◌, ◌/◌, ◌^◌, ◌≤◌, Bool, true, false, Option, Some, None, refl, arith}
use Rattle.iter_syntax.specs.declared.tree.BinaryOp.{BinaryOp}
use Rattle.iter_syntax.specs.declared.tree.BinaryOp.TheVariants as op
use Rattle.iter_unroll.specs.Flat.{Fx, Fs}
use Rattle.iter_unroll.specs.Flat as x
use Rattle.iter_unroll.specs.Limits.{fx_nodes, fs_nodes}
use Rattle.flat_code.specs.declared.operator.Way.{Way}
use Rattle.flat_code.specs.declared.operator.Way.TheVariants as w
use Rattle.flat_code.specs.Operator.{way_of, computes}
use Rattle.flat_code.specs.Code.{Code, len_unless_home, operand_len, compute, by_way, number_code, num_code, code_of}
use Rattle.flat_code.specs.Statements.{leaves, over_len, sts_len}

pub record Short (c : Code) (n : ℕ) : Type 0 where
  pub value : c.value_len ≤ 4 * n
  pub slot : c.slot_len ≤ 4 * n
  pub branch : c.branch_len + 1 ≤ 4 * n

operand_short : (home : Option ℕ) (n : ℕ) → len_unless_home home n ≤ n
operand_short None n = omega arith
operand_short (Some k) n = omega arith

two_short : (a b : Code) (m n v : ℕ) → Short a m → Short b n → v ≡ operand_len a + operand_len b + 1 → v + 3 ≤ 4 * (1 + m + n)
two_short a b m n v ha hb e = omega (arith, operand_short a.home a.value_len, operand_short b.home b.value_len, ha.value, hb.value)

compute_short : (o : BinaryOp) (a b : Code) (m n : ℕ) → Short a m → Short b n → Short (compute (computes o) a b) (1 + m + n)
compute_short o a b m n ha hb = let q = two_short a b m n _ ha hb refl in record { value = omega (arith, q); slot = omega (arith, q); branch = omega (arith, q) }

way_short : (way : Way) (o : BinaryOp) (a b : Code) (m n : ℕ) → Short a m → Short b n → Short (by_way way o a b) (1 + m + n)
way_short (w.Joined short) o a b m n ha hb = record { value = omega (arith, ha.value, hb.value); slot = omega (arith, ha.value, hb.value); branch = omega (arith, ha.branch, hb.branch) }
way_short w.Compared o a b m n ha hb = let q = two_short a b m n _ ha hb refl in record { value = q; slot = q; branch = omega (arith, q) }
way_short w.Computed o a b m n ha hb = compute_short o a b m n ha hb

number_short : (n h : ℕ) → Short (number_code n h) 1
number_short n zero = record { value = omega arith; slot = omega arith; branch = omega arith }
number_short n (suc h) = record { value = omega arith; slot = omega arith; branch = omega arith }

num_short : (n : ℕ) → Short (num_code n) 1
num_short zero = record { value = omega arith; slot = omega arith; branch = omega arith }
num_short (suc n) = number_short (suc n) (suc n / 2 ^ 32)

pub code_short : (e : Fx) → Short (code_of e) (fx_nodes e)
code_short (x.num n) = num_short n
code_short x.null = record { value = omega arith; slot = omega arith; branch = omega arith }
code_short (x.arg k) = record { value = omega arith; slot = omega arith; branch = omega arith }
code_short (x.slot k) = record { value = omega arith; slot = omega arith; branch = omega arith }
code_short x.cur = record { value = omega arith; slot = omega arith; branch = omega arith }
code_short (x.cur_field o w) = record { value = omega arith; slot = omega arith; branch = omega arith }
code_short (x.pad_field o w) = record { value = omega arith; slot = omega arith; branch = omega arith }
code_short (x.not e) = let h = code_short e in record { value = omega (arith, h.branch); slot = omega (arith, h.branch); branch = omega (arith, h.branch) }
code_short (x.flip e) =
    let h = code_short e in
    let c = code_of e in
    let q = operand_short c.home c.value_len in
    record { value = omega (arith, q, h.value); slot = omega (arith, q, h.value); branch = omega (arith, q, h.value) }
code_short (x.bin o a b) = way_short (way_of o) o (code_of a) (code_of b) (fx_nodes a) (fx_nodes b) (code_short a) (code_short b)
code_short (x.at a b) = compute_short op.Add (code_of a) (code_of b) (fx_nodes a) (fx_nodes b) (code_short a) (code_short b)

pub used_short : (e : Fx) → operand_len (code_of e) ≤ 4 * fx_nodes e
used_short e = let h = code_short e in omega (arith, operand_short (code_of e).home (code_of e).value_len, h.value)

over_short : (b : Bool) (n : ℕ) → over_len b n ≤ 1
over_short true n = omega arith
over_short false zero = omega arith
over_short false (suc n) = omega arith

pub sts_short : (ss : Fs) → sts_len ss ≤ 4 * fs_nodes ss
sts_short x.end = omega arith
sts_short (x.put_slot k e rest) = let h = code_short e in omega (arith, h.slot, sts_short rest)
sts_short (x.put_pad o w e rest) = omega (arith, used_short e, sts_short rest)
sts_short (x.put_cur o w e rest) = omega (arith, used_short e, sts_short rest)
sts_short (x.choose e first other rest) = let h = code_short e in omega (arith, h.branch, over_short (leaves first) (sts_len other), sts_short first, sts_short other, sts_short rest)
sts_short (x.done rest) = omega (arith, sts_short rest)
sts_short (x.go e rest) = omega (arith, used_short e, sts_short rest)
