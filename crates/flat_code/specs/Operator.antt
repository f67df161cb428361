-- The instruction that each binary operator becomes.
use Rattle.std.specs.Prelude.{ℕ, Bool, true, false}
use Rattle.iter_syntax.specs.declared.tree.BinaryOp.{BinaryOp}
use Rattle.iter_syntax.specs.declared.tree.BinaryOp.TheVariants as op
use Rattle.pulse_isa.specs.declared.instr.Instr.{Instr}
use Rattle.pulse_isa.specs.declared.instr.Instr.TheVariants.{Add, Sub, Mul, Div, Mod, And, Or, Xor, Shl, Shr, Jmp, Jeq, Jne, Jlt, Jle}
use Rattle.flat_code.specs.declared.operator.Way.{Way}
use Rattle.flat_code.specs.declared.operator.Way.TheVariants.{Joined, Compared, Computed}

abbrev pub way_of : BinaryOp → Way
way_of op.Or = Joined true
way_of op.And = Joined false
way_of op.Eq = Compared
way_of op.Ne = Compared
way_of op.Lt = Compared
way_of op.Le = Compared
way_of op.Gt = Compared
way_of op.Ge = Compared
way_of _ = Computed

-- the sum is also what an operator without such an instruction would become; none comes here
abbrev pub computes : BinaryOp → ℕ → ℕ → ℕ → Instr
computes op.BitAnd = And
computes op.BitOr = Or
computes op.BitXor = Xor
computes op.Shl = Shl
computes op.Shr = Shr
computes op.Sub = Sub
computes op.Mul = Mul
computes op.Div = Div
computes op.Mod = Mod
computes _ = Add

-- where the comparison of two registers is `sense`, a jump; no other operator comes here
abbrev pub jumps : BinaryOp → Bool → ℕ → ℕ → ℕ → Instr
jumps op.Eq true a b to = Jeq a b to
jumps op.Eq false a b to = Jne a b to
jumps op.Ne true a b to = Jne a b to
jumps op.Ne false a b to = Jeq a b to
jumps op.Lt true a b to = Jlt a b to
jumps op.Lt false a b to = Jle b a to
jumps op.Le true a b to = Jle a b to
jumps op.Le false a b to = Jlt b a to
jumps op.Gt true a b to = Jlt b a to
jumps op.Gt false a b to = Jle a b to
jumps op.Ge true a b to = Jle b a to
jumps op.Ge false a b to = Jlt a b to
jumps _ sense a b to = Jmp to
