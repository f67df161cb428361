-- The binary operators: the level and the symbol of each.
use Rattle.std.specs.Prelude.{ℕ, Option, Some, None}
use Rattle.iter_syntax.specs.Names.{BinaryOp, Symbol}
use Rattle.iter_syntax.specs.declared.tree.BinaryOp.TheVariants as B
use Rattle.iter_syntax.specs.declared.token.Symbol.TheVariants as S

-- the level of an operator, from 1, the tightest, to 7
abbrev pub level_of_operator : BinaryOp → ℕ
level_of_operator B.Mul = 1
level_of_operator B.Div = 1
level_of_operator B.Mod = 1
level_of_operator B.Add = 2
level_of_operator B.Sub = 2
level_of_operator B.Shl = 3
level_of_operator B.Shr = 3
level_of_operator B.BitAnd = 4
level_of_operator B.BitOr = 4
level_of_operator B.BitXor = 4
level_of_operator B.Eq = 5
level_of_operator B.Ne = 5
level_of_operator B.Lt = 5
level_of_operator B.Le = 5
level_of_operator B.Gt = 5
level_of_operator B.Ge = 5
level_of_operator B.And = 6
level_of_operator B.Or = 7

abbrev pub symbol_of_operator : BinaryOp → Symbol
symbol_of_operator B.Mul = S.Star
symbol_of_operator B.Div = S.Slash
symbol_of_operator B.Mod = S.Percent
symbol_of_operator B.Add = S.Plus
symbol_of_operator B.Sub = S.Minus
symbol_of_operator B.Shl = S.ShiftLeft
symbol_of_operator B.Shr = S.ShiftRight
symbol_of_operator B.BitAnd = S.And
symbol_of_operator B.BitOr = S.Or
symbol_of_operator B.BitXor = S.Caret
symbol_of_operator B.Eq = S.EqualEqual
symbol_of_operator B.Ne = S.NotEqual
symbol_of_operator B.Lt = S.Less
symbol_of_operator B.Le = S.LessEqual
symbol_of_operator B.Gt = S.Greater
symbol_of_operator B.Ge = S.GreaterEqual
symbol_of_operator B.And = S.AndAnd
symbol_of_operator B.Or = S.OrOr

-- the operator that a symbol is
abbrev pub symbol_operator : Symbol → Option BinaryOp
symbol_operator S.Star = Some B.Mul
symbol_operator S.Slash = Some B.Div
symbol_operator S.Percent = Some B.Mod
symbol_operator S.Plus = Some B.Add
symbol_operator S.Minus = Some B.Sub
symbol_operator S.ShiftLeft = Some B.Shl
symbol_operator S.ShiftRight = Some B.Shr
symbol_operator S.And = Some B.BitAnd
symbol_operator S.Or = Some B.BitOr
symbol_operator S.Caret = Some B.BitXor
symbol_operator S.EqualEqual = Some B.Eq
symbol_operator S.NotEqual = Some B.Ne
symbol_operator S.Less = Some B.Lt
symbol_operator S.LessEqual = Some B.Le
symbol_operator S.Greater = Some B.Gt
symbol_operator S.GreaterEqual = Some B.Ge
symbol_operator S.AndAnd = Some B.And
symbol_operator S.OrOr = Some B.Or
symbol_operator _ = None
