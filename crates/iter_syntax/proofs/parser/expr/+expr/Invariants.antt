use Rattle.std.proofs.Common.{◌*◌, ◌+◌, ◌-◌, ◌≤◌, ◌≡◌, ℕ, List, drop, length}
use Rattle.iter_syntax.specs.Names.{Token, Expr}
use Rattle.iter_syntax.specs.Productions as P
use Rattle.iter_syntax.specs.Steps.Reads.{chain_rest}
use Rattle.iter_syntax.proofs.parser.expr.+expr.Given as goal

abbrev pub decreases-read_unary : goal.decreases-read_unary
decreases-read_unary l = 30 * l.depth

abbrev pub decreases-read_level : goal.decreases-read_level
decreases-read_level l = 30 * l.depth + (2 * l.level + 1)

abbrev pub decreases-read_row : goal.decreases-read_row
decreases-read_row l = 30 * l.depth + 2 * l.level

abbrev pub decreases-read_comparison : goal.decreases-read_comparison
decreases-read_comparison l = 30 * l.depth + 10

abbrev pub decreases-read_index : goal.decreases-read_index
decreases-read_index l = 30 * l.depth + 16

abbrev pub decreases-read_use : goal.decreases-read_use
decreases-read_use l = 30 * l.depth + 17

abbrev pub decreases-read_cur : goal.decreases-read_cur
decreases-read_cur l = 30 * l.depth + 18

abbrev pub decreases-read_pad : goal.decreases-read_pad
decreases-read_pad l = 30 * l.depth + 18

abbrev pub decreases-read_at : goal.decreases-read_at
decreases-read_at l = 30 * l.depth + 18

abbrev pub decreases-read_operand : goal.decreases-read_operand
decreases-read_operand l = 30 * l.depth + 20

abbrev pub decreases-read_atom : goal.decreases-read_atom
decreases-read_atom l = 30 * l.depth + 19

-- the row from `at` on, after `left`, is the row from `start` on, after `first`
pub record Row (tokens : List Token) (start at level depth : ℕ) (first left : Expr) : Type 0 where
  pub inside : at ≤ length tokens
  pub moves : start ≤ at
  pub row : chain_rest level first (P.level (level - 1) (P.unary depth)) (drop start tokens) ≡ chain_rest level left (P.level (level - 1) (P.unary depth)) (drop at tokens)

abbrev pub invariant-read_row-row : goal.invariant-read_row-row
invariant-read_row-row l = Row l.tokens l.fn.at l.at l.level l.depth l.fn.first l.left

abbrev pub decreases-read_row-row : goal.decreases-read_row-row
decreases-read_row-row l = length l.tokens - l.at
