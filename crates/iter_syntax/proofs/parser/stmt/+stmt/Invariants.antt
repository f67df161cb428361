use Rattle.std.proofs.Common.{◌≡◌, ◌*◌, ◌+◌, ◌-◌, ◌≤◌, ℕ, List, drop, length}
use Rattle.iter_syntax.specs.Names.{Token, Stmt}
use Rattle.iter_syntax.specs.Form.{any}
use Rattle.iter_syntax.specs.Productions as P
use Rattle.iter_syntax.specs.Steps.Reads.{after}
use Rattle.iter_syntax.proofs.parser.stmt.+stmt.Given as goal

abbrev pub decreases-read_block : goal.decreases-read_block
decreases-read_block l = 10 * l.depth

abbrev pub decreases-read_braces : goal.decreases-read_braces
decreases-read_braces l = 10 * l.depth + 5

abbrev pub decreases-read_else : goal.decreases-read_else
decreases-read_else l = 10 * l.depth + 1

abbrev pub decreases-read_if : goal.decreases-read_if
decreases-read_if l = 10 * l.depth + 2

abbrev pub decreases-read_for : goal.decreases-read_for
decreases-read_for l = 10 * l.depth + 2

abbrev pub decreases-read_stmt : goal.decreases-read_stmt
decreases-read_stmt l = 10 * l.depth + 3

abbrev pub decreases-read_stmts : goal.decreases-read_stmts
decreases-read_stmts l = 10 * l.depth + 4

-- the statements from `at` on go on after those found
pub record Row (tokens : List Token) (start at depth : ℕ) (found : List Stmt) : Type 0 where
  pub moves : start ≤ at
  pub inside : at ≤ length tokens
  pub row : (any (P.stmt depth)).parse (drop start tokens) ≡ after found ((any (P.stmt depth)).parse (drop at tokens))

abbrev pub invariant-read_stmts-row : goal.invariant-read_stmts-row
invariant-read_stmts-row l = Row l.tokens l.fn.at l.at l.depth l.found

abbrev pub decreases-read_stmts-row : goal.decreases-read_stmts-row
decreases-read_stmts-row l = length l.tokens - l.at
