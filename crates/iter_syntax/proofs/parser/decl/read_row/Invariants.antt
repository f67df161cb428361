use Rattle.std.proofs.Common.{◌≡◌, ◌-◌, ◌≤◌, ℕ, List, drop, length}
use Rattle.iter_syntax.specs.Names.{Token, FieldDecl}
use Rattle.iter_syntax.specs.Form.{any}
use Rattle.iter_syntax.specs.Productions as P
use Rattle.iter_syntax.specs.Steps.Reads.{after}
use Rattle.iter_syntax.proofs.parser.decl.read_row.Given as goal

-- the row from `at` on goes on after those found
pub record Row (tokens : List Token) (start at : ℕ) (found : List FieldDecl) : Type 0 where
  pub moves : start ≤ at
  pub inside : at ≤ length tokens
  pub row : (any P.field).parse (drop start tokens) ≡ after found ((any P.field).parse (drop at tokens))

abbrev pub invariant-row : goal.invariant-row
invariant-row l = Row l.tokens l.fn.at l.at l.found

abbrev pub decreases-row : goal.decreases-row
decreases-row l = length l.tokens - l.at
