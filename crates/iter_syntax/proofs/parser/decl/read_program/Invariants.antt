use Rattle.std.proofs.Common.{◌≡◌, ◌-◌, ◌≤◌, ℕ, List, drop, length}
use Rattle.iter_syntax.specs.Names.{Token, RecordDecl, Iter}
use Rattle.iter_syntax.specs.Form.{any}
use Rattle.iter_syntax.specs.Productions as P
use Rattle.iter_syntax.specs.Steps.Reads.{program_after}
use Rattle.iter_syntax.proofs.parser.decl.read_program.Given as goal

pub record Row (tokens : List Token) (start at depth : ℕ) (records : List RecordDecl) (iters : List Iter) : Type 0 where
  pub moves : start ≤ at
  pub inside : at ≤ length tokens
  pub row : (P.program depth).parse (drop start tokens) ≡ program_after records iters ((any (P.decl_over (P.block depth))).parse (drop at tokens))

abbrev pub invariant-row : goal.invariant-row
invariant-row l = Row l.tokens l.fn.at l.at l.depth l.records l.iters

abbrev pub decreases-row : goal.decreases-row
decreases-row l = length l.tokens - l.at
