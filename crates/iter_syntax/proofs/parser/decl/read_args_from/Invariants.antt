use Rattle.std.proofs.Common.{◌≡◌, ◌-◌, ◌≤◌, ℕ, List, drop, length}
use Rattle.iter_syntax.specs.Names.{Token, Arg}
use Rattle.iter_syntax.specs.Form.{any}
use Rattle.iter_syntax.specs.Productions as P
use Rattle.iter_syntax.specs.Steps.Reads.{after, args_rest}
use Rattle.iter_syntax.proofs.parser.decl.read_args_from.Given as goal

pub record Row (tokens : List Token) (start at : ℕ) (first : Arg) (found : List Arg) : Type 0 where
  pub moves : start ≤ at
  pub inside : at ≤ length tokens
  pub row : args_rest first (drop start tokens) ≡ after found ((any P.more_arg).parse (drop at tokens))

abbrev pub invariant-row : goal.invariant-row
invariant-row l = Row l.tokens l.fn.at l.at l.fn.first l.found

abbrev pub decreases-row : goal.decreases-row
decreases-row l = length l.tokens - l.at
