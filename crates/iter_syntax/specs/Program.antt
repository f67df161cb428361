-- Which program a token list is, which token lists begin one, and where one that is none stops being a beginning.
use Rattle.std.specs.Prelude.{◌≡◌, ◌≤◌, ℕ, List, [], ◌∷◌, ◌++◌, length, take, slice_get, Some}
use Rattle.iter_syntax.specs.Names.{Token, Program}
use Rattle.iter_syntax.specs.Productions.{program}

-- the tokens are this program, whose expressions and blocks may stand as deep in one another as they like
abbrev pub IsProgram : List Token → Program → Type 0
IsProgram ts p = (depth : ℕ) × (program depth).grammar.whole ts p

abbrev pub BeginsProgram : List Token → Type 0
BeginsProgram ts = (depth : ℕ) × (program depth).grammar.begins ts

-- the tokens before the one at `place` begin a program, with that one they begin none, and all are none
pub record StopsAt (ts : List Token) (place : ℕ) : Type 0 where
  pub inside : place ≤ length ts
  pub begins : BeginsProgram (take place ts)
  pub no_more : (t : Token) → slice_get ts place ≡ Some t → BeginsProgram (take place ts ++ t ∷ []) → ⊥
  pub no_program : (p : Program) → IsProgram ts p → ⊥
