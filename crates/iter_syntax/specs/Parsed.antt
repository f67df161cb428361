-- The program of a text, and what `parse` answers of it.
use Rattle.std.specs.Prelude.{◌≡◌, ◌⊎◌, ℕ, List, length, slice_get, Option, Some, None, Result, Ok, Err}
use Rattle.iter_syntax.specs.Names.{SyntaxFault, Token, Program}
use Rattle.iter_syntax.specs.declared.fault.SyntaxFault.TheVariants as F
use Rattle.iter_syntax.specs.Deep.{deep_place}
use Rattle.iter_syntax.specs.Tokens.{AreTokens, IsLexPlace}
use Rattle.iter_syntax.specs.Program.{IsProgram, StopsAt}

-- a text with a token at each place, which is nowhere too deep, has the program of its tokens
abbrev pub IsProgramOf : List ℕ → Program → Type 0
IsProgramOf text p = (ts : List Token) × AreTokens text ts × (deep_place ts ≡ None) × IsProgram ts p

-- where a token begins, or the end of the text where there is none
abbrev pub offset_of : ℕ → Option Token → ℕ
offset_of end None = end
offset_of end (Some t) = (t.place).0

-- what is answered of a text: Lex goes before Deep, and Deep before Syntax
abbrev pub ParseAnswer : List ℕ → Result Program SyntaxFault → Type 0
ParseAnswer text (Ok p) = IsProgramOf text p
ParseAnswer text (Err (F.Lex place)) = IsLexPlace text place
ParseAnswer text (Err (F.Deep place)) = (ts : List Token) × AreTokens text ts × (deep_place ts ≡ Some place)
ParseAnswer text (Err (F.Syntax place)) =
    (ts : List Token) × (number : ℕ) × AreTokens text ts × (deep_place ts ≡ None) × StopsAt ts number × (place ≡ offset_of (length text) (slice_get ts number))
ParseAnswer text (Err F.Memory) = Unit {0}

-- want of memory aside, a text has at most one program or one fault, and not both
pub record HasOneProgram (text : List ℕ) : Type 0 where
  pub unique : (p q : Program) → IsProgramOf text p → IsProgramOf text q → p ≡ q
  pub no_fault : (p : Program) (fault : SyntaxFault) → IsProgramOf text p → ParseAnswer text (Err fault) → fault ≡ F.Memory
  pub one_fault : (f g : SyntaxFault) → ParseAnswer text (Err f) → ParseAnswer text (Err g) → (f ≡ F.Memory) ⊎ (g ≡ F.Memory) ⊎ (f ≡ g)
