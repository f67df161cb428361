-- What a token that passes a test is.
use Rattle.std.specs.Prelude.{slice_get}
use Rattle.std.proofs.Common.{◌≡◌, ℕ, Bool, true, false, ◌&&◌, nat_eq, List, [], ◌∷◌, Option, Some, None, refl, sym, ap, ◌∙◌, arith}
use Rattle.iter_syntax.specs.Names.{Place, BinaryOp, TokenKind, Keyword, Symbol}
use Rattle.iter_syntax.specs.declared.tree.BinaryOp.TheVariants as B
use Rattle.iter_syntax.specs.declared.token.TokenKind.TheVariants as K
use Rattle.iter_syntax.specs.declared.token.Symbol.TheVariants as S
use Rattle.iter_syntax.specs.Deep.{depth_after}
use Rattle.iter_syntax.specs.Kinds.{keyword_number, symbol_number, kind_is_keyword, kind_is_symbol, kind_is_name, kind_is_number, kind_is_next, is_next_text, kind_operator, has_level}
use Rattle.iter_syntax.specs.Operators.{symbol_operator}
use Rattle.iter_syntax.specs.Productions.{kind_word, kind_number, found_operator}
use Rattle.iter_syntax.specs.Printed.{key, sym as symbol_kind, word, next_word}
use Rattle.iter_syntax.specs.Operators.{level_of_operator, symbol_of_operator}
use Rattle.iter_syntax.proofs.EachKind.{keywords, symbols, keyword_is, symbol_is}

same_number : (m n : ℕ) → nat_eq m n ≡ true → m ≡ n
same_number m n h = grind arith

same_keyword : (j k : Keyword) → nat_eq (keyword_number j) (keyword_number k) ≡ true → j ≡ k
same_keyword j k h =
    let e : slice_get keywords (keyword_number j) ≡ slice_get keywords (keyword_number k) = ap (λ n. slice_get keywords n) (same_number _ _ h) in
    let some : Some j ≡ Some k = sym (keyword_is j) ∙ e ∙ keyword_is k in
    cc

same_symbol : (r s : Symbol) → nat_eq (symbol_number r) (symbol_number s) ≡ true → r ≡ s
same_symbol r s h =
    let e : slice_get symbols (symbol_number r) ≡ slice_get symbols (symbol_number s) = ap (λ n. slice_get symbols n) (same_number _ _ h) in
    let some : Some r ≡ Some s = sym (symbol_is r) ∙ e ∙ symbol_is s in
    cc

pub keyword_kind : (wanted : Keyword) (k : TokenKind) → kind_is_keyword wanted k ≡ true → k ≡ key wanted
keyword_kind wanted (K.Name w) h = absurd (cc)
keyword_kind wanted (K.Keyword k) h = ap (λ j. key j) (sym (same_keyword wanted k h))
keyword_kind wanted (K.Number n) h = absurd (cc)
keyword_kind wanted (K.Symbol s) h = absurd (cc)

pub symbol_kind_is : (wanted : Symbol) (k : TokenKind) → kind_is_symbol wanted k ≡ true → k ≡ symbol_kind wanted
symbol_kind_is wanted (K.Name w) h = absurd (cc)
symbol_kind_is wanted (K.Keyword k) h = absurd (cc)
symbol_kind_is wanted (K.Number n) h = absurd (cc)
symbol_kind_is wanted (K.Symbol s) h = ap (λ j. symbol_kind j) (sym (same_symbol wanted s h))

pub name_kind : (p : Place) (k : TokenKind) → kind_is_name k ≡ true → k ≡ word (kind_word p k)
name_kind p (K.Name w) h = refl
name_kind p (K.Keyword k) h = absurd (cc)
name_kind p (K.Number n) h = absurd (cc)
name_kind p (K.Symbol s) h = absurd (cc)

pub number_kind : (k : TokenKind) → kind_is_number k ≡ true → k ≡ K.Number (kind_number k)
number_kind (K.Name w) h = absurd (cc)
number_kind (K.Keyword k) h = absurd (cc)
number_kind (K.Number n) h = refl
number_kind (K.Symbol s) h = absurd (cc)

left : (a b : Bool) → (a && b) ≡ true → a ≡ true
left true b h = refl
left false b h = absurd (cc)

right : (a b : Bool) → (a && b) ≡ true → b ≡ true
right true b h = h
right false b h = absurd (cc)

next_text : (p : List ℕ) → is_next_text p ≡ true → p ≡ 110 ∷ 101 ∷ 120 ∷ 116 ∷ []
next_text (n ∷ e ∷ x ∷ t ∷ []) h =
    let tail = right (nat_eq n 110) _ h in
    let more = right (nat_eq e 101) _ tail in
    four (same_number n 110 (left _ _ h)) (same_number e 101 (left _ _ tail)) (same_number x 120 (left _ _ more)) (same_number t 116 (right (nat_eq x 120) _ more))
  where
    four : n ≡ 110 → e ≡ 101 → x ≡ 120 → t ≡ 116 → n ∷ e ∷ x ∷ t ∷ [] ≡ 110 ∷ 101 ∷ 120 ∷ 116 ∷ []
    four a b c d = cc
next_text p h = absurd (cc)

pub next_kind : (k : TokenKind) → kind_is_next k ≡ true → k ≡ next_word
next_kind (K.Name w) h = ap (λ l. K.Name (record { items = l })) (next_text w.items h)
next_kind (K.Keyword k) h = absurd (cc)
next_kind (K.Number n) h = absurd (cc)
next_kind (K.Symbol s) h = absurd (cc)

-- ---- operators

abbrev IsOperator : ℕ → TokenKind → BinaryOp → Type 0
IsOperator level k op = (k ≡ symbol_kind (symbol_of_operator op)) × (level_of_operator op ≡ level)

abbrev is_its : Symbol → Option BinaryOp → Bool
is_its s (Some op) = nat_eq (symbol_number s) (symbol_number (symbol_of_operator op))
is_its s None = true

its_symbol : (s : Symbol) → is_its s (symbol_operator s) ≡ true
its_symbol S.Range = refl
its_symbol s = refl

-- an operator of a level is that operator's symbol
pub operator_kind : (n : ℕ) (k : TokenKind) → has_level n (kind_operator k) ≡ true → IsOperator n k (found_operator (kind_operator k))
operator_kind n (K.Name w) h = absurd (cc)
operator_kind n (K.Keyword k) h = absurd (cc)
operator_kind n (K.Number m) h = absurd (cc)
operator_kind n (K.Symbol s) h = by_found (symbol_operator s) (its_symbol s) h
  where
    by_found : (o : Option BinaryOp) → is_its s o ≡ true → has_level n o ≡ true → IsOperator n (symbol_kind s) (found_operator o)
    by_found (Some op) is l = (ap (λ r. symbol_kind r) (same_symbol s (symbol_of_operator op) is), same_number _ _ l)
    by_found None is l = absurd (cc)

-- no operator is a bracket
pub operator_flat : (op : BinaryOp) (n : ℕ) → depth_after n (symbol_kind (symbol_of_operator op)) ≡ n
operator_flat B.Mul n = refl
operator_flat op n = refl
