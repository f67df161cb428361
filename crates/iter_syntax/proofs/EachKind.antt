-- Facts of sets of tokens, by trying each kind.
use Rattle.std.specs.Prelude.{slice_get}
use Rattle.std.proofs.Common.{◌≡◌, ℕ, zero, suc, List, [], ◌∷◌, Some, Bool, true, false, refl, sym, ap, ◌∙◌}
use Rattle.arrayvec.specs.ArrayVec.{ArrayVec}
use Rattle.iter_syntax.specs.Names.{Place, Token, TokenKind, Keyword, Symbol}
use Rattle.iter_syntax.specs.declared.token.TokenKind.TheVariants as K
use Rattle.iter_syntax.specs.declared.token.Keyword.TheVariants as W
use Rattle.iter_syntax.specs.declared.token.Symbol.TheVariants as S
use Rattle.iter_syntax.specs.Kinds.{keyword_number, symbol_number}

abbrev pub and : Bool → Bool → Bool
and true b = b
and false b = false

abbrev pub no : Bool → Bool
no true = false
no false = true

left : (a b : Bool) → and a b ≡ true → a ≡ true
left true b h = refl
left false b h = absurd (cc)

right : (a b : Bool) → and a b ≡ true → b ≡ true
right true b h = h
right false b h = absurd (cc)

abbrev pub keywords : List Keyword
keywords = W.Record ∷ W.Iter ∷ W.On ∷ W.Pad ∷ W.Init ∷ W.End ∷ W.Let ∷ W.If ∷ W.Else ∷ W.For ∷ W.In ∷ W.Done ∷ W.Go ∷ W.Cur ∷ W.Null ∷ W.At ∷ W.Int ∷ W.Ptr ∷ W.U8 ∷ W.U16 ∷ W.U32 ∷ W.U64 ∷ []

abbrev pub symbols : List Symbol
symbols = S.Range ∷ S.EqualEqual ∷ S.NotEqual ∷ S.LessEqual ∷ S.GreaterEqual ∷ S.ShiftLeft ∷ S.ShiftRight ∷ S.AndAnd ∷ S.OrOr ∷ S.OpenBrace ∷ S.CloseBrace ∷ S.OpenRound ∷ S.CloseRound ∷ S.OpenSquare ∷ S.CloseSquare ∷ S.Colon ∷ S.Semicolon ∷ S.Comma ∷ S.Dot ∷ S.Assign ∷ S.Less ∷ S.Greater ∷ S.Plus ∷ S.Minus ∷ S.Star ∷ S.Slash ∷ S.Percent ∷ S.And ∷ S.Or ∷ S.Caret ∷ S.Bang ∷ S.Tilde ∷ []

abbrev pub all_of : {A : Type 0} → (A → Bool) → List A → Bool
all_of p [] = true
all_of p (x ∷ xs) = and (p x) (all_of p xs)

at_number : {A : Type 0} (p : A → Bool) (xs : List A) → all_of p xs ≡ true → (n : ℕ) (x : A) → slice_get xs n ≡ Some x → p x ≡ true
at_number p [] h n x e = absurd (cc)
at_number p (y ∷ xs) h zero x e = let q : y ≡ x = cc in ap p (sym q) ∙ left (p y) (all_of p xs) h
at_number p (y ∷ xs) h (suc n) x e = at_number p xs (right (p y) (all_of p xs) h) n x e

-- each stands at its number
pub keyword_is : (k : Keyword) → slice_get keywords (keyword_number k) ≡ Some k
keyword_is W.Record = refl
keyword_is k = refl

pub symbol_is : (s : Symbol) → slice_get symbols (symbol_number s) ≡ Some s
symbol_is S.Range = refl
symbol_is s = refl

-- a test holds at each kind
abbrev pub Each : (TokenKind → Bool) → Type 0
Each p =
    ((w : ArrayVec ℕ) → p (K.Name w) ≡ true)
    × ((n : ℕ) → p (K.Number n) ≡ true)
    × (all_of (λ k. p (K.Keyword k)) keywords ≡ true)
    × (all_of (λ s. p (K.Symbol s)) symbols ≡ true)

each : (p : TokenKind → Bool) → Each p → (k : TokenKind) → p k ≡ true
each p h (K.Name w) = h.0 w
each p h (K.Number n) = h.1 n
each p h (K.Keyword k) = at_number (λ k. p (K.Keyword k)) keywords h.2 (keyword_number k) k (keyword_is k)
each p h (K.Symbol s) = at_number (λ s. p (K.Symbol s)) symbols h.3 (symbol_number s) s (symbol_is s)

abbrev pub tok : Place → TokenKind → Token
tok p k = record { place = p; kind = k }

not_both : (a b : Bool) → no (and a b) ≡ true → a ≡ true → b ≡ false
not_both true true h e = absurd (cc)
not_both true false h e = refl
not_both false b h e = absurd (cc)

-- no token is in both sets
pub apart : (a b : Token → Bool) → ((p : Place) → Each (λ k. no (and (a (tok p k)) (b (tok p k))))) → (t : Token) → a t ≡ true → b t ≡ false
apart a b h t e = not_both (a t) (b t) (each (λ k. no (and (a (tok t.place k)) (b (tok t.place k)))) (h t.place) t.kind) e

not_alone : (a b : Bool) → no (and a (no b)) ≡ true → a ≡ true → b ≡ true
not_alone true true h e = refl
not_alone true false h e = absurd (cc)
not_alone false b h e = absurd (cc)

-- each token of one set is in the other
pub part : (a b : Token → Bool) → ((p : Place) → Each (λ k. no (and (a (tok p k)) (no (b (tok p k)))))) → (t : Token) → a t ≡ true → b t ≡ true
part a b h t e = not_alone (a t) (b t) (each (λ k. no (and (a (tok t.place k)) (no (b (tok t.place k))))) (h t.place) t.kind) e
