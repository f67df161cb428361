-- Tokens of given kinds are a whole form, combinator by combinator.
use Rattle.std.proofs.Common.{◌≡◌, ℕ, zero, suc, ◌+◌, ◌≤◌, Bool, true, List, [], ◌∷◌, ◌++◌, Option, Some, None, refl, ap, sym, ◌∙◌, inl, inr, arith, eq-eqb}
use Rattle.iter_syntax.specs.Names.{Word, Token, TokenKind, Keyword, Symbol}
use Rattle.iter_syntax.specs.declared.token.TokenKind.TheVariants as K
use Rattle.iter_syntax.specs.Grammar.{Grammar, token, pair, value, many, optional, either}
use Rattle.iter_syntax.specs.Kinds.{kind_is_keyword, kind_is_symbol, kind_is_name, kind_is_number, kind_is_next, keyword_number, symbol_number, is_keyword, is_symbol, is_name, is_number, is_next}
use Rattle.iter_syntax.specs.Productions as P
use Rattle.iter_syntax.specs.Printed.{Kinds, key, between, next_word}
use Rattle.iter_syntax.specs.Printed as R
use Rattle.iter_syntax.specs.Bare.{bare_word}
use Rattle.iter_syntax.proofs.TokenKinds.{kinds, split, first, none_left}

-- tokens of these kinds are whole, with a value that has a property
pub record Back {A : Type 0} (g : Grammar A) (ks : Kinds) (Q : A → Type 0) : Type 0 where
  pub back : (us : List Token) → kinds us ≡ ks → (y : A) × g.whole us y × Q y

pub token_back : {A : Type 0} (test : Token → Bool) (f : Token → A) (k : TokenKind) (Q : A → Type 0) → ((t : Token) → t.kind ≡ k → (test t ≡ true) × Q (f t)) → Back (value f (token test)) (k ∷ []) Q
token_back test f k Q h = record {
  back = λ us e. (
      let s = first us k [] e in
      let r = h s.token s.kind in
      (f s.token, (s.token, (s.splits ∙ ap (λ l. s.token ∷ l) (none_left s.back s.back_kinds), r.0), refl), r.1));
}

-- tokens of two forms in a row are a third, with a value made of theirs
pub join_back : {A B C : Type 0} {a : Grammar A} {b : Grammar B} {c : Grammar C} {k l : Kinds} {Q : A → Type 0} {R : B → Type 0} {S : C → Type 0} (f : A → B → C)
    → ((ts u v : List Token) (x : A) (y : B) → ts ≡ u ++ v → a.whole u x → b.whole v y → c.whole ts (f x y))
    → ((x : A) (y : B) → Q x → R y → S (f x y)) → Back a k Q → Back b l R → Back c (k ++ l) S
join_back {k = k} {l = l} f w p h g = record {
  back = λ us e. (
      let s = split us k l e in
      let x = h.back s.front s.front_kinds in
      let y = g.back s.back s.back_kinds in
      (f x.0 y.0, w us s.front s.back x.0 y.0 s.splits x.1 y.1, p x.0 y.0 x.2 y.2));
}

pub pair_back : {A B : Type 0} {a : Grammar A} {b : Grammar B} {k l : Kinds} {Q : A → Type 0} {R : B → Type 0} → Back a k Q → Back b l R → Back (pair a b) (k ++ l) (λ x. Q x.0 × R x.1)
pair_back h g = join_back (λ x y. (x, y)) (λ ts u v x y e w z. (u, v, e, w, z)) (λ x y q r. (q, r)) h g

pub value_back : {A B : Type 0} {a : Grammar A} {k : Kinds} {Q : A → Type 0} {R : B → Type 0} (f : A → B) → ((x : A) → Q x → R (f x)) → Back a k Q → Back (value f a) k R
value_back f h g = record { back = λ us e. (let x = g.back us e in (f x.0, (x.0, x.1, refl), h x.0 x.2)) }

-- all that is whole for one form is so for another
pub wider_back : {A : Type 0} {a b : Grammar A} {k : Kinds} {Q : A → Type 0} → ((us : List Token) (x : A) → a.whole us x → b.whole us x) → Back a k Q → Back b k Q
wider_back f h = record { back = λ us e. (let x = h.back us e in (x.0, f us x.0 x.1, x.2)) }

pub either_left : {A : Type 0} {a b : Grammar A} {k : Kinds} {Q : A → Type 0} → Back a k Q → Back (either a b) k Q
either_left h = wider_back (λ us x w. inl w) h

pub either_right : {A : Type 0} {a b : Grammar A} {k : Kinds} {Q : A → Type 0} → Back b k Q → Back (either a b) k Q
either_right h = wider_back (λ us x w. inr w) h

pub none_back : {A : Type 0} (a : Grammar A) (Q : Option A → Type 0) → Q None → Back (optional a) [] Q
none_back a Q h = record { back = λ us e. (None, none_left us e, h) }

pub some_back : {A : Type 0} {a : Grammar A} {k : Kinds} {Q : A → Type 0} (R : Option A → Type 0) → ((x : A) → Q x → R (Some x)) → Back a k Q → Back (optional a) k R
some_back R h g = record { back = λ us e. (let x = g.back us e in (Some x.0, x.1, h x.0 x.2)) }

pub nil_back : {A : Type 0} {a : Grammar A} {Q : List A → Type 0} → Q [] → Back (many a) [] Q
nil_back h = record { back = λ us e. ([], none_left us e, h) }

pub cons_back : {A : Type 0} {a : Grammar A} {k l : Kinds} {Q : A → Type 0} {R S : List A → Type 0} → ((x : A) (xs : List A) → Q x → R xs → S (x ∷ xs)) → Back a k Q → Back (many a) l R → Back (many a) (k ++ l) S
cons_back f h g = join_back (λ x xs. x ∷ xs) (λ ts u v x xs e w z. (u, v, e, w, z)) f h g

pub same_kinds : {A : Type 0} {a : Grammar A} {k l : Kinds} {Q : A → Type 0} → k ≡ l → Back a k Q → Back a l Q
same_kinds q h = record { back = λ us e. h.back us (e ∙ sym q) }

-- ---- one token

abbrev pub Any : {A : Type 0} → A → Type 0
Any x = Unit {0}

symbol_own : (s : Symbol) → kind_is_symbol s (R.sym s) ≡ true
symbol_own s = eq-eqb (symbol_number s) (symbol_number s) refl

keyword_own : (k : Keyword) → kind_is_keyword k (key k) ≡ true
keyword_own k = eq-eqb (keyword_number k) (keyword_number k) refl

pub symbol_back : (s : Symbol) → Back (P.symbol s).grammar (R.sym s ∷ []) Any
symbol_back s = token_back (is_symbol s) P.place_of (R.sym s) Any (λ t e. (ap (kind_is_symbol s) e ∙ symbol_own s, tt))

pub keyword_back : (k : Keyword) → Back (P.keyword k).grammar (key k ∷ []) Any
keyword_back k = token_back (is_keyword k) P.place_of (key k) Any (λ t e. (ap (kind_is_keyword k) e ∙ keyword_own k, tt))

pub next_back : Back P.next_word.grammar (next_word ∷ []) Any
next_back = token_back is_next P.place_of next_word Any (λ t e. (ap kind_is_next e, tt))

pub word_back : (w : Word) → Back P.word.grammar (R.word w ∷ []) (λ y. bare_word y ≡ bare_word w)
word_back w = token_back is_name P.to_word (R.word w) (λ y. bare_word y ≡ bare_word w) (λ t e. (ap kind_is_name e, ap (λ k. bare_word (P.kind_word t.place k)) e))

pub number_back : (n : ℕ) → Back P.number.grammar (K.Number n ∷ []) (λ y. y.1 ≡ n)
number_back n = token_back is_number P.to_number (K.Number n) (λ y. y.1 ≡ n) (λ t e. (ap kind_is_number e, ap P.kind_number e))

-- ---- brackets around a form

pub brackets_back : {A : Type 0} {a : Grammar A} {k : Kinds} {Q : A → Type 0} (o c : Symbol) → Back a k Q → Back (value P.inner (pair (P.symbol o).grammar (pair a (P.symbol c).grammar))) (between o k c) Q
brackets_back o c h = value_back P.inner (λ x q. q.1.0) (pair_back (symbol_back o) (pair_back h (symbol_back c)))

-- ---- depths

-- what holds at each depth from some on
abbrev pub Deep : (ℕ → Type 0) → Type 0
Deep Q = (n : ℕ) × ((d : ℕ) → n ≤ d → Q d)

pub deep_map : {Q R : ℕ → Type 0} → ((d : ℕ) → Q d → R d) → Deep Q → Deep R
deep_map f h = (h.0, λ d le. f d (h.1 d le))

pub deep_both : {Q R S : ℕ → Type 0} → ((d : ℕ) → Q d → R d → S d) → Deep Q → Deep R → Deep S
deep_both f h g = (h.0 + g.0, λ d le. f d (h.1 d (omega arith)) (g.1 d (omega arith)))

pub deep_two : {Q R : ℕ → Type 0} → Deep Q → Deep R → Deep (λ d. Q d × R d)
deep_two h g = deep_both (λ d x y. (x, y)) h g

-- what holds one deeper
pub deep_next : {Q R : ℕ → Type 0} → ((d : ℕ) → Q d → R (suc d)) → Deep Q → Deep R
deep_next {R = R} f h = (suc h.0, by_depth)
  where
    by_depth : (d : ℕ) → suc h.0 ≤ d → R d
    by_depth zero le = absurd (omega arith)
    by_depth (suc d) le = f d (h.1 d (omega arith))
