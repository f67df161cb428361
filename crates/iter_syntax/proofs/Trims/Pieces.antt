-- Forms whose printed tokens are their own without some parentheses, part by part.
use Rattle.std.proofs.Common.{◌≡◌, ℕ, Bool, true, List, [], ◌∷◌, ◌++◌, Option, Some, None, flat_map, append_assoc, refl, sym, ap, ◌∙◌, subst, inl, inr}
use Rattle.iter_syntax.specs.Names.{Token, TokenKind, Keyword, Symbol}
use Rattle.iter_syntax.specs.declared.token.TokenKind.TheVariants as K
use Rattle.iter_syntax.specs.Deep.{depth_after}
use Rattle.iter_syntax.specs.Kinds.{is_keyword, is_symbol, is_name, is_next, is_number, is_operator}
use Rattle.iter_syntax.specs.Grammar.{Grammar, token, pair, value, row, many, optional, either}
use Rattle.iter_syntax.specs.Productions as P
use Rattle.iter_syntax.specs.Printed.{Kinds, key, sym as kind, word, between, next_word}
use Rattle.iter_syntax.specs.Operators.{symbol_of_operator}
use Rattle.iter_syntax.specs.Steps.Printing.{or_none}
use Rattle.iter_syntax.proofs.TokenKinds.{kinds, kinds-append}
use Rattle.iter_syntax.proofs.Trims.{Trims, trims_same, trims_join}
use Rattle.iter_syntax.proofs.Trims.Scan.{Closed, closed_none, closed_token, closed_join}
use Rattle.iter_syntax.proofs.KindTests.{keyword_kind, symbol_kind_is, name_kind, number_kind, next_kind, operator_kind, operator_flat}

-- brackets close among the tokens, and what is printed for them is these without some parentheses
pub record Prints (us ts : Kinds) : Type 0 where
  pub closed : Closed ts
  pub trims : Trims us ts

prints_none : Prints [] []
prints_none = record { closed = closed_none; trims = trims_same [] }

pub prints_join : (a b c d : Kinds) → Prints a b → Prints c d → Prints (a ++ c) (b ++ d)
prints_join a b c d h g = record { closed = closed_join b d h.closed g.closed; trims = trims_join a b c d h.trims g.trims }

prints_kind : (k : TokenKind) → ((n : ℕ) → depth_after n k ≡ n) → Prints (k ∷ []) (k ∷ [])
prints_kind k h = record { closed = closed_token k h; trims = trims_same (k ∷ []) }

-- whole forms are printed so
pub record AllPrint {A : Type 0} (g : Grammar A) (f : A → Kinds) : Type 0 where
  pub all : (ts : List Token) (x : A) → g.whole ts x → Prints (f x) (kinds ts)

pub kinds_of : (ts u v : List Token) → ts ≡ u ++ v → kinds ts ≡ kinds u ++ kinds v
kinds_of ts u v e = ap kinds e ∙ kinds-append u v

pub prints_pair : {A B : Type 0} (a : Grammar A) (b : Grammar B) (f : A → Kinds) (g : B → Kinds) → AllPrint a f → AllPrint b g → AllPrint (pair a b) (λ x. f x.0 ++ g x.1)
prints_pair a b f g h k = record { all = all }
  where
    all : (ts : List Token) (x : _) → (pair a b).whole ts x → Prints (f x.0 ++ g x.1) (kinds ts)
    all ts x (u, v, e, w, z) =
        subst (Prints (f x.0 ++ g x.1)) (sym (kinds_of ts u v e)) (prints_join (f x.0) (kinds u) (g x.1) (kinds v) (h.all u x.0 w) (k.all v x.1 z))

pub prints_value : {A B : Type 0} (f : A → B) (a : Grammar A) (g : A → Kinds) (h : B → Kinds) → ((x : A) → h (f x) ≡ g x) → AllPrint a g → AllPrint (value f a) h
prints_value f a g h same k = record { all = λ ts y w. subst (λ l. Prints l (kinds ts)) (sym (ap h w.2 ∙ same w.0)) (k.all ts w.0 w.1) }

pub prints_either : {A : Type 0} (a b : Grammar A) (f : A → Kinds) → AllPrint a f → AllPrint b f → AllPrint (either a b) f
prints_either a b f h k = record { all = all }
  where
    all : (ts : List Token) (x : _) → (either a b).whole ts x → Prints (f x) (kinds ts)
    all ts x (inl w) = h.all ts x w
    all ts x (inr w) = k.all ts x w

pub prints_optional : {A : Type 0} (a : Grammar A) (f : A → Kinds) → AllPrint a f → AllPrint (optional a) (or_none f)
prints_optional a f h = record { all = all }
  where
    all : (ts : List Token) (x : Option _) → (optional a).whole ts x → Prints (or_none f x) (kinds ts)
    all ts None e = subst (λ l. Prints [] (kinds l)) (sym e) prints_none
    all ts (Some x) w = h.all ts x w

pub prints_many : {A : Type 0} (a : Grammar A) (f : A → Kinds) → AllPrint a f → AllPrint (many a) (flat_map f)
prints_many a f h = record { all = λ ts xs w. rows xs ts w }
  where
    rows : (xs : List _) (ts : List Token) → row a xs ts → Prints (flat_map f xs) (kinds ts)
    rows [] ts e = subst (λ l. Prints [] (kinds l)) (sym e) prints_none
    rows (x ∷ xs) ts (u, v, e, w, z) =
        subst (Prints (f x ++ flat_map f xs)) (sym (kinds_of ts u v e)) (prints_join (f x) (kinds u) (flat_map f xs) (kinds v) (h.all u x w) (rows xs v z))

-- ---- one token

prints_token : (test : Token → Bool) (f : Token → TokenKind) → ((t : Token) → test t ≡ true → t.kind ≡ f t) → ((t : Token) (n : ℕ) → depth_after n (f t) ≡ n) → AllPrint (token test) (λ t. f t ∷ [])
prints_token test f is flat = record {
  all = λ ts t w. subst (Prints (f t ∷ [])) (sym (ap kinds w.0 ∙ ap (λ k. k ∷ []) (is t w.1))) (prints_kind (f t) (flat t));
}

pub prints_keyword : (k : Keyword) → AllPrint (P.keyword k).grammar (λ p. key k ∷ [])
prints_keyword k = prints_value P.place_of _ _ _ (λ t. refl) (prints_token (is_keyword k) (λ t. key k) (λ t h. keyword_kind k t.kind h) (λ t n. refl))

pub prints_symbol : (s : Symbol) → ((n : ℕ) → depth_after n (kind s) ≡ n) → AllPrint (P.symbol s).grammar (λ p. kind s ∷ [])
prints_symbol s flat = prints_value P.place_of _ _ _ (λ t. refl) (prints_token (is_symbol s) (λ t. kind s) (λ t h. symbol_kind_is s t.kind h) (λ t. flat))

pub prints_next : AllPrint P.next_word.grammar (λ p. next_word ∷ [])
prints_next = prints_value P.place_of _ _ _ (λ t. refl) (prints_token is_next (λ t. next_word) (λ t h. next_kind t.kind h) (λ t n. refl))

pub prints_word : AllPrint P.word.grammar (λ w. word w ∷ [])
prints_word = prints_value P.to_word _ _ _ (λ t. refl) (prints_token is_name (λ t. word (P.to_word t)) (λ t h. name_kind t.place t.kind h) (λ t n. refl))

pub prints_number : AllPrint P.number.grammar (λ x. K.Number x.1 ∷ [])
prints_number = prints_value P.to_number _ _ _ (λ t. refl) (prints_token is_number (λ t. K.Number (P.to_number t).1) (λ t h. number_kind t.kind h) (λ t n. refl))

pub prints_operator : (n : ℕ) → AllPrint (P.operator n).grammar (λ x. kind (symbol_of_operator x.1) ∷ [])
prints_operator n =
    prints_value P.to_operator _ _ _ (λ t. refl)
    (prints_token (is_operator n) (λ t. kind (symbol_of_operator (P.to_operator t).1)) (λ t h. (operator_kind n t.kind h).0) (λ t. operator_flat (P.to_operator t).1))

-- ---- brackets

-- what stands before a closing bracket
pub record Before (c : Symbol) (us ts : Kinds) : Type 0 where
  pub inside : Kinds
  pub splits : ts ≡ inside ++ kind c ∷ []
  pub prints : Prints us inside

-- whole forms end with a closing bracket
pub record AllBefore {A : Type 0} (c : Symbol) (g : Grammar A) (f : A → Kinds) : Type 0 where
  pub all : (ts : List Token) (x : A) → g.whole ts x → Before c (f x) (kinds ts)

pub one_symbol : (s : Symbol) (ts : List Token) (x : _) → (P.symbol s).grammar.whole ts x → kinds ts ≡ kind s ∷ []
one_symbol s ts x (t, (e, h), p) = ap kinds e ∙ ap (λ k. k ∷ []) (symbol_kind_is s t.kind h)

pub before_last : {A : Type 0} (c : Symbol) (a : Grammar A) (f : A → Kinds) → AllPrint a f → AllBefore c (pair a (P.symbol c).grammar) (λ x. f x.0)
before_last c a f h = record { all = all }
  where
    all : (ts : List Token) (x : _) → (pair a (P.symbol c).grammar).whole ts x → Before c (f x.0) (kinds ts)
    all ts x (u, v, e, w, z) =
        record { inside = kinds u; splits = kinds_of ts u v e ∙ ap (λ l. kinds u ++ l) (one_symbol c v x.1 z); prints = h.all u x.0 w }

pub before_pair : {A B : Type 0} (c : Symbol) (a : Grammar A) (b : Grammar B) (f : A → Kinds) (g : B → Kinds) → AllPrint a f → AllBefore c b g → AllBefore c (pair a b) (λ x. f x.0 ++ g x.1)
before_pair c a b f g h k = record { all = all }
  where
    all : (ts : List Token) (x : _) → (pair a b).whole ts x → Before c (f x.0 ++ g x.1) (kinds ts)
    all ts x (u, v, e, w, z) =
        let rest = k.all v x.1 z in
        record {
          inside = kinds u ++ rest.inside;
          splits = kinds_of ts u v e ∙ ap (λ l. kinds u ++ l) rest.splits ∙ sym (append_assoc (kinds u) rest.inside (kind c ∷ []));
          prints = prints_join (f x.0) (kinds u) (g x.1) rest.inside (h.all u x.0 w) rest.prints;
        }

trims_between : (o c : Symbol) (us ts : Kinds) → Trims us ts → Trims (between o us c) (between o ts c)
trims_between o c us ts h =
    trims_join (kind o ∷ []) (kind o ∷ []) (us ++ kind c ∷ []) (ts ++ kind c ∷ []) (trims_same _) (trims_join us ts (kind c ∷ []) (kind c ∷ []) h (trims_same _))

-- brackets whose insides may close
abbrev pub Closing : Symbol → Symbol → Type 0
Closing o c = (a : Kinds) → Closed a → Closed (between o a c)

pub prints_between : (o c : Symbol) (us ts : Kinds) → Closing o c → Prints us ts → Prints (between o us c) (between o ts c)
prints_between o c us ts close h = record { closed = close ts h.closed; trims = trims_between o c us ts h.trims }

-- the tokens of what brackets enclose
pub between_kinds : {B : Type 0} (o c : Symbol) (b : Grammar B) (f : B → Kinds) → AllBefore c b f → (ts : List Token) (x : _) → (pair (P.symbol o).grammar b).whole ts x → (inside : Kinds) × (kinds ts ≡ between o inside c) × Prints (f x.1) inside
between_kinds o c b f h ts x (u, v, e, w, z) =
    let rest = h.all v x.1 z in
    (rest.inside, kinds_of ts u v e ∙ ap (λ l. l ++ kinds v) (one_symbol o u x.0 w) ∙ ap (λ l. kind o ∷ l) rest.splits, rest.prints)

pub prints_enclosed : {B : Type 0} (o c : Symbol) (b : Grammar B) (f : B → Kinds) → Closing o c → AllBefore c b f → AllPrint (pair (P.symbol o).grammar b) (λ x. between o (f x.1) c)
prints_enclosed o c b f close h = record { all = all }
  where
    all : (ts : List Token) (x : _) → (pair (P.symbol o).grammar b).whole ts x → Prints (between o (f x.1) c) (kinds ts)
    all ts x w =
        let s = between_kinds o c b f h ts x w in
        subst (Prints (between o (f x.1) c)) (sym s.1) (prints_between o c (f x.1) s.0 close s.2)

pub prints_brackets : {A : Type 0} (o c : Symbol) (a : Grammar A) (f : A → Kinds) → Closing o c → AllPrint a f → AllPrint (value P.inner (pair (P.symbol o).grammar (pair a (P.symbol c).grammar))) (λ x. between o (f x) c)
prints_brackets o c a f close h = prints_value P.inner _ _ _ (λ x. refl) (prints_enclosed o c _ _ close (before_last c a f h))
