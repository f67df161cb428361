-- Grammars over tokens: which token lists are whole forms, with their values, and which begin one.
use Rattle.std.specs.Prelude.{◌≡◌, Bool, true, List, [], ◌∷◌, ◌++◌, ◌⊎◌, Option, Some, None}
use Rattle.iter_syntax.specs.Names.{Token}

pub record Grammar (A : Type 0) : Type 1 where
  pub whole : List Token → A → Type 0
  pub begins : List Token → Type 0

-- one token of a kind
abbrev pub token : (Token → Bool) → Grammar Token
token kind = record {
  whole = λ ts t. (ts ≡ t ∷ []) × (kind t ≡ true);
  begins = λ ts. (ts ≡ []) ⊎ ((t : Token) × (ts ≡ t ∷ []) × (kind t ≡ true));
}

-- one form and then another
abbrev pub pair : {A B : Type 0} → Grammar A → Grammar B → Grammar (A × B)
pair a b = record {
  whole = λ ts x. (u : List Token) × (v : List Token) × (ts ≡ u ++ v) × a.whole u x.0 × b.whole v x.1;
  begins = λ ts. a.begins ts ⊎ ((u : List Token) × (v : List Token) × (x : _) × (ts ≡ u ++ v) × a.whole u x × b.begins v);
}

-- a form with a value made of its own
abbrev pub value : {A B : Type 0} → (A → B) → Grammar A → Grammar B
value f a = record {
  whole = λ ts y. (x : _) × a.whole ts x × (y ≡ f x);
  begins = a.begins;
}

-- a row of forms with these values
abbrev pub row : {A : Type 0} → Grammar A → List A → List Token → Type 0
row a [] ts = ts ≡ []
row a (x ∷ xs) ts = (u : List Token) × (v : List Token) × (ts ≡ u ++ v) × a.whole u x × row a xs v

-- any number of a form
abbrev pub many : {A : Type 0} → Grammar A → Grammar (List A)
many a = record {
  whole = λ ts xs. row a xs ts;
  begins = λ ts. (u : List Token) × (v : List Token) × (xs : _) × (ts ≡ u ++ v) × row a xs u × ((v ≡ []) ⊎ a.begins v);
}

abbrev pub whole_or_nothing : {A : Type 0} → Grammar A → List Token → Option A → Type 0
whole_or_nothing a ts None = ts ≡ []
whole_or_nothing a ts (Some x) = a.whole ts x

-- a form or nothing
abbrev pub optional : {A : Type 0} → Grammar A → Grammar (Option A)
optional a = record {
  whole = whole_or_nothing a;
  begins = λ ts. (ts ≡ []) ⊎ a.begins ts;
}

-- one form or another
abbrev pub either : {A : Type 0} → Grammar A → Grammar A → Grammar A
either a b = record {
  whole = λ ts x. a.whole ts x ⊎ b.whole ts x;
  begins = λ ts. a.begins ts ⊎ b.begins ts;
}

-- no form at all, which nothing begins
abbrev pub nothing : {A : Type 0} → Grammar A
nothing = record { whole = λ ts x. ⊥; begins = λ ts. ts ≡ [] }
