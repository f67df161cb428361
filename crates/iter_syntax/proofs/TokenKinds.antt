-- The kinds of tokens, their places aside, and the kinds that some bytes spell.
use Rattle.std.proofs.Common.{◌≡◌, ℕ, List, [], ◌∷◌, ◌++◌, refl, ap}
use Rattle.iter_syntax.specs.Names.{Token, TokenKind}
use Rattle.iter_syntax.specs.Spelling.{Spells}
use Rattle.iter_syntax.specs.Printed.{Kinds}

abbrev pub kinds : List Token → Kinds
kinds [] = []
kinds (t ∷ ts) = t.kind ∷ kinds ts

-- some bytes spell the kind
abbrev pub Spelled : TokenKind → Type 0
Spelled k = (p : List ℕ) × Spells p k

abbrev pub AllSpelled : Kinds → Type 0
AllSpelled [] = Unit {0}
AllSpelled (k ∷ ks) = Spelled k × AllSpelled ks

pub kinds-append : (us vs : List Token) → kinds (us ++ vs) ≡ kinds us ++ kinds vs
kinds-append [] vs = refl
kinds-append (t ∷ us) vs = ap (λ l. t.kind ∷ l) (kinds-append us vs)

-- tokens whose kinds are a row and another are tokens of the one and tokens of the other
pub record Split (us : List Token) (a b : Kinds) : Type 0 where
  pub front : List Token
  pub back : List Token
  pub splits : us ≡ front ++ back
  pub front_kinds : kinds front ≡ a
  pub back_kinds : kinds back ≡ b

pub split : (us : List Token) (a b : Kinds) → kinds us ≡ a ++ b → Split us a b
split us [] b e = record { front = []; back = us; splits = refl; front_kinds = refl; back_kinds = e }
split [] (k ∷ a) b e = absurd (cc)
split (t ∷ us) (k ∷ a) b e =
    let same : t.kind ≡ k = cc in
    let s = split us a b (cc) in
    record { front = t ∷ s.front; back = s.back; splits = ap (λ l. t ∷ l) s.splits; front_kinds = kind_and same s.front_kinds; back_kinds = s.back_kinds }
  where
    kind_and : {j k : TokenKind} {l m : Kinds} → j ≡ k → l ≡ m → j ∷ l ≡ k ∷ m
    kind_and e f = cc

-- a token of a kind and the tokens behind it
pub record First (us : List Token) (k : TokenKind) (b : Kinds) : Type 0 where
  pub token : Token
  pub back : List Token
  pub splits : us ≡ token ∷ back
  pub kind : token.kind ≡ k
  pub back_kinds : kinds back ≡ b

pub first : (us : List Token) (k : TokenKind) (b : Kinds) → kinds us ≡ k ∷ b → First us k b
first [] k b e = absurd (cc)
first (t ∷ us) k b e = record { token = t; back = us; splits = refl; kind = cc; back_kinds = cc }

pub none_left : (us : List Token) → kinds us ≡ [] → us ≡ []
none_left [] e = refl
none_left (t ∷ us) e = absurd (cc)

pub spelled-append : (a b : Kinds) → AllSpelled a → AllSpelled b → AllSpelled (a ++ b)
spelled-append [] b h g = g
spelled-append (k ∷ a) b h g = (h.0, spelled-append a b h.1 g)

pub spelled-front : (a b : Kinds) → AllSpelled (a ++ b) → AllSpelled a
spelled-front [] b h = tt
spelled-front (k ∷ a) b h = (h.0, spelled-front a b h.1)

pub spelled-back : (a b : Kinds) → AllSpelled (a ++ b) → AllSpelled b
spelled-back [] b h = h
spelled-back (k ∷ a) b h = spelled-back a b h.1
