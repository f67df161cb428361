-- Of two splits of a list, one begins the other.
use Rattle.std.proofs.Common.{◌≡◌, List, [], ◌∷◌, ◌++◌, refl, sym, ◌⊎◌, inl, inr}
use Rattle.iter_syntax.specs.Names.{Token}

abbrev pub Tokens : Type 0
Tokens = List Token

-- where the second list begins with the first: what is between, and the rest
pub record Within (u v x y : Tokens) : Type 0 where
  pub between : Tokens
  pub longer : x ≡ u ++ between
  pub rest : v ≡ between ++ y

within_front : (t s : Token) (u v x y : Tokens) → t ≡ s → Within u v x y → Within (t ∷ u) v (s ∷ x) y
within_front t s u v x y e w = record { between = w.between; longer = λ i. sym e i ∷ w.longer i; rest = w.rest }

within_side : (t s : Token) (u v x y : Tokens) → t ≡ s → Within u v x y ⊎ Within x y u v → Within (t ∷ u) v (s ∷ x) y ⊎ Within (s ∷ x) y (t ∷ u) v
within_side t s u v x y e (inl w) = inl (within_front t s u v x y e w)
within_side t s u v x y e (inr w) = inr (within_front s t x y u v (sym e) w)

pub splits : (u v x y : Tokens) → u ++ v ≡ x ++ y → Within u v x y ⊎ Within x y u v
splits [] v x y e = inl (record { between = x; longer = refl; rest = e })
splits (t ∷ u) v [] y e = inr (record { between = t ∷ u; longer = refl; rest = sym e })
splits (t ∷ u) v (s ∷ x) y e =
    let first : t ≡ s = cc in
    let others : u ++ v ≡ x ++ y = cc in
    within_side t s u v x y first (splits u v x y others)
