-- What starting one child did.
use Rattle.std.specs.Prelude.{◌≡◌, ℕ, List, [], ◌∷◌, ◌++◌, Option}
use Rattle.pulse_base.specs.Spawner.{Family}
use Rattle.pulse_cluster.specs.Cluster.{FamilyGrew}

-- a child of these words and this input was started, and its number put after those of the others
pub record StartsOne (old now : Option Family) (words : List (List ℕ)) (input before after : List ℕ) : Type 0 where
  pub kid : ℕ
  pub last : after ≡ before ++ kid ∷ []
  pub family : FamilyGrew old now (record { words = words; input = input; kid = kid } ∷ []) []
