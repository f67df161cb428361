-- The span of fields: the least interval of the record that holds their bytes.
use Rattle.std.specs.Prelude.{◌≡◌, ℕ, ◌+◌, ◌≤◌, List, [], ◌∷◌, ⊤}
use Rattle.iter_check.specs.Layout.{width_bytes}
use Rattle.iter_unroll.specs.Uses.{Use}

-- an interval, by its offset and its length, holds all bytes of a field
abbrev pub Holds : ℕ × ℕ → Use → Type 0
Holds i u = (i.0 ≤ u.0) × (u.0 + width_bytes u.1 ≤ i.0 + i.1)

abbrev pub HoldsAll : ℕ × ℕ → List Use → Type 0
HoldsAll i [] = ⊤
HoldsAll i (u ∷ uses) = Holds i u × HoldsAll i uses

-- an interval lies inside another
abbrev pub LiesIn : ℕ × ℕ → ℕ × ℕ → Type 0
LiesIn i j = (j.0 ≤ i.0) × (i.0 + i.1 ≤ j.0 + j.1)

-- the least interval that holds the fields, and (0, 0) where there are none
abbrev pub IsSpan : List Use → ℕ × ℕ → Type 0
IsSpan [] i = i ≡ (0, 0)
IsSpan (u ∷ uses) i = HoldsAll i (u ∷ uses) × ((j : ℕ × ℕ) → HoldsAll j (u ∷ uses) → LiesIn i j)
