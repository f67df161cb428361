-- The levels that a tree of at most 20,000 keys has, for the proofs alone.
use Rattle.std.specs.Prelude.{◌≡◌, ℕ, ◌≤◌, ◌⊎◌}
use Rattle.shape_build.specs.declared.text.Cut.{Cut}
use Rattle.shape_build.specs.declared.tree.Level.{Level}

pub record LevelWithin (l : Level) (first size keys : ℕ) : Type 0 where
  pub starts : l.first ≤ first
  pub fits : l.size ≤ size
  pub holds : l.keys ≡ keys

-- the leaves, or one of three levels over them
abbrev pub LevelFits : Level → Type 0
LevelFits l = LevelWithin l 0 1334 15 ⊎ (LevelWithin l 1334 84 240 ⊎ (LevelWithin l 1418 6 3840 ⊎ LevelWithin l 1424 1 61440))

pub record IsTreeCut (c : Cut) : Type 0 where
  pub some : 1 ≤ c.size
  pub at : c.base ≡ 65536
  pub wide : c.width ≡ 256
  pub on : c.node ≡ 0
