-- What the yard, the link and the spawner of a run tell, before it and after it.
use Rattle.std.specs.Prelude.{◌≡◌, ℕ, List, Option}
use Rattle.pulse_base.specs.Link.{Traffic}
use Rattle.pulse_base.specs.Spawner.{Family}
use Rattle.pulse_base.specs.Outside.{Rose}
use Rattle.node_core.specs.Part.{PartState}

-- a value before a run and after it
pub record Change (A : Type 0) : Type 0 where
  pub before : A
  pub after : A

abbrev pub change : {A : Type 0} → A → A → Change A
change before after = record { before = before; after = after }

-- the parts that the yard was given back, the traffic of the link and the children of the spawner, and the counts of faults
pub record Sides : Type 0 where
  pub yard : Change (Option (List PartState))
  pub net : Change (Option Traffic)
  pub net_faults : Change ℕ
  pub kids : Change (Option Family)
  pub kid_faults : Change ℕ

-- each told by what it is before the run, and after it
abbrev pub sides : (a b : Option (List PartState)) (c d : Option Traffic) (e f : ℕ) (g h : Option Family) (i j : ℕ) → Sides
sides a b c d e f g h i j = record { yard = change a b; net = change c d; net_faults = change e f; kids = change g h; kid_faults = change i j }

-- nothing of them is told to have changed
pub record AreKept (s : Sides) : Type 0 where
  pub yard : (s.yard).after ≡ (s.yard).before
  pub net : (s.net).after ≡ (s.net).before
  pub kids : (s.kids).after ≡ (s.kids).before

-- a count of faults has become greater
abbrev pub HasRisen : Change ℕ → Type 0
HasRisen c = Rose c.before c.after
