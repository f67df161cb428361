-- Nodes that a yard is given back.
use Rattle.std.specs.Prelude.{◌≡◌, List, ◌++◌, Option, option_map}
use Rattle.node_core.specs.Part.{PartState}

-- the yard has these parts more
abbrev pub GivesBack : Option (List PartState) → Option (List PartState) → List PartState → Type 0
GivesBack old new parts = new ≡ option_map (λ before. before ++ parts) old
