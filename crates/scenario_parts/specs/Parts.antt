-- The nodes of a scenario before the first event, with the images of its program.
use Rattle.std.specs.Prelude.{ℕ, List, map}
use Rattle.code_image.specs.declared.image.Image.{Image}
use Rattle.run_rules.specs.Node.{NodeState}
use Rattle.node_core.specs.Part.{PartState}
use Rattle.scenario_text.specs.declared.scenario.Scenario.{Scenario}
use Rattle.scenario_run.specs.Start.{first_node, first_nodes}

abbrev pub with_images : List Image → NodeState → PartState
with_images images n = record { node = n; images = images }

abbrev pub first_part : Scenario → List Image → (n : ℕ) → PartState
first_part s images n = with_images images (first_node s n)

-- a count of nodes, from node n on
abbrev pub first_parts : Scenario → List Image → (n count : ℕ) → List PartState
first_parts s images n count = map (with_images images) (first_nodes s n count)
