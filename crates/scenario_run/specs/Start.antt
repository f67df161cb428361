-- The world of a scenario before its first event: nothing is asked, sent, live or kept.
use Rattle.std.specs.Prelude.{ℕ, zero, suc, List, [], ◌∷◌, length, map, replicate, nat_eq, if◌then◌else◌}
use Rattle.std.specs.FinMap as m
use Rattle.run_rules.specs.declared.node.NodeRegion.{NodeRegion}
use Rattle.run_rules.specs.declared.client.Asking.TheVariants.{NotAsked}
use Rattle.run_rules.specs.Node.{NodeState}
use Rattle.event_run.specs.World.{WorldState}
use Rattle.scenario_text.specs.declared.plan.PlanRegion.{PlanRegion}
use Rattle.scenario_text.specs.declared.scenario.Scenario.{Scenario}
use Rattle.scenario_run.specs.Setting.{sizes_of}

-- the regions of node n, each under its number in the plan, from region k on
abbrev pub regions_on : ℕ → ℕ → List PlanRegion → List NodeRegion
regions_on n k [] = []
regions_on n k (r ∷ regions) =
    if nat_eq r.node n
    then record { number = k; span = r.span; bytes = r.bytes } ∷ regions_on n (suc k) regions
    else regions_on n (suc k) regions

abbrev pub first_node : Scenario → ℕ → NodeState
first_node s n = record {
  regions = regions_on n 0 (s.plan).regions;
  sizes = map (sizes_of s.checked) (s.checked).iters;
  slots = (s.plan).slots;
  kept = m.empty;
  live = [];
}

-- a count of nodes, from node n on
abbrev pub first_nodes : Scenario → (n count : ℕ) → List NodeState
first_nodes s n zero = []
first_nodes s n (suc count) = first_node s n ∷ first_nodes s (suc n) count

abbrev pub start_of : Scenario → WorldState
start_of s = record {
  nodes = first_nodes s 0 (s.plan).nodes;
  asking = replicate (length (s.plan).requests) NotAsked;
  letters = [];
  order = [];
}
