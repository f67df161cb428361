use Rattle.std.proofs.Common.{◌≡◌, ◌≤◌, ◌+◌, ◌*◌, ◌^◌, ◌-◌, ◌++◌, drop, length}
use Rattle.std.specs.Prelude.{option_map}
use Rattle.toml.specs.Data.{as_table}
use Rattle.toml.specs.View.{items_view}
use Rattle.scenario_text.specs.Form.{each, region_fault, sizes}
use Rattle.scenario_text.specs.Regions.{gather, plan_region, plan_regions}
use Rattle.scenario_text.proofs.region.read_regions.Given as goal

abbrev pub invariant-regions : goal.invariant-regions
invariant-regions l = record {
  fault : each (region_fault l.nodes) 0 (items_view l.values) ≡ each (region_fault l.nodes) l.at (items_view (drop l.at l.values));
  size : sizes (items_view l.values) ≡ l.total + sizes (items_view (drop l.at l.values));
  bound : l.total ≤ l.at * 2 ^ 65;
  plan : l.total ≤ 16777216 → plan_regions (items_view l.values) ≡ l.regions ++ gather (λ i d. option_map plan_region (as_table d)) l.at (items_view (drop l.at l.values));
}

abbrev pub decreases-regions : goal.decreases-regions
decreases-regions l = length l.values - l.at
