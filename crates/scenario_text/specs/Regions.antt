-- The regions and the events that a document's table gives.
use Rattle.std.specs.Prelude.{ℕ, ◌+◌, true, List, [], ◌∷◌, map, Option, Some, None, option_map, option_and_then, codes}
use Rattle.toml.specs.Data.{Data, Items, no_items, item, Members, as_str, as_table}
use Rattle.range_table.specs.declared.region.RegionSpan.{RegionSpan}
use Rattle.pulse_base.specs.declared.event.Event.{Event}
use Rattle.scenario_text.specs.declared.plan.PlanRegion.{PlanRegion}
use Rattle.scenario_text.specs.Events.{event_of}
use Rattle.scenario_text.specs.Values.{base_of, node_of, truth_at, region_bytes, region_size, region_shown}

-- what the entries of a list give, from an index on
abbrev pub with_first : {A : Type 0} → Option A → List A → List A
with_first None xs = xs
with_first (Some x) xs = x ∷ xs

abbrev pub gather : {A : Type 0} → (ℕ → Data → Option A) → ℕ → Items → List A
gather give i no_items = []
gather give i (item d ds) = with_first (give i d) (gather give (i + 1) ds)

-- the events of some texts, where there are so many requests and nodes
abbrev pub plan_events : ℕ → ℕ → Items → List Event
plan_events requests nodes texts = gather (λ i d. option_and_then (event_of requests nodes) (as_str d)) 0 texts

-- a region's place and permissions
abbrev pub span_of : Members → RegionSpan
span_of ms = record {
  base = base_of ms;
  len = region_size ms;
  read = truth_at (codes "read") true ms;
  write = truth_at (codes "write") true ms;
}

abbrev pub plan_region : Members → PlanRegion
plan_region ms = record { span = span_of ms; node = node_of ms; shown = region_shown ms; bytes = region_bytes ms }

abbrev pub plan_regions : Items → List PlanRegion
plan_regions regions = gather (λ i d. option_map plan_region (as_table d)) 0 regions

abbrev pub spans : Items → List RegionSpan
spans regions = map (λ r. r.span) (plan_regions regions)
