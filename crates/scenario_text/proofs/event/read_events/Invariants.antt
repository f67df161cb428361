use Rattle.std.proofs.Common.{◌≡◌, ◌-◌, ◌++◌, drop, length}
use Rattle.std.specs.Prelude.{option_and_then}
use Rattle.toml.specs.Data.{as_str}
use Rattle.toml.specs.View.{items_view}
use Rattle.scenario_text.specs.Events.{event_of, events_fault}
use Rattle.scenario_text.specs.Regions.{gather, plan_events}
use Rattle.scenario_text.proofs.event.read_events.Given as goal

abbrev pub invariant-texts : goal.invariant-texts
invariant-texts l = record {
  fault : events_fault l.requests l.nodes 0 (items_view l.texts) ≡ events_fault l.requests l.nodes l.at (items_view (drop l.at l.texts));
  events : plan_events l.requests l.nodes (items_view l.texts) ≡ l.events ++ gather (λ i d. option_and_then (event_of l.requests l.nodes) (as_str d)) l.at (items_view (drop l.at l.texts));
}

abbrev pub decreases-texts : goal.decreases-texts
decreases-texts l = length l.texts - l.at
