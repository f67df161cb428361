use Rattle.std.proofs.Common.{◌≡◌, ◌-◌, ◌++◌, drop, length}
use Rattle.std.specs.Prelude.{option_map}
use Rattle.toml.specs.Data.{as_table}
use Rattle.toml.specs.View.{items_view}
use Rattle.scenario_text.specs.Form.{each}
use Rattle.scenario_text.specs.OfProgram.{iter_fault}
use Rattle.scenario_text.specs.Plan.{plan_request, plan_requests}
use Rattle.scenario_text.specs.Regions.{gather}
use Rattle.scenario_text.specs.Steps.{AreSmallClients}
use Rattle.scenario_text.proofs.request.read_requests.Given as goal

abbrev pub invariant-requests : goal.invariant-requests
invariant-requests l = record {
  clients : AreSmallClients (items_view (drop l.at l.values));
  fault : each (iter_fault l.checked) 0 (items_view l.values) ≡ each (iter_fault l.checked) l.at (items_view (drop l.at l.values));
  plan : plan_requests l.checked (items_view l.values) ≡ l.requests ++ gather (λ i d. option_map (plan_request l.checked i) (as_table d)) l.at (items_view (drop l.at l.values));
}

abbrev pub decreases-requests : goal.decreases-requests
decreases-requests l = length l.values - l.at
