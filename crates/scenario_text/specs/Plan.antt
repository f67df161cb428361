-- The plan that a document's table gives, beside its program.
use Rattle.std.specs.Prelude.{ℕ, List, option_map, unwrap_or}
use Rattle.toml.specs.Data.{Items, Members, as_table}
use Rattle.iter_syntax.specs.declared.tree.Program.{Program}
use Rattle.pulse_base.specs.declared.plan.RequestPlan.{RequestPlan}
use Rattle.pulse_base.specs.declared.event.Event.{Event}
use Rattle.scenario_text.specs.declared.plan.Plan.{Plan}
use Rattle.scenario_text.specs.declared.plan.PlanRegion.{PlanRegion}
use Rattle.scenario_text.specs.Form.{count}
use Rattle.scenario_text.specs.Numbers.{argument_of}
use Rattle.scenario_text.specs.OfProgram.{iter_index}
use Rattle.scenario_text.specs.Regions.{gather, plan_events, plan_regions}
use Rattle.scenario_text.specs.Values.{nodes_of, slots_of, budget_of, rounds_of, tries_of, clients_of, port_of, trace_of, lists_events, events_of, regions_of, requests_of, args_of, client_of, iter_name_of}

-- the arguments of some values
abbrev pub plan_args : Items → List ℕ
plan_args values = gather (λ i d. argument_of d) 0 values

-- the request at a place of the list, which is its number
abbrev pub plan_request : Program → ℕ → Members → RequestPlan
plan_request p i ms = record {
  number = i;
  iter = unwrap_or (iter_index p (iter_name_of ms)) 0;
  client = client_of ms;
  args = record { items = plan_args (args_of ms) };
}

abbrev pub plan_requests : Program → Items → List RequestPlan
plan_requests p requests = gather (λ i d. option_map (plan_request p i) (as_table d)) 0 requests

-- the plan of a table's own keys, with these lists
abbrev pub plan_with : Members → List Event → List PlanRegion → List RequestPlan → Plan
plan_with ms events regions requests = record {
  nodes = nodes_of ms;
  slots = slots_of ms;
  budget = budget_of ms;
  rounds = rounds_of ms;
  tries = tries_of ms;
  clients = clients_of ms;
  port = port_of ms;
  trace = trace_of ms;
  listed = lists_events ms;
  events = events;
  regions = regions;
  requests = requests;
}

abbrev pub plan_of : Program → Members → Plan
plan_of p ms =
    plan_with ms (plan_events (count (requests_of ms)) (nodes_of ms) (events_of ms)) (plan_regions (regions_of ms)) (plan_requests p (requests_of ms))
