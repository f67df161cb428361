-- What a scenario runs over one flat memory: its regions, the walks of its requests, and how many iterations a walk makes at most.
use Rattle.std.specs.Prelude.{ℕ, ◌*◌, List, map, filter_map, Option, option_map, slice_get}
use Rattle.iter_syntax.specs.declared.tree.Program.{Program}
use Rattle.iter_check.specs.FaultList.{record_fields}
use Rattle.pulse_base.specs.declared.plan.RequestPlan.{RequestPlan}
use Rattle.scenario_text.specs.declared.plan.Plan.{Plan}
use Rattle.scenario_text.specs.declared.plan.PlanRegion.{PlanRegion}
use Rattle.scenario_text.specs.declared.scenario.Scenario.{Scenario}
use Rattle.flat_run.specs.declared.state.FlatRegion.{FlatRegion}
use Rattle.flat_run.specs.declared.state.FlatState.{FlatState}
use Rattle.flat_run.specs.Walk.{Walk}
use Rattle.flat_run.specs.Request.{start}
use Rattle.flat_run.specs.Run.{flat_run}

abbrev pub flat_region : PlanRegion → FlatRegion
flat_region r = record { span = r.span; bytes = r.bytes }

-- the walk of a request: its iterator, on the fields of the record that this is on
abbrev pub walk_of : Program → RequestPlan → Option Walk
walk_of p r = option_map (λ it. record { fields = record_fields p.records it; iter = it; args = r.args.items }) (slice_get p.iters r.iter)

-- the walks of the requests; the iterator of each is there
abbrev pub walks_of : Scenario → List Walk
walks_of s = filter_map (walk_of s.checked) s.plan.requests

abbrev pub limit_of : Plan → ℕ
limit_of plan = plan.rounds * plan.budget

-- the memory and the requests, when each request was asked
abbrev pub first_of : Scenario → FlatState
first_of s = start (map flat_region s.plan.regions) (walks_of s)

-- the same after an order of iterations
abbrev pub after : Scenario → List ℕ → FlatState
after s order = flat_run (walks_of s) (limit_of s.plan) (first_of s) order
