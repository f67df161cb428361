-- What an accepted document is held to: what the crates that run it ask for.
use Rattle.std.specs.Prelude.{◌≡◌, ℕ, ◌*◌, ◌<◌, ◌≤◌, List, [], length, map, sum_by, slice_get, Some, All}
use Rattle.iter_check.specs.FaultList.{fault_list}
use Rattle.pulse_base.specs.declared.event.Event.{Event}
use Rattle.pulse_base.specs.declared.event.Event.TheVariants.{Ask, Tick, Deliver, Turn}
use Rattle.pulse_base.specs.declared.plan.RequestPlan.{RequestPlan}
use Rattle.range_table.specs.Table.{IsTable}
use Rattle.scenario_text.specs.declared.plan.PlanRegion.{PlanRegion}
use Rattle.scenario_text.specs.declared.scenario.Scenario.{Scenario}
use Rattle.scenario_text.specs.OfProgram.{arg_count}

-- an event names one of so many requests, or one of so many nodes
abbrev pub IsEventOf : ℕ → ℕ → Event → Type 0
IsEventOf requests nodes (Ask n) = n < requests
IsEventOf requests nodes (Tick n) = n < requests
IsEventOf requests nodes (Deliver n) = Unit {0}
IsEventOf requests nodes (Turn n) = n < nodes

-- the regions make a table, each lies on a node that is there and has as many bytes as its span, and all together not too many
pub record AreRegions (nodes : ℕ) (regions : List PlanRegion) : Type 0 where
  pub some : 1 ≤ length regions
  pub table : IsTable (map (λ r. r.span) regions)
  pub placed : All (λ r. r.node < nodes) regions
  pub filled : All (λ r. length r.bytes ≡ (r.span).len) regions
  pub bytes : sum_by (λ r. length r.bytes) regions ≤ 16777216

-- each request has its place as number, a client that is there, and an iterator of the program with as many arguments
pub record AreRequests (s : Scenario) (requests : List RequestPlan) : Type 0 where
  pub some : 1 ≤ length requests
  pub few : length requests ≤ 1000
  pub numbered : (k : ℕ) (r : RequestPlan) → slice_get requests k ≡ Some r → r.number ≡ k
  pub asked : All (λ r. r.client < (s.plan).clients) requests
  pub iters : All (λ r. r.iter < length (s.checked).iters) requests
  pub args : All (λ r. arg_count s.checked r.iter ≡ Some (length r.args.items)) requests

-- a whole scenario
pub record IsRunnable (s : Scenario) : Type 0 where
  pub accepted : fault_list s.checked ≡ []
  pub nodes : (1 ≤ (s.plan).nodes) × ((s.plan).nodes ≤ 64)
  pub slots : (1 ≤ (s.plan).slots) × ((s.plan).slots ≤ 64)
  pub budget : 1 ≤ (s.plan).budget
  pub rounds : (1 ≤ (s.plan).rounds) × ((s.plan).rounds ≤ 1000)
  pub tries : (s.plan).tries ≤ 1000
  pub clients : (1 ≤ (s.plan).clients) × ((s.plan).clients ≤ 16)
  pub port : (1024 ≤ (s.plan).port) × ((s.plan).port ≤ 65000)
  pub regions : AreRegions (s.plan).nodes (s.plan).regions
  pub requests : AreRequests s (s.plan).requests
  pub work : (s.plan).rounds * (s.plan).budget * length (s.plan).requests ≤ 1048576
  pub few_events : length (s.plan).events ≤ 100000
  pub events : All (IsEventOf (length (s.plan).requests) (s.plan).nodes) (s.plan).events
