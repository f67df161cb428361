-- The report of a scenario's run, and what is said of it.
use Rattle.std.specs.Prelude.{◌≡◌, ℕ, false, suc, List, [], ◌∷◌, length, map, Option, Some, None, slice_get, if◌then◌else◌}
use Rattle.pulse_base.specs.declared.event.Event.{Event}
use Rattle.pulse_base.specs.declared.event.Trace.{Trace}
use Rattle.run_rules.specs.Node.{NodeState}
use Rattle.run_rules.specs.Client.{answer_of}
use Rattle.run_rules.specs.Waiting.{Each}
use Rattle.node_core.specs.Part.{PartState}
use Rattle.run_views.specs.Setting.{Setting}
use Rattle.run_views.specs.Nodes.{bytes_numbered}
use Rattle.drain_run.specs.Drain.{Drains, waits}
use Rattle.event_run.specs.World.{WorldState, event, event_run}
use Rattle.pulse_codegen.specs.Compiled.{CompilesAll}
use Rattle.scenario_text.specs.declared.plan.Plan.{Plan}
use Rattle.scenario_text.specs.declared.plan.PlanRegion.{PlanRegion}
use Rattle.scenario_text.specs.declared.scenario.Scenario.{Scenario}
use Rattle.scenario_text.specs.Accepted.{IsRunnable}
use Rattle.scenario_run.specs.Setting.{setting_of}
use Rattle.scenario_run.specs.Start.{start_of}
use Rattle.run_explained.specs.Explained.{IsExplained}
use Rattle.report_text.specs.declared.outcome.OutRegion.{OutRegion}
use Rattle.report_text.specs.declared.outcome.Outcome.{Outcome}
use Rattle.report_text.specs.Report as text
use Rattle.replay.specs.declared.scenario.Replayed.{Replayed}

-- ---- what a report tells of a world

-- what each event did, in order
abbrev pub traces_of : Setting → WorldState → List Event → List Trace
traces_of u w [] = []
traces_of u w (e ∷ es) = (event u w e).1 ∷ traces_of u (event u w e).0 es

abbrev pub bytes_in : Option NodeState → ℕ → List ℕ
bytes_in None i = []
bytes_in (Some s) i = bytes_numbered s.regions i

-- the plan's regions from number i on, with the bytes that their nodes have
abbrev pub out_regions : WorldState → ℕ → List PlanRegion → List OutRegion
out_regions w i [] = []
out_regions w i (r ∷ regions) = record { shown = r.shown; bytes = bytes_in (slice_get w.nodes r.node) i } ∷ out_regions w (suc i) regions

abbrev pub outcome_of : Plan → List Trace → WorldState → Outcome
outcome_of plan traces w = record {
  trace = if plan.trace then traces else [];
  order = w.order;
  answers = map answer_of w.asking;
  regions = out_regions w 0 plan.regions;
}

-- ---- the run of a schedule, and what its nodes are in the end

-- the schedule's events from the first world on, and then the drain
pub record Ran (s : Scenario) (h : IsRunnable s) (w : WorldState) : Type 0 where
  pub drains : Drains (setting_of s h) (event_run (setting_of s h) (start_of s) (s.plan).events) w

-- the nodes by number, each as it stands in the world, with images that mean the program's iterators
pub record AreNodesOf (s : Scenario) (w : WorldState) (parts : List PartState) : Type 0 where
  pub nodes : map (λ p. p.node) parts ≡ w.nodes
  pub images : Each (λ p. CompilesAll s.checked p.images) parts

-- This was left by the scenario's run, and these were its nodes. The order in it is legal, the memory in it is that of the order's
-- flat run, and each answer is silent or due: no request waits.
pub record IsReplayed (s : Scenario) (r : Replayed) (parts : List PartState) : Type 0 where
  pub runnable : IsRunnable s
  pub world : WorldState
  pub ran : Ran s runnable world
  pub outcome : r.outcome ≡ outcome_of s.plan (traces_of (setting_of s runnable) (start_of s) (s.plan).events) world
  pub letters : r.letters ≡ length world.letters
  pub nodes : AreNodesOf s world parts
  pub explained : IsExplained s world
  pub answered : (r : ℕ) → waits world r ≡ false

-- the bytes are the report of that
pub record IsReplay (s : Scenario) (bytes : List ℕ) (parts : List PartState) : Type 0 where
  pub left : Replayed
  pub replayed : IsReplayed s left parts
  pub report : bytes ≡ text.report left.outcome
