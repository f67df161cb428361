-- Each run of a scenario is explained by its flat run; and the flat run of the laws of runs is that flat run.
use Rattle.std.specs.Prelude.{◌≡◌, ℕ, ◌<◌, List, length, option_map}
use Rattle.pulse_base.specs.declared.event.Event.{Event}
use Rattle.scenario_text.specs.declared.scenario.Scenario.{Scenario}
use Rattle.scenario_text.specs.Accepted.{IsRunnable}
use Rattle.flat_run.specs.Run.{is_legal}
use Rattle.flat_run.specs.Due.{due}
use Rattle.run_rules.specs.declared.node.LiveLeg.{LiveLeg}
use Rattle.run_rules.specs.Node.{NodeState}
use Rattle.run_laws.specs.Flat as f
use Rattle.run_laws.specs.Spines.Sound.{Each}
use Rattle.run_views.specs.Setting.{Setting, plan_of, IsSetting}
use Rattle.event_run.specs.World.{WorldState, turns, event, event_run}
use Rattle.event_run.specs.Always.{HasNumbers, IsRun}
use Rattle.event_run.specs.Laws.{flat_start, IsStart, AreEventsOf}
use Rattle.scenario_flat.specs.Runs.{walks_of, limit_of, first_of, after}
use Rattle.scenario_run.specs.Setting.{setting_of}
use Rattle.scenario_run.specs.Start.{start_of}
use Rattle.run_explained.specs.View.{flat_view, answer_view}
use Rattle.run_explained.specs.Explained.{IsExplained}

-- an order that names requests of the scenario alone
abbrev pub NamesRequests : Scenario → List ℕ → Type 0
NamesRequests s order = Each (λ r. r < length (s.plan).requests) order

-- both flat runs begin alike
abbrev pub FlatStartIs : Type 0
FlatStartIs = (s : Scenario) (h : IsRunnable s) → flat_start (setting_of s h) (start_of s) ≡ flat_view (setting_of s h) (first_of s)

-- the same orders are legal, and lead to the same states
abbrev pub FlatIs : Type 0
FlatIs =
    (s : Scenario) (h : IsRunnable s) (order : List ℕ) → NamesRequests s order
    → (f.is_legal (plan_of (setting_of s h)) (flat_view (setting_of s h) (first_of s)) order ≡ is_legal (walks_of s) (limit_of s.plan) (first_of s) order)
    × (f.flat_run (plan_of (setting_of s h)) (flat_view (setting_of s h) (first_of s)) order ≡ flat_view (setting_of s h) (after s order))

-- and a request is due the same answers
abbrev pub DueIs : Type 0
DueIs =
    (s : Scenario) (h : IsRunnable s) (order : List ℕ) (r : ℕ) → r < length (s.plan).requests
    → option_map answer_view (due (walks_of s) (limit_of s.plan) (after s order) r) ≡ f.due (plan_of (setting_of s h)) r ((flat_view (setting_of s h) (after s order)).requests r)

-- the order of a run names only requests that its clients have
abbrev pub OrderIsOfRequests : Type 0
OrderIsOfRequests =
    (u : Setting) (first w : WorldState) → IsRun u (flat_start u first) w → Each (λ r. r < length w.asking) w.order

-- no event and no turn changes how many these are
abbrev pub EventKeepsRequests : Type 0
EventKeepsRequests = (u : Setting) (w : WorldState) (e : Event) → length (event u w e).0.asking ≡ length w.asking

abbrev pub TurnKeepsRequests : Type 0
TurnKeepsRequests = (u : Setting) (w : WorldState) (i : ℕ) (n : NodeState) (e : LiveLeg) → length (turns u w i n e).0.asking ≡ length w.asking

-- each world of a run of the scenario is explained
abbrev pub RunIsExplained : Type 0
RunIsExplained =
    (s : Scenario) (h : IsRunnable s) (w : WorldState) → length w.asking ≡ length (s.plan).requests
    → IsRun (setting_of s h) (flat_start (setting_of s h) (start_of s)) w → IsExplained s w

-- and so is the world after the scenario's own events
abbrev pub EventRunIsExplained : Type 0
EventRunIsExplained =
    (s : Scenario) (h : IsRunnable s) → IsSetting (setting_of s h) → HasNumbers (setting_of s h) → IsStart (setting_of s h) (start_of s)
    → AreEventsOf (setting_of s h) (start_of s) (s.plan).events
    → IsExplained s (event_run (setting_of s h) (start_of s) (s.plan).events)
