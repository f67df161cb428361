-- What is so of each scenario that can be run: its setting and its first world are those of a run, its events are events of that
-- run, and compiled images stand for its program.
use Rattle.std.specs.Prelude.{◌≡◌, ◌<◌, ◌^◌, ℕ, List, length, Some, slice_get, All}
use Rattle.pulse_base.specs.declared.plan.RequestPlan.{RequestPlan}
use Rattle.code_image.specs.declared.image.Image.{Image}
use Rattle.pulse_codegen.specs.Compiled.{CompilesAll}
use Rattle.leg_ledger.specs.declared.leg.LegKey.{LegKey}
use Rattle.run_rules.specs.declared.node.LiveLeg.{LiveLeg}
use Rattle.run_rules.specs.Node.{NodeState, find_live}
use Rattle.run_rules.specs.Turning.{record_of, is_writable}
use Rattle.run_views.specs.Setting.{Setting, IsSetting}
use Rattle.run_views.specs.Nodes.{outcome_of, IsNodeOf}
use Rattle.node_core.specs.Code.{code_run}
use Rattle.client_core.specs.Begins.{begin_of}
use Rattle.event_run.specs.World.{WorldState}
use Rattle.event_run.specs.Always.{HasNumbers, IsEventOf}
use Rattle.event_run.specs.Laws.{IsStart, AreEventsOf}
use Rattle.scenario_text.specs.declared.scenario.Scenario.{Scenario}
use Rattle.scenario_text.specs.Accepted.{IsRunnable}
use Rattle.scenario_run.specs.Setting.{begin_by, setting_of}
use Rattle.scenario_run.specs.Start.{start_of}
use Rattle.scenario_run.specs.Code.{IsCodeOf}

abbrev pub SettingIs : Type 0
SettingIs = (s : Scenario) (h : IsRunnable s) → IsSetting (setting_of s h)

-- the iterations that a request may make in all are fewer than the leg numbers
abbrev pub HasNumbersLaw : Type 0
HasNumbersLaw = (s : Scenario) (h : IsRunnable s) → HasNumbers (setting_of s h)

abbrev pub StartIs : Type 0
StartIs = (s : Scenario) (h : IsRunnable s) → IsStart (setting_of s h) (start_of s)

-- its events are events of every world with as many requests, and of its run from the first event on
abbrev pub EventsAre : Type 0
EventsAre =
    (s : Scenario) (h : IsRunnable s)
    → ((w : WorldState) → length w.asking ≡ length (s.plan).requests → All (IsEventOf w) (s.plan).events)
    × AreEventsOf (setting_of s h) (start_of s) (s.plan).events

abbrev pub CodeIs : Type 0
CodeIs = (s : Scenario) (h : IsRunnable s) (images : List Image) → CompilesAll s.checked images → IsCodeOf (setting_of s h) images

-- a request's walk begins by the code of its iterator's init as the source says; its arguments are numbers of 64 bits
abbrev pub BeginIs : Type 0
BeginIs =
    (s : Scenario) (h : IsRunnable s) (images : List Image) (r : ℕ) (q : RequestPlan)
    → CompilesAll s.checked images → slice_get (s.plan).requests r ≡ Some q → All (λ v. v < 2 ^ 64) q.args.items
    → (begin_of images q ≡ begin_by (slice_get (s.checked).iters q.iter) q.args.items) × (begin_of images q ≡ (setting_of s h).begin r)

-- at a live leg of a node of a run, the run of the code of such images is the outcome that the setting asks
abbrev pub TurnRuns : Type 0
TurnRuns =
    (u : Setting) (i : ℕ) (s : NodeState) (q : LegKey) (e : LiveLeg) (images : List Image)
    → IsSetting u → IsNodeOf u i s → find_live s.live q ≡ Some e → IsCodeOf u images
    → outcome_of u s e.leg ≡ code_run images e.leg (record_of s e.leg) (is_writable s e.leg)
