-- Whatever letters the events of a run lose, repeat or reorder: its order, memory and answers are those of a flat run.
use Rattle.std.specs.Prelude.{◌≡◌, ℕ, List, [], ◌∷◌, Some, None, slice_get}
use Rattle.std.specs.FinMap as m
use Rattle.pulse_base.specs.declared.event.Event.{Event}
use Rattle.leg_ledger.specs.declared.leg.LegKey.{LegKey}
use Rattle.run_rules.specs.declared.node.LiveLeg.{LiveLeg}
use Rattle.run_rules.specs.declared.client.Asking.{Asking}
use Rattle.run_rules.specs.declared.client.Asking.TheVariants.{NotAsked}
use Rattle.run_rules.specs.Node.{NodeState, key_of, find_live}
use Rattle.run_laws.specs.Flat as f
use Rattle.run_laws.specs.Client as c
use Rattle.run_laws.specs.Laws.{Explained}
use Rattle.run_views.specs.Setting.{Setting, plan_of, owner_of, begun_view, IsSetting}
use Rattle.event_run.specs.World.{WorldState, turns, event, event_run}
use Rattle.event_run.specs.Always.{world_view, HasNumbers, IsRun, IsEventOf, IsWorldOf}

-- the flat memory of a world: each region as its owner has it, and each request as its walk begins
abbrev pub flat_start : Setting → WorldState → f.Flat
flat_start u w = record { regions = λ i. ((world_view u w).nodes (owner_of u i)).bytes i; requests = λ r. f.begun_flat (begun_view (u.begin r)) }

-- the world before the first event: nothing is asked, sent, live or kept
pub record IsStart (u : Setting) (w : WorldState) : Type 0 where
  pub of : IsWorldOf u w
  pub idle : (i : ℕ) (s : NodeState) → slice_get w.nodes i ≡ Some s → (s.live ≡ []) × ((q : LegKey) → m.get s.kept q ≡ None)
  pub asking : (r : ℕ) (a : Asking) → slice_get w.asking r ≡ Some a → a ≡ NotAsked
  pub letters : w.letters ≡ []
  pub order : w.order ≡ []

-- each event's request is there when it comes
abbrev pub AreEventsOf : Setting → WorldState → List Event → Type 0
AreEventsOf u w [] = Unit {0}
AreEventsOf u w (e ∷ es) = IsEventOf w e × AreEventsOf u (event u w e).0 es

-- after any events the order is legal, the nodes hold the flat memory after it, and each answer is silent or due
abbrev pub EventRunExplained : Type 0
EventRunExplained =
    (u : Setting) (w : WorldState) (events : List Event) → IsSetting u → HasNumbers u → IsStart u w → AreEventsOf u w events
    → Explained (plan_of u) (flat_start u w) (world_view u (event_run u w events))

-- step by step: the start is a run, each event keeps it, and so does a turn of any live leg
abbrev pub StartIsRun : Type 0
StartIsRun = (u : Setting) (w : WorldState) → IsSetting u → IsStart u w → IsRun u (flat_start u w) w

abbrev pub EventKeepsRun : Type 0
EventKeepsRun =
    (u : Setting) (start : f.Flat) (w : WorldState) (e : Event) → IsSetting u → HasNumbers u → IsEventOf w e → IsRun u start w → IsRun u start (event u w e).0

abbrev pub AnyTurnKeepsRun : Type 0
AnyTurnKeepsRun =
    (u : Setting) (start : f.Flat) (w : WorldState) (i : ℕ) (s : NodeState) (e : LiveLeg)
    → IsSetting u → HasNumbers u → slice_get w.nodes i ≡ Some s → find_live s.live (key_of e.leg) ≡ Some e → IsRun u start w → IsRun u start (turns u w i s e).0

abbrev pub RunIsExplained : Type 0
RunIsExplained = (u : Setting) (start : f.Flat) (w : WorldState) → IsRun u start w → Explained (plan_of u) start (world_view u w)

-- an answer that was given never changes
abbrev pub AnswersStayInRun : Type 0
AnswersStayInRun =
    (u : Setting) (start : f.Flat) (w : WorldState) (e : Event) (r : ℕ) (a : f.Answer)
    → IsSetting u → HasNumbers u → IsEventOf w e → IsRun u start w → (world_view u w).asking r ≡ c.Answered a → (world_view u (event u w e).0).asking r ≡ c.Answered a
