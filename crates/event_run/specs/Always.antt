-- A world as the laws of runs see it, and what is always true of one.
use Rattle.std.specs.Prelude.{◌≡◌, ℕ, ◌*◌, ◌^◌, ◌<◌, [], length, map, Option, Some, None, slice_get}
use Rattle.pulse_base.specs.declared.event.Event.{Event}
use Rattle.pulse_base.specs.declared.event.Event.TheVariants as event
use Rattle.run_rules.specs.declared.client.Asking.{Asking}
use Rattle.run_rules.specs.Node.{NodeState}
use Rattle.run_laws.specs.Plan as p
use Rattle.run_laws.specs.Flat as f
use Rattle.run_laws.specs.Node as n
use Rattle.run_laws.specs.Client as c
use Rattle.run_laws.specs.World as w
use Rattle.run_laws.specs.Spines.Sound.{Each, IsSound}
use Rattle.run_laws.specs.Spines.Carries.{Shaped, KeptWasSent}
use Rattle.run_views.specs.Frames.{leg_view, back_view}
use Rattle.run_views.specs.Setting.{Setting, plan_of, owner_of, IsLegOf, IsBackOf}
use Rattle.run_views.specs.Nodes.{node_view, IsNodeOf}
use Rattle.run_views.specs.Clients.{asking_view, IsAskingOf}
use Rattle.run_views.specs.Keeps.{shape_of}
use Rattle.event_run.specs.Letters.{To, ToSwitch, ToNode, ToClient, Content, OfLeg, OfBack, Letter}
use Rattle.event_run.specs.World.{WorldState}

-- ---- the view

abbrev pub to_view : To → w.To
to_view ToSwitch = w.ToSwitch
to_view (ToNode i) = w.ToNode i
to_view (ToClient c) = w.ToClient

abbrev pub content_view : Content → p.Frame
content_view (OfLeg l) = p.AsLeg (leg_view l)
content_view (OfBack b) = p.AsBack (back_view b)

abbrev pub letter_view : Letter → w.Letter
letter_view m = record { to = to_view m.to; frame = content_view m.content }

-- past the last node there is nothing
abbrev pub node_at : Setting → Option NodeState → n.Node
node_at u None = record { slot = λ r k. n.Fresh; bytes = λ i. [] }
node_at u (Some s) = node_view u s

abbrev pub asking_at : Option Asking → c.Asking
asking_at None = c.NotAsked
asking_at (Some a) = asking_view a

abbrev pub world_view : Setting → WorldState → w.World
world_view u w = record { nodes = λ i. node_at u (slice_get w.nodes i); asking = λ r. asking_at (slice_get w.asking r); letters = map letter_view w.letters; order = w.order }

abbrev pub event_view : Event → w.Event
event_view (event.Ask r) = w.Ask r
event_view (event.Tick r) = w.Tick r
event_view (event.Deliver k) = w.Deliver k
event_view (event.Turn i) = w.TurnOf i

-- ---- what is always true

-- a frame is of its request; a leg goes to a node that is there, and a back to its request's client
abbrev pub LetterOf : Setting → ℕ → To → Content → Type 0
LetterOf u nodes ToSwitch (OfLeg l) = IsLegOf u l
LetterOf u nodes ToSwitch (OfBack b) = IsBackOf u b
LetterOf u nodes (ToNode i) (OfLeg l) = (i < nodes) × IsLegOf u l
LetterOf u nodes (ToClient c) (OfBack b) = (c ≡ u.client b.request) × IsBackOf u b
LetterOf u nodes (ToNode i) (OfBack b) = ⊥
LetterOf u nodes (ToClient c) (OfLeg l) = ⊥

pub record IsWorldOf (u : Setting) (w : WorldState) : Type 0 where
  pub owners : (i : ℕ) → owner_of u i < length w.nodes
  pub nodes : (i : ℕ) (s : NodeState) → slice_get w.nodes i ≡ Some s → IsNodeOf u i s
  pub asking : (r : ℕ) (a : Asking) → slice_get w.asking r ≡ Some a → IsAskingOf u r a
  pub letters : Each (λ m. LetterOf u (length w.nodes) m.to m.content) w.letters

-- the iterations that a request may make in all are fewer than the leg numbers
abbrev pub HasNumbers : Setting → Type 0
HasNumbers u = u.rounds * u.budget < 2 ^ 32

-- a world of a run that began with this flat memory
pub record IsRun (u : Setting) (start : f.Flat) (w : WorldState) : Type 0 where
  pub of : IsWorldOf u w
  pub sound : IsSound (plan_of u) start (world_view u w)
  pub shaped : Shaped (plan_of u) (shape_of u) (world_view u w)
  pub sent : KeptWasSent (world_view u w)

-- requests of events are there
abbrev pub IsEventOf : WorldState → Event → Type 0
IsEventOf w (event.Ask r) = r < length w.asking
IsEventOf w (event.Tick r) = r < length w.asking
IsEventOf w (event.Deliver k) = Unit {0}
IsEventOf w (event.Turn i) = Unit {0}
