-- A world as the event run of a setting.
use Rattle.std.specs.Prelude.{◌≡◌, ◌≢◌, ℕ, ◌<◌, IsTrue, [], length, Option, Some, None, slice_get}
use Rattle.pulse_base.specs.declared.event.Event.{Event}
use Rattle.pulse_base.specs.declared.event.Event.TheVariants as event
use Rattle.pulse_base.specs.declared.event.Trace.{Trace}
use Rattle.run_rules.specs.Waiting.{Each}
use Rattle.run_laws.specs.Flat.{Flat}
use Rattle.run_views.specs.Setting.{Setting, IsSetting}
use Rattle.run_views.specs.Switches.{switch_of}
use Rattle.client_core.specs.declared.request.Request.{Request}
use Rattle.client_core.specs.Begins.{begin_of}
use Rattle.client_core.specs.Requests.{ClientState}
use Rattle.event_run.specs.World as run
use Rattle.event_run.specs.World.{WorldState}
use Rattle.event_run.specs.Always.{HasNumbers, IsRun, IsEventOf}
use Rattle.drain_run.specs.Drain.{live_at}
use Rattle.scenario_run.specs.Code.{IsCodeOf}
use Rattle.world_core.specs.Scene.{Member, Scene, request_at, world_of}
use Rattle.world_core.specs.Turns.{TurnsSo}

-- the request or the node of an event is there
abbrev pub IsNodeThere : Scene → Event → Type 0
IsNodeThere s (event.Ask r) = Unit {0}
IsNodeThere s (event.Tick r) = Unit {0}
IsNodeThere s (event.Deliver k) = Unit {0}
IsNodeThere s (event.Turn n) = n < length s.nodes

abbrev pub IsThere : Scene → Event → Type 0
IsThere s e = IsEventOf (world_of s) e × IsNodeThere s e

-- a request has the program of its number, and its walk begins so
pub record IsRequestOf (u : Setting) (s : Scene) (r : ℕ) (q : Request) : Type 0 where
  pub program : q.plan.iter ≡ u.program r
  pub begins : begin_of s.images q.plan ≡ u.begin r

-- switch, images, clients and requests are those of a setting
pub record IsSceneOf (u : Setting) (s : Scene) : Type 0 where
  pub switch : s.switch ≡ switch_of u
  pub code : IsCodeOf u s.images
  pub homes : (r c : ℕ) → slice_get s.homes r ≡ Some c → c ≡ u.client r
  pub terms : (c : ℕ) (k : ClientState) → slice_get s.clients c ≡ Some k → k.terms ≡ record { client = c; budget = u.budget; rounds = u.rounds; tries = u.tries }
  pub requests : (r c : ℕ) (q : Request) → slice_get s.homes r ≡ Some c → request_at s.clients c r ≡ Some q → IsRequestOf u s r q

-- an event of a run; a turn is of any live leg, or passes over one
abbrev pub Steps : Setting → (old new : WorldState) → Event → Trace → Type 0
Steps u old new (event.Ask r) t = (new, t) ≡ run.event u old (event.Ask r)
Steps u old new (event.Tick r) t = (new, t) ≡ run.event u old (event.Tick r)
Steps u old new (event.Deliver k) t = (new, t) ≡ run.event u old (event.Deliver k)
Steps u old new (event.Turn n) t = TurnsSo u old new n t

-- in a run of any setting to which the world belongs, an event is the run's, and the world belongs to it afterwards
abbrev pub EventSo : (old new : Scene) → Event → Trace → Type 0
EventSo old new e t = (u : Setting) (start : Flat) → IsSetting u → HasNumbers u → IsSceneOf u old → IsRun u start (world_of old) → Steps u (world_of old) (world_of new) e t × IsSceneOf u new

-- where all nodes are plain, each turn is of the first live leg
abbrev pub EventPlain : (old new : Scene) → Event → Trace → Type 0
EventPlain old new e t = Each (λ (m : Member). IsTrue m.plain) old.nodes
    → (u : Setting) (start : Flat) → IsSetting u → HasNumbers u → IsSceneOf u old → IsRun u start (world_of old) → (world_of new, t) ≡ run.event u (world_of old) e

-- the number of a node that its turns lower
abbrev pub rest_of : Option Member → ℕ
rest_of None = 0
rest_of (Some m) = m.rest

abbrev pub rest_at : Scene → ℕ → ℕ
rest_at s n = rest_of (slice_get s.nodes n)

-- a turn of a node that is not idle lowers its number
abbrev pub LowersRest : (old new : Scene) → Event → Type 0
LowersRest old new (event.Ask r) = Unit {0}
LowersRest old new (event.Tick r) = Unit {0}
LowersRest old new (event.Deliver k) = Unit {0}
LowersRest old new (event.Turn n) = live_at (slice_get (world_of old).nodes n) ≢ [] → rest_at new n < rest_at old n
