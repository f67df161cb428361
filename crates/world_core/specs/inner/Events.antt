-- What each event does to a scene, by the calls that it makes.
use Rattle.std.specs.Prelude.{◌≡◌, ℕ, ◌<◌, ◌++◌, length, Option, Some, None, slice_get}
use Rattle.pulse_base.specs.declared.event.Event.{Event}
use Rattle.pulse_base.specs.declared.event.Event.TheVariants as event
use Rattle.pulse_base.specs.declared.event.Trace.{Trace}
use Rattle.pulse_base.specs.declared.event.Trace.TheVariants as trace
use Rattle.frame_codec.specs.declared.frame.Back.{Back}
use Rattle.node_core.specs.declared.part.Turned.{Turned}
use Rattle.run_rules.specs.declared.client.Asking.{Asking}
use Rattle.run_rules.specs.Client.{tick, hear}
use Rattle.run_rules.specs.Switch.{on}
use Rattle.client_core.specs.declared.request.Request.{Request}
use Rattle.client_core.specs.Requests.{ClientState, find}
use Rattle.client_core.specs.Calls as c
use Rattle.event_run.specs.Letters.{sent_back}
use Rattle.event_run.specs.World.{WorldState, asks, ticks, hears, switches, to_node}
use Rattle.world_core.specs.declared.letter.To.{To}
use Rattle.world_core.specs.declared.letter.To.TheVariants as to
use Rattle.world_core.specs.declared.letter.Content.{Content}
use Rattle.world_core.specs.declared.letter.Content.TheVariants as content
use Rattle.world_core.specs.declared.letter.Letter.{Letter}
use Rattle.world_core.specs.Letters.{frame_of}
use Rattle.world_core.specs.Scene.{Scene, world_of}
use Rattle.world_core.specs.inner.Nodes.{Makes}
use Rattle.world_core.specs.inner.Sends.{ended_by, told_turned, ordered_by}

-- the request of a number does so at its home: by the rule, which gives how it stands then, and by what the event makes of that
pub record Does {A : Type 0} (rule : ClientState → Request → Asking × A) (steps : WorldState → ℕ → Asking × A → WorldState × Trace) (old new : Scene) (r : ℕ) (t : Trace) : Type 0 where
  pub home : ℕ
  pub client : ClientState
  pub request : Request
  pub at : slice_get old.homes r ≡ Some home
  pub stands : slice_get old.clients home ≡ Some client
  pub found : find client.requests r ≡ Some request
  pub step : (world_of new, t) ≡ steps (world_of old) r (rule client request)

abbrev pub Asks : (old new : Scene) → (r : ℕ) → Trace → Type 0
Asks = Does (λ k. c.asks k) asks

abbrev pub Ticks : (old new : Scene) → (r : ℕ) → Trace → Type 0
Ticks = Does (λ k q. tick k.terms q.asking) ticks

-- client c hears a back
abbrev pub HearsBy : (old new : Scene) → ClientState → Back → Trace → Option Request → Type 0
HearsBy old new k b t None = (world_of new ≡ world_of old) × (t ≡ trace.Stale)
HearsBy old new k b t (Some q) = (world_of new, t) ≡ hears (world_of old) b.request (hear k.terms b q.asking)

pub record Hears (old new : Scene) (c : ℕ) (b : Back) (t : Trace) : Type 0 where
  pub client : ClientState
  pub stands : slice_get old.clients c ≡ Some client
  pub does : HearsBy old new client b t (find client.requests b.request)

abbrev pub Delivers : (old new : Scene) → To → Content → Trace → Type 0
Delivers old new to.Switch x t = (world_of new, t) ≡ switches (world_of old) (on old.switch (frame_of x))
Delivers old new (to.Node n) (content.Leg l) t = (world_of new, t) ≡ to_node (world_of old) n l (slice_get (world_of old).nodes n)
Delivers old new (to.Client c) (content.Back b) t = Hears old new c b t
Delivers old new (to.Node n) (content.Back b) t = ⊥
Delivers old new (to.Client c) (content.Leg l) t = ⊥

abbrev pub DeliversAt : (old new : Scene) → Option Letter → Trace → Type 0
DeliversAt old new None t = (new ≡ old) × (t ≡ trace.Missed)
DeliversAt old new (Some m) t = Delivers old new m.to m.content t

-- node n makes a turn
pub record Turns (old new : Scene) (n : ℕ) (t : Trace) : Type 0 where
  pub turned : Turned
  pub makes : Makes turned old.nodes new.nodes n
  pub told : t ≡ told_turned turned (world_of old)
  pub left : world_of new ≡ record (world_of old) { nodes = (world_of new).nodes; letters = (world_of old).letters ++ sent_back (ended_by turned); order = old.order ++ ordered_by turned }

abbrev pub Happens : (old new : Scene) → Event → Trace → Type 0
Happens old new (event.Ask r) t = Asks old new r t
Happens old new (event.Tick r) t = Ticks old new r t
Happens old new (event.Deliver k) t = DeliversAt old new (slice_get old.letters k) t
Happens old new (event.Turn n) t = Turns old new n t

-- the request or the node of an event is there
abbrev pub IsHere : Scene → Event → Type 0
IsHere s (event.Ask r) = r < length s.homes
IsHere s (event.Tick r) = r < length s.homes
IsHere s (event.Deliver k) = Unit {0}
IsHere s (event.Turn n) = n < length s.nodes
