-- The world: nodes, clients' states, letters and the order; and what each event does. A letter that no event delivers is lost, one
-- that several deliver is repeated, and letters come in any order.
use Rattle.std.specs.Prelude.{◌≡◌, ℕ, suc, ◌⊎◌, List, [], ◌∷◌, ◌++◌, Option, Some, None, nat_le, if◌then◌else◌, slice_get}
use Rattle.run_laws.specs.Plan.{Unmapped, Leg, Ending, Done, Reroute, Resume, Fault, Back, Frame, AsLeg, AsBack, leg_of, back_of, Begun, Begins, Finished, Faulted, Plan, put}
use Rattle.run_laws.specs.Node.{Node, Accepted, Foreign, Replies, RunsAlready, Elsewhere, Full, Started, Accepts, Turned, Stays, Ends, Iterates}
use Rattle.run_laws.specs.Client.{Asking, NotAsked, Asked, Answered, Heard, Stale, Answers, Sends, hears, heard_asking, first_leg, asks_asking, ticks_asking}

pub data To : Type 0 where
  ToSwitch : To
  ToNode : ℕ → To
  ToClient : To

pub record Letter : Type 0 where
  pub to : To
  pub frame : Frame

abbrev pub to_switch : Frame → Letter
to_switch f = record { to = ToSwitch; frame = f }

-- a node answers a leg to the switch, and sends a leg on that is not its own
abbrev pub accepted_sends : Leg → Accepted → List Letter
accepted_sends l Foreign = []
accepted_sends l (Replies b) = to_switch (AsBack b) ∷ []
accepted_sends l RunsAlready = []
accepted_sends l Elsewhere = to_switch (AsLeg l) ∷ []
accepted_sends l Full = []
accepted_sends l Started = []

abbrev pub turned_sends : ℕ → ℕ → Turned → List Letter
turned_sends r k (Stays a) = []
turned_sends r k (Ends a e) = to_switch (AsBack (back_of r k a e)) ∷ []

-- the switch's rule: a leg goes to the owner of its record's region, or its Unmapped goes to the client
abbrev pub routed : Plan → Leg → Option ℕ → List Letter
routed P l (Some i) = record { to = ToNode (P.owner i); frame = AsLeg l } ∷ []
routed P l None = record { to = ToClient; frame = AsBack (back_of l.request l.number l.now (Fault Unmapped)) } ∷ []

abbrev pub route : Plan → Leg → List Letter
route P l = routed P l (P.region l.request l.now.cur)

-- a back that reroutes is the next leg; each other goes to the client
abbrev pub rerouted_leg : Back → Leg
rerouted_leg b = leg_of b.request (suc b.number) b.now

abbrev pub switched_back : Plan → Back → Ending → List Letter
switched_back P b Reroute = route P (rerouted_leg b)
switched_back P b Done = record { to = ToClient; frame = AsBack b } ∷ []
switched_back P b Resume = record { to = ToClient; frame = AsBack b } ∷ []
switched_back P b (Fault kind) = record { to = ToClient; frame = AsBack b } ∷ []

abbrev pub switched : Plan → Frame → List Letter
switched P (AsLeg l) = route P l
switched P (AsBack b) = switched_back P b b.ending

-- what a client sends
abbrev pub begun_sends : Plan → ℕ → Begun → List Letter
begun_sends P r (Begins cur pad) = to_switch (AsLeg (first_leg P r)) ∷ []
begun_sends P r (Finished pad) = []
begun_sends P r Faulted = []

abbrev pub asks_sends : Plan → ℕ → Asking → List Letter
asks_sends P r NotAsked = begun_sends P r (P.first r)
asks_sends P r (Asked l c t) = []
asks_sends P r (Answered a) = []

abbrev pub ticks_sends : ℕ → Asking → List Letter
ticks_sends tries NotAsked = []
ticks_sends tries (Asked l c t) = if nat_le tries t then [] else to_switch (AsLeg l) ∷ []
ticks_sends tries (Answered a) = []

-- the drain's: the current leg again, and no tick is counted
abbrev pub resends : Asking → List Letter
resends NotAsked = []
resends (Asked l c t) = to_switch (AsLeg l) ∷ []
resends (Answered a) = []

abbrev pub heard_sends : Heard → List Letter
heard_sends Stale = []
heard_sends (Answers x) = []
heard_sends (Sends l) = to_switch (AsLeg l) ∷ []

-- nodes and requests by number; letters and the order, the earliest first
pub record World : Type 0 where
  pub nodes : ℕ → Node
  pub asking : ℕ → Asking
  pub letters : List Letter
  pub order : List ℕ

-- ask a request, tick it, deliver a letter, or one turn of a node; and the drain's own, a leg again without a tick
pub data Event : Type 0 where
  Ask : ℕ → Event
  Tick : ℕ → Event
  Resend : ℕ → Event
  Deliver : ℕ → Event
  TurnOf : ℕ → Event

abbrev pub Delivered : Plan → World → World → To → Frame → Type 0
Delivered P w v ToSwitch f = v ≡ record w { letters = w.letters ++ switched P f }
Delivered P w v (ToNode n) (AsLeg l) = (new : Node) × (a : Accepted) × Accepts P n (w.nodes n) new l a
    × (v ≡ record w { nodes = put w.nodes n new; letters = w.letters ++ accepted_sends l a })
Delivered P w v (ToNode n) (AsBack b) = v ≡ w
Delivered P w v ToClient (AsLeg l) = v ≡ w
Delivered P w v ToClient (AsBack b) = v ≡ record w { asking = put w.asking b.request (heard_asking (w.asking b.request) (hears P b (w.asking b.request))); letters = w.letters ++ heard_sends (hears P b (w.asking b.request)) }

-- a letter that was not yet sent changes nothing
abbrev pub DeliveredAt : Plan → World → World → Option Letter → Type 0
DeliveredAt P w v None = v ≡ w
DeliveredAt P w v (Some m) = Delivered P w v m.to m.frame

-- node n turns for request r's leg k: the request is appended to the order
abbrev pub TurnMade : Plan → ℕ → World → World → Type 0
TurnMade P n w v = (new : Node) × (r : ℕ) × (k : ℕ) × (t : Turned) × Iterates P n (w.nodes n) new r k t
    × (v ≡ record w { nodes = put w.nodes n new; letters = w.letters ++ turned_sends r k t; order = w.order ++ r ∷ [] })

-- a turn of a live leg that the part names; or nothing, where none is live, or where the part did not end an iteration
abbrev pub TurnedAt : Plan → World → World → ℕ → Type 0
TurnedAt P w v n = (v ≡ w) ⊎ TurnMade P n w v

-- an event from one world to the next
abbrev pub Happens : Plan → ℕ → World → World → Event → Type 0
Happens P tries w v (Ask r) = v ≡ record w { asking = put w.asking r (asks_asking P r (w.asking r)); letters = w.letters ++ asks_sends P r (w.asking r) }
Happens P tries w v (Tick r) = v ≡ record w { asking = put w.asking r (ticks_asking tries (w.asking r)); letters = w.letters ++ ticks_sends tries (w.asking r) }
Happens P tries w v (Resend r) = v ≡ record w { letters = w.letters ++ resends (w.asking r) }
Happens P tries w v (Deliver k) = DeliveredAt P w v (slice_get w.letters k)
Happens P tries w v (TurnOf n) = TurnedAt P w v n

-- events one after the other
abbrev pub RunsTo : Plan → ℕ → World → List Event → World → Type 0
RunsTo P tries w [] v = v ≡ w
RunsTo P tries w (e ∷ es) v = (u : World) × Happens P tries w u e × RunsTo P tries u es v
