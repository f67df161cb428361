-- The drain: what is done after a schedule, until each request that was asked has its answer.
use Rattle.std.specs.Prelude.{◌≡◌, ◌≢◌, ℕ, zero, suc, ◌-◌, ◌⊎◌, Bool, true, false, List, [], ◌++◌, length, Option, Some, None, slice_get}
use Rattle.pulse_base.specs.declared.answer.Answer.{Answer}
use Rattle.pulse_base.specs.declared.event.Event.TheVariants.{Deliver, Turn}
use Rattle.pulse_base.specs.declared.event.Trace.{Trace}
use Rattle.pulse_base.specs.declared.event.Trace.TheVariants.{Started}
use Rattle.frame_codec.specs.declared.frame.Leg.{Leg}
use Rattle.run_rules.specs.declared.node.LiveLeg.{LiveLeg}
use Rattle.run_rules.specs.declared.client.Asking.{Asking}
use Rattle.run_rules.specs.declared.client.Asking.TheVariants.{NotAsked, Waiting, Answered}
use Rattle.run_rules.specs.Node.{NodeState}
use Rattle.run_rules.specs.Client.{resend}
use Rattle.run_views.specs.Setting.{Setting}
use Rattle.event_run.specs.Letters.{ToNode, Letter, sent_leg}
use Rattle.event_run.specs.World.{WorldState, event}

-- ---- a node makes turns until it is idle

-- past the last node no leg is live
abbrev pub live_at : Option NodeState → List LiveLeg
live_at None = []
live_at (Some s) = s.live

abbrev pub IsIdle : ℕ → WorldState → Type 0
IsIdle n w = live_at (slice_get w.nodes n) ≡ []

-- so many turns of node n
abbrev pub after_turns : Setting → ℕ → ℕ → WorldState → WorldState
after_turns u n zero w = w
after_turns u n (suc k) w = (event u (after_turns u n k w) (Turn n)).0

-- turns of an idle node change nothing, so this is one world
abbrev pub Settles : Setting → ℕ → WorldState → WorldState → Type 0
Settles u n w v = (k : ℕ) × (v ≡ after_turns u n k w) × IsIdle n v

-- ---- one round: the letter with the greatest number is delivered

abbrev pub last_letter : WorldState → Option Letter
last_letter w = slice_get w.letters (length w.letters - 1)

abbrev pub delivers_last : Setting → WorldState → WorldState × Trace
delivers_last u w = event u w (Deliver (length w.letters - 1))

abbrev pub GoesTo : ℕ → Option Letter → Type 0
GoesTo n None = ⊥
GoesTo n (Some m) = m.to ≡ ToNode n

-- where this started a leg, the node that it went to settles; else nothing more happens
abbrev pub Round : Setting → WorldState → WorldState → Type 0
Round u w v =
    ((n : ℕ) × GoesTo n (last_letter w) × ((delivers_last u w).1 ≡ Started) × Settles u n (delivers_last u w).0 v)
    ⊎ (((delivers_last u w).1 ≢ Started) × (v ≡ (delivers_last u w).0))

-- ---- a request

-- a request waits where it is asked and has no answer
abbrev pub does_wait : Option Asking → Bool
does_wait None = false
does_wait (Some NotAsked) = false
does_wait (Some (Waiting leg accepted ticks)) = true
does_wait (Some (Answered a)) = false

abbrev pub waits : WorldState → ℕ → Bool
waits w r = does_wait (slice_get w.asking r)

abbrev pub IsAnswered : WorldState → ℕ → Type 0
IsAnswered w r = (a : Answer) × (slice_get w.asking r ≡ Some (Answered a))

abbrev pub current_leg : Option Asking → Option Leg
current_leg None = None
current_leg (Some a) = resend a

-- request r's current leg is sent again, and no tick is counted
abbrev pub resends : Setting → WorldState → ℕ → WorldState
resends u w r = record w { letters = w.letters ++ sent_leg (current_leg (slice_get w.asking r)) }

-- so many rounds, each from a world in which request r waits
abbrev pub Rounds : Setting → ℕ → ℕ → WorldState → WorldState → Type 0
Rounds u r zero w v = v ≡ w
Rounds u r (suc k) w v = (x : WorldState) × Rounds u r k w x × (waits x r ≡ true) × Round u x v

-- a request that does not wait is passed over; any other goes through rounds until it waits no more
abbrev pub DrainsWhere : Setting → ℕ → WorldState → WorldState → Bool → Type 0
DrainsWhere u r w v false = v ≡ w
DrainsWhere u r w v true = (k : ℕ) × Rounds u r k (resends u w r) v × (waits v r ≡ false)

abbrev pub DrainsRequest : Setting → ℕ → WorldState → WorldState → Type 0
DrainsRequest u r w v = DrainsWhere u r w v (waits w r)

-- ---- all nodes, and then all requests

-- those below a number, in order
abbrev pub NodesSettle : Setting → ℕ → WorldState → WorldState → Type 0
NodesSettle u zero w v = v ≡ w
NodesSettle u (suc n) w v = (x : WorldState) × NodesSettle u n w x × Settles u n x v

abbrev pub RequestsDrain : Setting → ℕ → WorldState → WorldState → Type 0
RequestsDrain u zero w v = v ≡ w
RequestsDrain u (suc r) w v = (x : WorldState) × RequestsDrain u r w x × DrainsRequest u r x v

abbrev pub Drains : Setting → WorldState → WorldState → Type 0
Drains u w v = (x : WorldState) × NodesSettle u (length w.nodes) w x × RequestsDrain u (length w.asking) x v
