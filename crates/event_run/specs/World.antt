-- The event run: what each event of a schedule changes of nodes, clients' requests, letters and order, and what is told of it.
use Rattle.std.specs.Prelude.{ℕ, List, [], ◌∷◌, ◌++◌, length, Option, Some, None, slice_get, slice_set}
use Rattle.pulse_base.specs.declared.event.Event.{Event}
use Rattle.pulse_base.specs.declared.event.Event.TheVariants.{Ask, Tick, Deliver, Turn}
use Rattle.pulse_base.specs.declared.event.Trace.{Trace}
use Rattle.pulse_base.specs.declared.event.Trace.TheVariants as trace
use Rattle.frame_codec.specs.declared.frame.Leg.{Leg}
use Rattle.frame_codec.specs.declared.frame.Back.{Back}
use Rattle.frame_codec.specs.declared.frame.Frame.{Frame}
use Rattle.frame_codec.specs.declared.frame.Frame.TheVariants as frame
use Rattle.run_rules.specs.declared.node.LiveLeg.{LiveLeg}
use Rattle.run_rules.specs.declared.node.Accepted.{Accepted}
use Rattle.run_rules.specs.declared.node.Accepted.TheVariants as accepted
use Rattle.run_rules.specs.declared.client.Asking.{Asking}
use Rattle.run_rules.specs.declared.client.Asked.{Asked}
use Rattle.run_rules.specs.declared.client.Asked.TheVariants as asked
use Rattle.run_rules.specs.declared.client.Ticked.{Ticked}
use Rattle.run_rules.specs.declared.client.Ticked.TheVariants as ticked
use Rattle.run_rules.specs.declared.client.Heard.{Heard}
use Rattle.run_rules.specs.declared.client.Heard.TheVariants as heard
use Rattle.run_rules.specs.declared.switch.Out.{Out}
use Rattle.run_rules.specs.declared.switch.Out.TheVariants as out
use Rattle.run_rules.specs.Node.{NodeState, key_of}
use Rattle.run_rules.specs.Accepting.{accept}
use Rattle.run_rules.specs.Turning.{turn}
use Rattle.run_rules.specs.Client.{ask, tick, hear}
use Rattle.run_rules.specs.Switch.{on}
use Rattle.run_views.specs.Setting.{Setting}
use Rattle.run_views.specs.Nodes.{outcome_of}
use Rattle.run_views.specs.Clients.{terms_of, asked_leg, ticked_leg, heard_leg}
use Rattle.run_views.specs.Switches.{switch_of}
use Rattle.event_run.specs.Letters.{To, ToSwitch, ToNode, ToClient, Content, OfLeg, OfBack, Letter, to_switch, sent_leg, sent_back, sent_out}

-- nodes and requests by number; letters and the order, the earliest first
pub record WorldState : Type 0 where
  pub nodes : List NodeState
  pub asking : List Asking
  pub letters : List Letter
  pub order : List ℕ

-- a client's request changes, and letters are sent
abbrev pub with_asking : WorldState → ℕ → Asking → List Letter → WorldState
with_asking w r a sent = record w { asking = slice_set w.asking r a; letters = w.letters ++ sent }

-- a node changes, and letters are sent
abbrev pub with_node : WorldState → ℕ → NodeState → List Letter → WorldState
with_node w n s sent = record w { nodes = slice_set w.nodes n s; letters = w.letters ++ sent }

-- the number of the letter that is sent next
abbrev pub next_number : WorldState → ℕ
next_number w = length w.letters

-- ---- ask and tick

abbrev pub told_asked : WorldState → Asked → Trace
told_asked w (asked.Sent l) = trace.Sent (next_number w)
told_asked w asked.Answered = trace.Answered
told_asked w asked.Again = trace.Again

abbrev pub asks : WorldState → ℕ → Asking × Asked → WorldState × Trace
asks w r x = (with_asking w r x.0 (sent_leg (asked_leg x.1)), told_asked w x.1)

abbrev pub told_ticked : WorldState → Ticked → Trace
told_ticked w (ticked.Resent l) = trace.Sent (next_number w)
told_ticked w ticked.Silent = trace.Silent
told_ticked w ticked.Nothing = trace.Nothing

abbrev pub ticks : WorldState → ℕ → Asking × Ticked → WorldState × Trace
ticks w r x = (with_asking w r x.0 (sent_leg (ticked_leg x.1)), told_ticked w x.1)

-- ---- a delivery

abbrev pub told_out : WorldState → Out → Trace
told_out w (out.ToNode n l) = trace.Sent (next_number w)
told_out w (out.ToClient c b) = trace.Sent (next_number w)
told_out w out.Nothing = trace.Nothing

abbrev pub switches : WorldState → Out → WorldState × Trace
switches w o = (record w { letters = w.letters ++ sent_out o }, told_out w o)

abbrev pub to_frame : Content → Frame
to_frame (OfLeg l) = frame.Leg l
to_frame (OfBack b) = frame.Back b

-- a node answers a leg with a back, or sends on a leg that is not its own
abbrev pub sent_accepted : Leg → Accepted → List Letter
sent_accepted l (accepted.Answer b) = to_switch (OfBack b) ∷ []
sent_accepted l accepted.Elsewhere = to_switch (OfLeg l) ∷ []
sent_accepted l accepted.Foreign = []
sent_accepted l accepted.Running = []
sent_accepted l accepted.Full = []
sent_accepted l accepted.Started = []
sent_accepted l accepted.Memory = []

abbrev pub told_accepted : WorldState → Accepted → Trace
told_accepted w (accepted.Answer b) = trace.Sent (next_number w)
told_accepted w accepted.Elsewhere = trace.Sent (next_number w)
told_accepted w accepted.Foreign = trace.Foreign
told_accepted w accepted.Running = trace.Running
told_accepted w accepted.Full = trace.Full
told_accepted w accepted.Started = trace.Started
told_accepted w accepted.Memory = trace.Nothing

abbrev pub accepts : WorldState → ℕ → Leg → NodeState × Accepted → WorldState × Trace
accepts w n l x = (with_node w n x.0 (sent_accepted l x.1), told_accepted w x.1)

abbrev pub told_heard : WorldState → Heard → Trace
told_heard w heard.Answered = trace.Answered
told_heard w (heard.Sent l) = trace.Sent (next_number w)
told_heard w heard.Stale = trace.Stale

abbrev pub hears : WorldState → ℕ → Asking × Heard → WorldState × Trace
hears w r x = (with_asking w r x.0 (sent_leg (heard_leg x.1)), told_heard w x.1)

abbrev pub to_node : WorldState → ℕ → Leg → Option NodeState → WorldState × Trace
to_node w n l (Some s) = accepts w n l (accept s l)
to_node w n l None = (w, trace.Nothing)

abbrev pub to_client : Setting → WorldState → ℕ → Back → Option Asking → WorldState × Trace
to_client u w c b (Some a) = hears w b.request (hear (record (terms_of u b.request) { client = c }) b a)
to_client u w c b None = (w, trace.Stale)

-- no leg is sent to a client, and no back to a node
abbrev pub delivers : Setting → WorldState → To → Content → WorldState × Trace
delivers u w ToSwitch x = switches w (on (switch_of u) (to_frame x))
delivers u w (ToNode n) (OfLeg l) = to_node w n l (slice_get w.nodes n)
delivers u w (ToClient c) (OfBack b) = to_client u w c b (slice_get w.asking b.request)
delivers u w (ToNode n) (OfBack b) = (w, trace.Nothing)
delivers u w (ToClient c) (OfLeg l) = (w, trace.Nothing)

abbrev pub delivers_at : Setting → WorldState → Option Letter → WorldState × Trace
delivers_at u w (Some m) = delivers u w m.to m.content
delivers_at u w None = (w, trace.Missed)

-- ---- a turn

abbrev pub told_turn : WorldState → ℕ → Option Back → Trace
told_turn w r None = trace.Iterated r None
told_turn w r (Some b) = trace.Iterated r (Some (next_number w))

-- a turn of node n for one of its live legs: the request is appended to the order
abbrev pub turns : Setting → WorldState → ℕ → NodeState → LiveLeg → WorldState × Trace
turns u w n s e = (
  record (with_node w n (turn s (key_of e.leg) (outcome_of u s e.leg)).0 (sent_back (turn s (key_of e.leg) (outcome_of u s e.leg)).1)) { order = w.order ++ e.leg.request ∷ [] },
  told_turn w e.leg.request (turn s (key_of e.leg) (outcome_of u s e.leg)).1,
)

-- the first live leg, where there is one
abbrev pub turns_first : Setting → WorldState → ℕ → NodeState → List LiveLeg → WorldState × Trace
turns_first u w n s [] = (w, trace.Idle)
turns_first u w n s (e ∷ es) = turns u w n s e

abbrev pub turns_at : Setting → WorldState → ℕ → Option NodeState → WorldState × Trace
turns_at u w n (Some s) = turns_first u w n s s.live
turns_at u w n None = (w, trace.Idle)

-- ---- one event, and a run of events

abbrev pub asks_at : Setting → WorldState → ℕ → Option Asking → WorldState × Trace
asks_at u w r (Some a) = asks w r (ask (terms_of u r) r (u.program r) (u.begin r) a)
asks_at u w r None = (w, trace.Nothing)

abbrev pub ticks_at : Setting → WorldState → ℕ → Option Asking → WorldState × Trace
ticks_at u w r (Some a) = ticks w r (tick (terms_of u r) a)
ticks_at u w r None = (w, trace.Nothing)

abbrev pub event : Setting → WorldState → Event → WorldState × Trace
event u w (Ask r) = asks_at u w r (slice_get w.asking r)
event u w (Tick r) = ticks_at u w r (slice_get w.asking r)
event u w (Deliver k) = delivers_at u w (slice_get w.letters k)
event u w (Turn n) = turns_at u w n (slice_get w.nodes n)

abbrev pub event_run : Setting → WorldState → List Event → WorldState
event_run u w [] = w
event_run u w (e ∷ es) = event_run u (event u w e).0 es
