-- No event changes how many requests there are.
use Rattle.std.proofs.Common.{◌≡◌, ℕ, List, [], ◌∷◌, length, Option, Some, None, refl}
use Rattle.std.specs.Prelude.{slice_get}
use Rattle.pulse_base.specs.declared.event.Event.TheVariants as event
use Rattle.run_rules.specs.declared.node.LiveLeg.{LiveLeg}
use Rattle.run_rules.specs.declared.client.Asking.{Asking}
use Rattle.run_rules.specs.Node.{NodeState}
use Rattle.frame_codec.specs.declared.frame.Leg.{Leg}
use Rattle.frame_codec.specs.declared.frame.Back.{Back}
use Rattle.run_views.specs.Setting.{Setting}
use Rattle.event_run.specs.Letters.{To, ToSwitch, ToNode, ToClient, Content, OfLeg, OfBack, Letter}
use Rattle.event_run.specs.World.{WorldState, to_node, to_client, delivers, delivers_at, turns_first, turns_at, asks_at, ticks_at}
use Rattle.event_run.proofs.Lists.{many_set}
use Rattle.run_explained.specs.Laws.{EventKeepsRequests, TurnKeepsRequests}

many_asked : (u : Setting) (w : WorldState) (r : ℕ) (o : Option Asking) → length (asks_at u w r o).0.asking ≡ length w.asking
many_asked u w r None = refl
many_asked u w r (Some a) = many_set w.asking r _

many_ticked : (u : Setting) (w : WorldState) (r : ℕ) (o : Option Asking) → length (ticks_at u w r o).0.asking ≡ length w.asking
many_ticked u w r None = refl
many_ticked u w r (Some a) = many_set w.asking r _

many_to_node : (w : WorldState) (n : ℕ) (l : Leg) (o : Option NodeState) → length (to_node w n l o).0.asking ≡ length w.asking
many_to_node w n l None = refl
many_to_node w n l (Some s) = refl

many_to_client : (u : Setting) (w : WorldState) (c : ℕ) (b : Back) (o : Option Asking) → length (to_client u w c b o).0.asking ≡ length w.asking
many_to_client u w c b None = refl
many_to_client u w c b (Some a) = many_set w.asking b.request _

many_delivered : (u : Setting) (w : WorldState) (to : To) (x : Content) → length (delivers u w to x).0.asking ≡ length w.asking
many_delivered u w ToSwitch x = refl
many_delivered u w (ToNode n) (OfLeg l) = many_to_node w n l (slice_get w.nodes n)
many_delivered u w (ToNode n) (OfBack b) = refl
many_delivered u w (ToClient c) (OfLeg l) = refl
many_delivered u w (ToClient c) (OfBack b) = many_to_client u w c b (slice_get w.asking b.request)

many_letter : (u : Setting) (w : WorldState) (o : Option Letter) → length (delivers_at u w o).0.asking ≡ length w.asking
many_letter u w None = refl
many_letter u w (Some m) = many_delivered u w m.to m.content

many_first : (u : Setting) (w : WorldState) (i : ℕ) (s : NodeState) (live : List LiveLeg) → length (turns_first u w i s live).0.asking ≡ length w.asking
many_first u w i s [] = refl
many_first u w i s (e ∷ es) = refl

many_turned : (u : Setting) (w : WorldState) (i : ℕ) (o : Option NodeState) → length (turns_at u w i o).0.asking ≡ length w.asking
many_turned u w i None = refl
many_turned u w i (Some s) = many_first u w i s s.live

pub event_keeps_requests : EventKeepsRequests
event_keeps_requests u w (event.Ask r) = many_asked u w r (slice_get w.asking r)
event_keeps_requests u w (event.Tick r) = many_ticked u w r (slice_get w.asking r)
event_keeps_requests u w (event.Deliver k) = many_letter u w (slice_get w.letters k)
event_keeps_requests u w (event.Turn i) = many_turned u w i (slice_get w.nodes i)

pub turn_keeps_requests : TurnKeepsRequests
turn_keeps_requests u w i n e = refl
