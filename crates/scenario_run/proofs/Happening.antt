-- The events of a scenario are events of its run: no event changes how many requests there are.
use Rattle.std.proofs.Common.{◌≡◌, ℕ, zero, suc, ◌<◌, List, [], ◌∷◌, length, Option, Some, None, refl, sym, ◌∙◌, subst}
use Rattle.std.specs.Prelude.{slice_get}
use Rattle.std.proofs.lemmas.List.{length-replicate}
use Rattle.pulse_base.specs.declared.event.Event.{Event}
use Rattle.pulse_base.specs.declared.event.Event.TheVariants.{Ask, Tick, Deliver, Turn}
use Rattle.frame_codec.specs.declared.frame.Back.{Back}
use Rattle.frame_codec.specs.declared.frame.Leg.{Leg}
use Rattle.run_rules.specs.declared.client.Asking.{Asking}
use Rattle.run_rules.specs.declared.client.Asking.TheVariants.{NotAsked}
use Rattle.run_rules.specs.declared.node.LiveLeg.{LiveLeg}
use Rattle.run_rules.specs.Node.{NodeState}
use Rattle.run_views.specs.Setting.{Setting}
use Rattle.event_run.specs.Letters.{To, ToSwitch, ToNode, ToClient, Content, OfLeg, OfBack, Letter}
use Rattle.event_run.specs.World.{WorldState, asks_at, ticks_at, to_node, to_client, delivers, delivers_at, turns_first, turns_at, event}
use Rattle.event_run.specs.Always.{IsEventOf}
use Rattle.event_run.specs.Laws.{AreEventsOf}
use Rattle.event_run.proofs.Lists.{many_set}
use Rattle.scenario_text.specs.Accepted as text
use Rattle.scenario_run.specs.Setting.{setting_of}
use Rattle.scenario_run.specs.Start.{start_of}
use Rattle.scenario_run.specs.Laws.{EventsAre}
use Rattle.scenario_run.proofs.Lists.{all_at, all_from}

-- ---- how many requests there are

asked_many : (u : Setting) (w : WorldState) (r : ℕ) (o : Option Asking) → length (asks_at u w r o).0.asking ≡ length w.asking
asked_many u w r None = refl
asked_many u w r (Some a) = many_set w.asking r _

ticked_many : (u : Setting) (w : WorldState) (r : ℕ) (o : Option Asking) → length (ticks_at u w r o).0.asking ≡ length w.asking
ticked_many u w r None = refl
ticked_many u w r (Some a) = many_set w.asking r _

node_many : (w : WorldState) (n : ℕ) (l : Leg) (o : Option NodeState) → length (to_node w n l o).0.asking ≡ length w.asking
node_many w n l None = refl
node_many w n l (Some s) = refl

client_many : (u : Setting) (w : WorldState) (c : ℕ) (b : Back) (o : Option Asking) → length (to_client u w c b o).0.asking ≡ length w.asking
client_many u w c b None = refl
client_many u w c b (Some a) = many_set w.asking b.request _

delivered_many : (u : Setting) (w : WorldState) (to : To) (x : Content) → length (delivers u w to x).0.asking ≡ length w.asking
delivered_many u w ToSwitch x = refl
delivered_many u w (ToNode n) (OfLeg l) = node_many w n l (slice_get w.nodes n)
delivered_many u w (ToNode n) (OfBack b) = refl
delivered_many u w (ToClient c) (OfLeg l) = refl
delivered_many u w (ToClient c) (OfBack b) = client_many u w c b (slice_get w.asking b.request)

delivery_many : (u : Setting) (w : WorldState) (o : Option Letter) → length (delivers_at u w o).0.asking ≡ length w.asking
delivery_many u w None = refl
delivery_many u w (Some m) = delivered_many u w m.to m.content

first_many : (u : Setting) (w : WorldState) (n : ℕ) (s : NodeState) (live : List LiveLeg) → length (turns_first u w n s live).0.asking ≡ length w.asking
first_many u w n s [] = refl
first_many u w n s (e ∷ es) = refl

turned_many : (u : Setting) (w : WorldState) (n : ℕ) (o : Option NodeState) → length (turns_at u w n o).0.asking ≡ length w.asking
turned_many u w n None = refl
turned_many u w n (Some s) = first_many u w n s s.live

event_many : (u : Setting) (w : WorldState) (e : Event) → length (event u w e).0.asking ≡ length w.asking
event_many u w (Ask r) = asked_many u w r (slice_get w.asking r)
event_many u w (Tick r) = ticked_many u w r (slice_get w.asking r)
event_many u w (Deliver k) = delivery_many u w (slice_get w.letters k)
event_many u w (Turn n) = turned_many u w n (slice_get w.nodes n)

-- ---- the events

event_of : (requests nodes : ℕ) (w : WorldState) (e : Event) → length w.asking ≡ requests → text.IsEventOf requests nodes e → IsEventOf w e
event_of requests nodes w (Ask r) many h = subst (λ z. r < z) (sym many) h
event_of requests nodes w (Tick r) many h = subst (λ z. r < z) (sym many) h
event_of requests nodes w (Deliver k) many h = tt
event_of requests nodes w (Turn n) many h = tt

events_of : (u : Setting) (requests nodes : ℕ) (w : WorldState) (es : List Event) → length w.asking ≡ requests → ((k : ℕ) (e : Event) → slice_get es k ≡ Some e → text.IsEventOf requests nodes e) → AreEventsOf u w es
events_of u requests nodes w [] many h = tt
events_of u requests nodes w (e ∷ es) many h =
    (event_of requests nodes w e many (h zero e refl), events_of u requests nodes (event u w e).0 es (event_many u w e ∙ many) (λ k x at. h (suc k) x at))

pub events_are : EventsAre
events_are s h =
    let requests = length (s.plan).requests in
    let nodes = (s.plan).nodes in
    let each : (k : ℕ) (e : Event) → slice_get (s.plan).events k ≡ Some e → text.IsEventOf requests nodes e = λ k e at. all_at (text.IsEventOf requests nodes) (s.plan).events k e h.events at in (
      (λ w many. all_from (IsEventOf w) (s.plan).events (λ k e at. event_of requests nodes w e many (each k e at))),
      events_of (setting_of s h) requests nodes (start_of s) (s.plan).events (length-replicate requests NotAsked) each,
    )
