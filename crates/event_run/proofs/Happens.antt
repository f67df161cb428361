-- Each event is an event of the laws of runs.
use Rattle.std.proofs.Common.{◌≡◌, ℕ, suc, ◌*◌, ◌^◌, ◌<◌, ◌≤◌, inl, inr, List, [], ◌∷◌, ◌++◌, length, map, Option, Some, None, refl, sym, ap, ◌∙◌, subst, arith}
use Rattle.std.specs.Prelude.{slice_get}
use Rattle.frame_codec.specs.declared.frame.Leg.{Leg}
use Rattle.frame_codec.specs.declared.frame.Back.{Back}
use Rattle.frame_codec.specs.declared.frame.Frame.TheVariants as frame
use Rattle.run_rules.specs.declared.node.LiveLeg.{LiveLeg}
use Rattle.run_rules.specs.declared.client.Asking.{Asking}
use Rattle.run_rules.specs.Node.{NodeState, key_of, find_live}
use Rattle.run_rules.specs.Accepting.{accept}
use Rattle.run_rules.specs.Turning.{fate_of, turn}
use Rattle.run_rules.specs.Client.{ask, tick, hear}
use Rattle.run_rules.specs.Switch.{on}
use Rattle.run_rules.proofs.Finds.{find_first}
use Rattle.run_laws.specs.Plan as p
use Rattle.run_laws.specs.Node as n
use Rattle.run_laws.specs.Client as c
use Rattle.run_laws.specs.World as w
use Rattle.run_laws.specs.Spines.Sound.{number_in}
use Rattle.run_laws.specs.Spines.Carries.{FrameShaped}
use Rattle.run_laws.proofs.Events.{put_self}
use Rattle.run_views.specs.Frames.{leg_view, back_view}
use Rattle.run_views.specs.Setting.{Setting, plan_of, IsSetting}
use Rattle.run_views.specs.Nodes.{node_view, accepted_view, fate_view, outcome_of}
use Rattle.run_views.specs.Clients.{terms_of, asking_view, asked_leg, ticked_leg, heard_leg}
use Rattle.run_views.specs.Switches.{switch_of}
use Rattle.run_views.specs.Keeps.{shape_of}
use Rattle.run_views.proofs.Accepted.{accept_seen}
use Rattle.run_views.proofs.Turned.{turn_seen}
use Rattle.run_views.proofs.Clients.{ask_seen, tick_seen, hear_seen}
use Rattle.run_views.proofs.Switches.{switch_seen}
use Rattle.event_run.specs.Letters.{To, ToSwitch, ToNode, ToClient, Content, OfLeg, OfBack, Letter, sent_leg, sent_back}
use Rattle.event_run.specs.World.{WorldState, with_asking, with_node, to_node, to_client, delivers, delivers_at, turns, turns_first, turns_at, asks_at, ticks_at}
use Rattle.event_run.specs.Always.{to_view, content_view, letter_view, node_at, asking_at, world_view, LetterOf, IsWorldOf, HasNumbers}
use Rattle.event_run.proofs.Lists.{get_low, low_get, asking_put, node_put, map_append, get_map, leg_map, back_map, out_map, accepted_map}

-- ---- one request, or one node, changes

pub asking_changed : (u : Setting) (v : WorldState) (r : ℕ) (y : Asking) (sent : List Letter) (a : c.Asking) (ms : List w.Letter) → r < length v.asking → asking_view y ≡ a → map letter_view sent ≡ ms
    → world_view u (with_asking v r y sent) ≡ record (world_view u v) { asking = p.put (world_view u v).asking r a; letters = (world_view u v).letters ++ ms }
asking_changed u v r y sent a ms low e f = λ z. record {
  nodes = (world_view u v).nodes;
  asking = λ q. (asking_put v.asking r y q low ∙ ap (λ x. p.put (world_view u v).asking r x q) e) z;
  letters = (map_append v.letters sent ∙ ap (λ x. map letter_view v.letters ++ x) f) z;
  order = v.order;
}

pub node_changed : (u : Setting) (v : WorldState) (i : ℕ) (s : NodeState) (sent : List Letter) (order : List ℕ) (ms : List w.Letter) → i < length v.nodes → map letter_view sent ≡ ms
    → world_view u (record (with_node v i s sent) { order = order }) ≡ record (world_view u v) { nodes = p.put (world_view u v).nodes i (node_view u s); letters = (world_view u v).letters ++ ms; order = order }
node_changed u v i s sent order ms low f = λ z. record {
  nodes = λ q. node_put u v.nodes i s q low z;
  asking = (world_view u v).asking;
  letters = (map_append v.letters sent ∙ ap (λ x. map letter_view v.letters ++ x) f) z;
  order = order;
}

-- ---- ask and tick

pub ask_happens : (u : Setting) (v : WorldState) (r : ℕ) (o : Option Asking) → IsWorldOf u v → r < length v.asking → slice_get v.asking r ≡ o → w.Happens (plan_of u) u.tries (world_view u v) (world_view u (asks_at u v r o).0) (w.Ask r)
ask_happens u v r None of low e = absurd (let x = get_low v.asking r low in let c : None ≡ Some x.0 = sym e ∙ x.1 in cc)
ask_happens u v r (Some a) of low e =
    let x = ask (terms_of u r) r (u.program r) (u.begin r) a in
    let s = ask_seen u r (u.program r) a refl (of.asking r a e) in
    let ea : asking_view a ≡ asking_at (slice_get v.asking r) = ap asking_at (sym e) in
    asking_changed u v r x.0 (sent_leg (asked_leg x.1)) _ _ low (s.0 ∙ ap (c.asks_asking (plan_of u) r) ea) (leg_map (asked_leg x.1) ∙ s.1 ∙ ap (w.asks_sends (plan_of u) r) ea)

pub tick_happens : (u : Setting) (v : WorldState) (r : ℕ) (o : Option Asking) → IsWorldOf u v → r < length v.asking → slice_get v.asking r ≡ o → w.Happens (plan_of u) u.tries (world_view u v) (world_view u (ticks_at u v r o).0) (w.Tick r)
tick_happens u v r None of low e = absurd (let x = get_low v.asking r low in let c : None ≡ Some x.0 = sym e ∙ x.1 in cc)
tick_happens u v r (Some a) of low e =
    let x = tick (terms_of u r) a in
    let s = tick_seen u r a (of.asking r a e) in
    let ea : asking_view a ≡ asking_at (slice_get v.asking r) = ap asking_at (sym e) in
    asking_changed u v r x.0 (sent_leg (ticked_leg x.1)) _ _ low (s.0 ∙ ap (c.ticks_asking u.tries) ea) (leg_map (ticked_leg x.1) ∙ s.1 ∙ ap (w.ticks_sends u.tries) ea)

-- ---- a delivery

not_last : (u : Setting) (k : ℕ) → HasNumbers u → k < u.rounds * u.budget → suc k < 2 ^ 32
not_last u k h low = omega (arith, h, low)

node_takes : (u : Setting) (v : WorldState) (i : ℕ) (l : Leg) (o : Option NodeState) → IsSetting u → IsWorldOf u v → LetterOf u (length v.nodes) (ToNode i) (OfLeg l) → slice_get v.nodes i ≡ o
    → w.Delivered (plan_of u) (world_view u v) (world_view u (to_node v i l o).0) (w.ToNode i) (p.AsLeg (leg_view l))
node_takes u v i l None set of h e = absurd (let x = get_low v.nodes i h.0 in let c : None ≡ Some x.0 = sym e ∙ x.1 in cc)
node_takes u v i l (Some s) set of h e =
    let x = accept s l in (
      node_view u x.0,
      accepted_view x.1,
      subst (λ z. n.Accepts (plan_of u) i z (node_view u x.0) (leg_view l) (accepted_view x.1)) (ap (node_at u) (sym e)) (accept_seen u i s l set (of.nodes i s e) h.1),
      node_changed u v i x.0 _ v.order _ h.0 (accepted_map l x.1),
    )

append_none : (xs : List w.Letter) → xs ++ [] ≡ xs
append_none [] = refl
append_none (x ∷ xs) = ap (λ z. x ∷ z) (append_none xs)

client_hears : (u : Setting) (v : WorldState) (d : ℕ) (b : Back) (o : Option Asking) → IsWorldOf u v → HasNumbers u → LetterOf u (length v.nodes) (ToClient d) (OfBack b) → b.leg < u.rounds * u.budget → b.left ≤ u.budget → slice_get v.asking b.request ≡ o
    → w.Delivered (plan_of u) (world_view u v) (world_view u (to_client u v d b o).0) w.ToClient (p.AsBack (back_view b))
client_hears u v d b None of few h low left e =
    let ea : asking_at (slice_get v.asking b.request) ≡ c.NotAsked = ap asking_at e in
    let same : c.heard_asking (asking_at (slice_get v.asking b.request)) (c.hears (plan_of u) (back_view b) (asking_at (slice_get v.asking b.request))) ≡ asking_at (slice_get v.asking b.request) =
    ap (λ a. c.heard_asking a (c.hears (plan_of u) (back_view b) a)) ea ∙ sym ea in
    λ z. record {
      nodes = (world_view u v).nodes;
      asking = λ q. sym (put_self (world_view u v).asking b.request _ same q) z;
      letters = (sym (append_none (map letter_view v.letters)) ∙ ap (λ a. map letter_view v.letters ++ w.heard_sends (c.hears (plan_of u) (back_view b) a)) (sym ea)) z;
      order = v.order;
    }
client_hears u v d b (Some a) of few h low left e =
    let terms = record (terms_of u b.request) { client = d } in
    let same : hear terms b a ≡ hear (terms_of u b.request) b a = (λ j. hear (record (terms_of u b.request) { client = h.0 j }) b a) in
    let s = hear_seen u b a h.1 (of.asking b.request a e) (not_last u b.leg few low) left in
    let ea : asking_view a ≡ asking_at (slice_get v.asking b.request) = ap asking_at (sym e) in
    asking_changed u v b.request (hear terms b a).0 (sent_leg (heard_leg (hear terms b a).1)) _ _ (low_get v.asking b.request a e)
    (ap (λ x. asking_view x.0) same ∙ s.0 ∙ ap (λ z. c.heard_asking z (c.hears (plan_of u) (back_view b) z)) ea)
    (ap (λ x. map letter_view (sent_leg (heard_leg x.1))) same ∙ leg_map (heard_leg (hear (terms_of u b.request) b a).1) ∙ s.1 ∙ ap (λ z. w.heard_sends (c.hears (plan_of u) (back_view b) z)) ea)

letters_changed : (u : Setting) (v : WorldState) (sent : List Letter) (ms : List w.Letter) → map letter_view sent ≡ ms → world_view u (record v { letters = v.letters ++ sent }) ≡ record (world_view u v) { letters = (world_view u v).letters ++ ms }
letters_changed u v sent ms f = λ z. record { nodes = (world_view u v).nodes; asking = (world_view u v).asking; letters = (map_append v.letters sent ∙ ap (λ x. map letter_view v.letters ++ x) f) z; order = v.order }

delivered : (u : Setting) (v : WorldState) (to : To) (x : Content) → IsSetting u → HasNumbers u → IsWorldOf u v → LetterOf u (length v.nodes) to x → number_in (content_view x) < p.limit (plan_of u) → FrameShaped (plan_of u) (shape_of u) (content_view x)
    → w.Delivered (plan_of u) (world_view u v) (world_view u (delivers u v to x).0) (to_view to) (content_view x)
delivered u v ToSwitch (OfLeg l) set few of h low shape = letters_changed u v _ _ (out_map (on (switch_of u) (frame.Leg l)) ∙ (switch_seen u set).0 l h)
delivered u v ToSwitch (OfBack b) set few of h low shape = letters_changed u v _ _ (out_map (on (switch_of u) (frame.Back b)) ∙ (switch_seen u set).1 b h (not_last u b.leg few low))
delivered u v (ToNode i) (OfLeg l) set few of h low shape = node_takes u v i l (slice_get v.nodes i) set of h refl
delivered u v (ToNode i) (OfBack b) set few of h low shape = absurd h
delivered u v (ToClient d) (OfLeg l) set few of h low shape = absurd h
delivered u v (ToClient d) (OfBack b) set few of h low shape = client_hears u v d b (slice_get v.asking b.request) of few h low shape.0.left refl

pub delivery_happens : (u : Setting) (v : WorldState) (k : ℕ) (o : Option Letter) → IsSetting u → HasNumbers u → IsWorldOf u v → slice_get v.letters k ≡ o
    → ((m : Letter) → o ≡ Some m → LetterOf u (length v.nodes) m.to m.content × (number_in (content_view m.content) < p.limit (plan_of u)) × FrameShaped (plan_of u) (shape_of u) (content_view m.content))
    → w.Happens (plan_of u) u.tries (world_view u v) (world_view u (delivers_at u v o).0) (w.Deliver k)
delivery_happens u v k None set few of e h = subst (w.DeliveredAt (plan_of u) (world_view u v) (world_view u v)) (sym (get_map v.letters k None e)) refl
delivery_happens u v k (Some m) set few of e h =
    let x = h m refl in
    subst (w.DeliveredAt (plan_of u) (world_view u v) (world_view u (delivers u v m.to m.content).0)) (sym (get_map v.letters k (Some m) e)) (delivered u v m.to m.content set few of x.0 x.1 x.2)

-- ---- a turn

pub turn_made : (u : Setting) (v : WorldState) (i : ℕ) (s : NodeState) (e : LiveLeg) → IsSetting u → IsWorldOf u v → slice_get v.nodes i ≡ Some s → find_live s.live (key_of e.leg) ≡ Some e
    → w.TurnMade (plan_of u) i (world_view u v) (world_view u (turns u v i s e).0)
turn_made u v i s e set of h found =
    let x = turn s (key_of e.leg) (outcome_of u s e.leg) in
    let f = fate_view (fate_of s e.leg (outcome_of u s e.leg)) in
    let t = turn_seen u i s (key_of e.leg) e set (of.nodes i s h) found in (
      node_view u x.0,
      e.leg.request,
      e.leg.leg,
      f,
      subst (λ z. n.Iterates (plan_of u) i z (node_view u x.0) e.leg.request e.leg.leg f) (ap (node_at u) (sym h)) t.0,
      node_changed u v i x.0 (sent_back x.1) (v.order ++ e.leg.request ∷ []) _ (low_get v.nodes i s h) (back_map x.1 ∙ sym t.1),
    )

turn_first : (u : Setting) (v : WorldState) (i : ℕ) (s : NodeState) (live : List LiveLeg) → IsSetting u → IsWorldOf u v → slice_get v.nodes i ≡ Some s → s.live ≡ live → w.TurnedAt (plan_of u) (world_view u v) (world_view u (turns_first u v i s live).0) i
turn_first u v i s [] set of h e = inl refl
turn_first u v i s (x ∷ es) set of h e = inr (turn_made u v i s x set of h (ap (λ z. find_live z (key_of x.leg)) e ∙ find_first x es))

pub turn_happens : (u : Setting) (v : WorldState) (i : ℕ) (o : Option NodeState) → IsSetting u → IsWorldOf u v → slice_get v.nodes i ≡ o → w.Happens (plan_of u) u.tries (world_view u v) (world_view u (turns_at u v i o).0) (w.TurnOf i)
turn_happens u v i None set of e = inl refl
turn_happens u v i (Some s) set of e = turn_first u v i s s.live set of e refl
