-- Each event keeps what is always true of a world.
use Rattle.std.proofs.Common.{◌≡◌, ℕ, ◌-◌, ◌^◌, ◌<◌, ◌≤◌, Bool, true, false, List, [], ◌∷◌, ◌++◌, length, Option, Some, None, refl, sym, ap, ◌∙◌, subst, nat_eq, if◌then◌else◌, eqb-true}
use Rattle.std.specs.Prelude.{slice_get, slice_set}
use Rattle.range_table.specs.Memory.{region_of}
use Rattle.frame_codec.specs.declared.frame.Leg.{Leg}
use Rattle.frame_codec.specs.declared.frame.Back.{Back}
use Rattle.frame_codec.specs.declared.frame.Ending.{Ending}
use Rattle.frame_codec.specs.declared.frame.Ending.TheVariants as ending
use Rattle.frame_codec.specs.declared.frame.Frame.TheVariants as frame
use Rattle.run_rules.specs.declared.node.LiveLeg.{LiveLeg}
use Rattle.run_rules.specs.declared.node.Accepted.{Accepted}
use Rattle.run_rules.specs.declared.node.Accepted.TheVariants as accepted
use Rattle.run_rules.specs.declared.client.Asking.{Asking}
use Rattle.run_rules.specs.declared.client.Heard.{Heard}
use Rattle.run_rules.specs.declared.switch.Out.{Out}
use Rattle.run_rules.specs.declared.switch.Out.TheVariants as out
use Rattle.run_rules.specs.Node.{NodeState, key_of, find_live}
use Rattle.run_rules.specs.Accepting.{accept}
use Rattle.run_rules.specs.Turning.{turn}
use Rattle.run_rules.specs.Client.{ask, tick, hear}
use Rattle.run_rules.specs.Switch.{sent_to, route, next_leg, pass_back, is_known, on}
use Rattle.run_rules.proofs.Finds.{by_bool}
use Rattle.run_laws.specs.Spines.Sound.{Each}
use Rattle.run_views.specs.Setting.{Setting, owner_of, IsSetting, IsLegOf, IsBackOf}
use Rattle.run_views.specs.Nodes.{outcome_of, IsNodeOf}
use Rattle.run_views.specs.Clients.{terms_of, asked_leg, ticked_leg, heard_leg, IsAskingOf}
use Rattle.run_views.specs.Switches.{switch_of}
use Rattle.run_views.specs.Keeps.{SentLegOf, SentBackOf, AnswerOf, OutOf}
use Rattle.run_views.proofs.Keeps.{accept_keeps, turn_keeps}
use Rattle.run_views.proofs.Sent.{client_keeps, switch_keeps}
use Rattle.event_run.specs.Letters.{To, ToSwitch, ToNode, ToClient, Content, OfLeg, OfBack, Letter, sent_leg, sent_back, sent_out}
use Rattle.event_run.specs.World.{WorldState, with_asking, with_node, sent_accepted, to_node, to_client, delivers, delivers_at, turns, asks_at, ticks_at}
use Rattle.event_run.specs.Always.{LetterOf, IsWorldOf}
use Rattle.event_run.proofs.Lists.{get_set, many_set, low_get}

abbrev AreOf : Setting → ℕ → List Letter → Type 0
AreOf u nodes ms = Each (λ m. LetterOf u nodes m.to m.content) ms

append_of : (u : Setting) (nodes : ℕ) (xs ys : List Letter) → AreOf u nodes xs → AreOf u nodes ys → AreOf u nodes (xs ++ ys)
append_of u nodes [] ys f g = g
append_of u nodes (x ∷ xs) ys f g = (f.0, append_of u nodes xs ys f.1 g)

-- an item of a list in which one was put
set_of : {A : Type 0} (P : ℕ → A → Type 0) (xs : List A) (r : ℕ) (y : A) → r < length xs → P r y → ((q : ℕ) (a : A) → slice_get xs q ≡ Some a → P q a) → (q : ℕ) (a : A) → slice_get (slice_set xs r y) q ≡ Some a → P q a
set_of {A} P xs r y low h old q a e = by_bool (nat_eq q r)
    (λ t. let c : Some y ≡ Some a = sym (ap (λ b. if b then Some y else slice_get xs q) t) ∙ sym (get_set xs r y q low) ∙ e in
    let d : y ≡ a = cc in subst (P q) d (subst (λ (z : ℕ). P z y) (sym (eqb-true q r t)) h))
    (λ t. old q a (sym (ap (λ b. if b then Some y else slice_get xs q) t) ∙ sym (get_set xs r y q low) ∙ e))

-- ---- one request changes

legs_of : (u : Setting) (nodes : ℕ) (o : Option Leg) → SentLegOf u o → AreOf u nodes (sent_leg o)
legs_of u nodes None h = tt
legs_of u nodes (Some l) h = (h, tt)

backs_of : (u : Setting) (nodes : ℕ) (o : Option Back) → SentBackOf u o → AreOf u nodes (sent_back o)
backs_of u nodes None h = tt
backs_of u nodes (Some b) h = (h, tt)

asking_of : (u : Setting) (v : WorldState) (r : ℕ) (y : Asking) (o : Option Leg) → IsWorldOf u v → r < length v.asking → IsAskingOf u r y → SentLegOf u o → IsWorldOf u (with_asking v r y (sent_leg o))
asking_of u v r y o h low a s = record {
  owners = h.owners;
  nodes = h.nodes;
  asking = set_of (IsAskingOf u) v.asking r y low a h.asking;
  letters = append_of u (length v.nodes) v.letters (sent_leg o) h.letters (legs_of u (length v.nodes) o s);
}

-- ---- a node changes

node_of : (u : Setting) (v : WorldState) (i : ℕ) (s : NodeState) (sent : List Letter) (order : List ℕ) → IsWorldOf u v → i < length v.nodes → IsNodeOf u i s → AreOf u (length v.nodes) sent → IsWorldOf u (record (with_node v i s sent) { order = order })
node_of u v i s sent order h low n f = record {
  owners = λ j. subst (λ z. owner_of u j < z) (sym (many_set v.nodes i s)) (h.owners j);
  nodes = set_of (IsNodeOf u) v.nodes i s low n h.nodes;
  asking = h.asking;
  letters = subst (λ z. AreOf u z (v.letters ++ sent)) (sym (many_set v.nodes i s)) (append_of u (length v.nodes) v.letters sent h.letters f);
}

-- ---- ask and tick

pub ask_of : (u : Setting) (v : WorldState) (r : ℕ) (o : Option Asking) → IsSetting u → IsWorldOf u v → slice_get v.asking r ≡ o → IsWorldOf u (asks_at u v r o).0
ask_of u v r None set h e = h
ask_of u v r (Some a) set h e =
    let x = ask (terms_of u r) r (u.program r) (u.begin r) a in
    let k = (client_keeps u r a set (h.asking r a e)).0 in
    asking_of u v r x.0 (asked_leg x.1) h (low_get v.asking r a e) k.0 k.1

pub tick_of : (u : Setting) (v : WorldState) (r : ℕ) (o : Option Asking) → IsSetting u → IsWorldOf u v → slice_get v.asking r ≡ o → IsWorldOf u (ticks_at u v r o).0
tick_of u v r None set h e = h
tick_of u v r (Some a) set h e =
    let x = tick (terms_of u r) a in
    let k = (client_keeps u r a set (h.asking r a e)).1 in
    asking_of u v r x.0 (ticked_leg x.1) h (low_get v.asking r a e) k.0 k.1

-- ---- the switch sends legs to nodes that are there

abbrev OutLow : ℕ → Out → Type 0
OutLow nodes (out.ToNode i l) = i < nodes
OutLow nodes (out.ToClient c b) = Unit {0}
OutLow nodes out.Nothing = Unit {0}

sent_to_low : (u : Setting) (nodes : ℕ) (l : Leg) (o : Option ℕ) → ((i : ℕ) → owner_of u i < nodes) → OutLow nodes (sent_to (switch_of u) l o)
sent_to_low u nodes l (Some i) h = h i
sent_to_low u nodes l None h = tt

route_low : (u : Setting) (nodes : ℕ) (l : Leg) → ((i : ℕ) → owner_of u i < nodes) → OutLow nodes (route (switch_of u) l)
route_low u nodes l h = sent_to_low u nodes l (region_of u.table l.cur _) h

pass_low : (u : Setting) (nodes : ℕ) (b : Back) (e : Ending) → ((i : ℕ) → owner_of u i < nodes) → OutLow nodes (pass_back (switch_of u) b e)
pass_low u nodes b ending.Done h = tt
pass_low u nodes b ending.Resume h = tt
pass_low u nodes b (ending.Fault kind) h = tt
pass_low u nodes b ending.Reroute h = by_bool (nat_eq b.leg (2 ^ 32 - 1))
    (λ t. subst (λ z. OutLow nodes (if z then out.Nothing else route (switch_of u) (next_leg b))) (sym t) tt)
    (λ t. subst (λ z. OutLow nodes (if z then out.Nothing else route (switch_of u) (next_leg b))) (sym t) (route_low u nodes (next_leg b) h))

known_low : (nodes : ℕ) (b : Bool) (o : Out) → OutLow nodes o → OutLow nodes (if b then o else out.Nothing)
known_low nodes true o h = h
known_low nodes false o h = tt

outs_of : (u : Setting) (nodes : ℕ) (o : Out) → OutOf u o → OutLow nodes o → AreOf u nodes (sent_out o)
outs_of u nodes (out.ToNode i l) h low = ((low, h), tt)
outs_of u nodes (out.ToClient c b) h low = (h, tt)
outs_of u nodes out.Nothing h low = tt

-- ---- a delivery

accepted_of : (u : Setting) (nodes : ℕ) (l : Leg) (a : Accepted) → IsLegOf u l → AnswerOf u a → AreOf u nodes (sent_accepted l a)
accepted_of u nodes l (accepted.Answer b) of h = (h, tt)
accepted_of u nodes l accepted.Elsewhere of h = (of, tt)
accepted_of u nodes l accepted.Foreign of h = tt
accepted_of u nodes l accepted.Running of h = tt
accepted_of u nodes l accepted.Full of h = tt
accepted_of u nodes l accepted.Started of h = tt
accepted_of u nodes l accepted.Memory of h = tt

node_accepts : (u : Setting) (v : WorldState) (i : ℕ) (l : Leg) (o : Option NodeState) → IsSetting u → IsWorldOf u v → IsLegOf u l → 1 ≤ l.left → slice_get v.nodes i ≡ o → IsWorldOf u (to_node v i l o).0
node_accepts u v i l None set h of left e = h
node_accepts u v i l (Some s) set h of left e =
    let x = accept s l in
    let k = accept_keeps u i s l set (h.nodes i s e) of left in
    node_of u v i x.0 (sent_accepted l x.1) v.order h (low_get v.nodes i s e) k.0 (accepted_of u (length v.nodes) l x.1 of k.1)

client_of : (u : Setting) (v : WorldState) (d : ℕ) (b : Back) (o : Option Asking) → IsSetting u → IsWorldOf u v → d ≡ u.client b.request → IsBackOf u b → slice_get v.asking b.request ≡ o → IsWorldOf u (to_client u v d b o).0
client_of u v d b None set h same of e = h
client_of u v d b (Some a) set h same of e =
    let terms = record (terms_of u b.request) { client = d } in
    let k = (client_keeps u b.request a set (h.asking b.request a e)).2 b of refl in
    let is : hear (terms_of u b.request) b a ≡ hear terms b a = (λ j. hear (record (terms_of u b.request) { client = sym same j }) b a) in
    let k2 = subst (λ (x : Asking × Heard). IsAskingOf u b.request x.0 × SentLegOf u (heard_leg x.1)) is k in
    asking_of u v b.request (hear terms b a).0 (heard_leg (hear terms b a).1) h (low_get v.asking b.request a e) k2.0 k2.1

abbrev pub LeftOf : Content → Type 0
LeftOf (OfLeg l) = 1 ≤ l.left
LeftOf (OfBack b) = Unit {0}

delivered_of : (u : Setting) (v : WorldState) (to : To) (x : Content) → IsSetting u → IsWorldOf u v → LetterOf u (length v.nodes) to x → LeftOf x → IsWorldOf u (delivers u v to x).0
delivered_of u v ToSwitch (OfLeg l) set h of left =
    let o = on (switch_of u) (frame.Leg l) in
    record {
      owners = h.owners;
      nodes = h.nodes;
      asking = h.asking;
      letters = append_of u (length v.nodes) v.letters (sent_out o) h.letters (outs_of u (length v.nodes) o ((switch_keeps u).0 l of) (known_low (length v.nodes) (is_known (switch_of u) l.client l.program) (route (switch_of u) l) (route_low u (length v.nodes) l h.owners)));
    }
delivered_of u v ToSwitch (OfBack b) set h of left =
    let o = on (switch_of u) (frame.Back b) in
    record {
      owners = h.owners;
      nodes = h.nodes;
      asking = h.asking;
      letters = append_of u (length v.nodes) v.letters (sent_out o) h.letters (outs_of u (length v.nodes) o ((switch_keeps u).1 b of) (known_low (length v.nodes) (is_known (switch_of u) b.client b.program) (pass_back (switch_of u) b b.ending) (pass_low u (length v.nodes) b b.ending h.owners)));
    }
delivered_of u v (ToNode i) (OfLeg l) set h of left = node_accepts u v i l (slice_get v.nodes i) set h of.1 left refl
delivered_of u v (ToNode i) (OfBack b) set h of left = absurd of
delivered_of u v (ToClient d) (OfLeg l) set h of left = absurd of
delivered_of u v (ToClient d) (OfBack b) set h of left = client_of u v d b (slice_get v.asking b.request) set h of.0 of.1 refl

pub delivery_of : (u : Setting) (v : WorldState) (o : Option Letter) → IsSetting u → IsWorldOf u v → ((m : Letter) → o ≡ Some m → LetterOf u (length v.nodes) m.to m.content × LeftOf m.content) → IsWorldOf u (delivers_at u v o).0
delivery_of u v None set h f = h
delivery_of u v (Some m) set h f = let x = f m refl in delivered_of u v m.to m.content set h x.0 x.1

-- ---- a turn

pub turn_of : (u : Setting) (v : WorldState) (i : ℕ) (s : NodeState) (e : LiveLeg) → IsSetting u → IsWorldOf u v → slice_get v.nodes i ≡ Some s → find_live s.live (key_of e.leg) ≡ Some e → IsWorldOf u (turns u v i s e).0
turn_of u v i s e set h at found =
    let x = turn s (key_of e.leg) (outcome_of u s e.leg) in
    let k = turn_keeps u i s (key_of e.leg) e set (h.nodes i s at) found in
    node_of u v i x.0 (sent_back x.1) (v.order ++ e.leg.request ∷ []) h (low_get v.nodes i s at) k.0 (backs_of u (length v.nodes) x.1 k.1)
