-- Each event keeps the shape of what letters, slots and clients carry.
use Rattle.std.proofs.Common.{◌≡◌, ℕ, suc, ◌-◌, ◌≤◌, ◌&&◌, inl, inr, true, false, List, [], ◌∷◌, ◌++◌, length, Option, Some, None, refl, sym, ap, ◌∙◌, subst, arith, nat_eq, nat_lt, nat_le, if◌then◌else◌, eqb-true}
use Rattle.std.proofs.lemmas.Bool.{eqb-false}
use Rattle.std.specs.Prelude.{slice_get}
use Rattle.run_laws.specs.Plan.{Progress, Leg, Ending, Done, Reroute, Resume, Fault, Back, Frame, AsLeg, AsBack, Begun, Begins, Finished, Faulted, Outcome, Finishes, Goes, Faults, Plan, limit, Arrival, Here, Barred, Nowhere, arrive_on, put, first_progress}
use Rattle.run_laws.specs.Flat.{Spent, Silent, new_bytes}
use Rattle.run_laws.specs.Node.{Slot, Running, Node, put_at, Accepted, Foreign, Replies, RunsAlready, Elsewhere, Full, Started, Accepts, Turned, Stays, Ends, came_to, goes_to, goes_on, turned, turned_slot, Iterates}
use Rattle.run_laws.specs.Client.{Asking, NotAsked, Asked, Answered, Heard, Stale, Answers, Sends, next_leg, hears_ending, hears, heard_asking, first_leg, begun_asking, asks_asking, ticks_asking}
use Rattle.run_laws.specs.World.{To, ToSwitch, ToNode, ToClient, Letter, to_switch, accepted_sends, turned_sends, routed, rerouted_leg, switched_back, switched, begun_sends, asks_sends, ticks_sends, resends, heard_sends, World, Ask, Tick, Resend, Deliver, TurnOf, Delivered, DeliveredAt, TurnedAt}
use Rattle.run_laws.specs.Spines.Sound.{Each}
use Rattle.run_laws.specs.Spines.Carries.{Shape, IsShaped, BegunShaped, OutcomeShaped, KeepsShape, EndingLeft, FrameShaped, SlotShaped, AskingShaped, Shaped, EachEventKeepsShape}
use Rattle.run_laws.proofs.LegNumbers.{by_cases}
use Rattle.run_laws.proofs.Newest.{on_this_node}
use Rattle.run_laws.proofs.Events.{put_here, put_there, each_append, each_get}

abbrev AreShaped : Plan → Shape → List Letter → Type 0
AreShaped P S ms = Each (λ m. FrameShaped P S m.frame) ms

-- ---- what is sent

routed_shaped : (P : Plan) (S : Shape) (l : Leg) (o : Option ℕ) → FrameShaped P S (AsLeg l) → AreShaped P S (routed P l o)
routed_shaped P S l (Some i) f = (f, tt)
routed_shaped P S l None f = ((f.0, tt), tt)

back_shaped : (P : Plan) (S : Shape) (b : Back) (e : Ending) → b.ending ≡ e → FrameShaped P S (AsBack b) → AreShaped P S (switched_back P b e)
back_shaped P S b Reroute q f = routed_shaped P S (rerouted_leg b) (P.region b.request b.now.cur) (f.0, subst (λ x. EndingLeft x b.now) q f.1)
back_shaped P S b Done q f = (f, tt)
back_shaped P S b Resume q f = (f, tt)
back_shaped P S b (Fault k) q f = (f, tt)

switch_shaped : (P : Plan) (S : Shape) (f : Frame) → FrameShaped P S f → AreShaped P S (switched P f)
switch_shaped P S (AsLeg l) f = routed_shaped P S l (P.region l.request l.now.cur) f
switch_shaped P S (AsBack b) f = back_shaped P S b b.ending refl f

-- ---- a client

begun_shaped : (P : Plan) (S : Shape) (r : ℕ) (g : Begun) → P.first r ≡ g → BegunShaped (S.pad r) g → AskingShaped P S (begun_asking P r g) × AreShaped P S (begun_sends P r g)
begun_shaped P S r (Begins cur pad) e h =
    let f : FrameShaped P S (AsLeg (first_leg P r)) = subst (λ z. IsShaped P (S.pad r) (first_progress P.budget z) × (1 ≤ (first_progress P.budget z).left)) (sym e)
    (record { pad = h; left = omega arith }, P.some_budget) in
    (f, (f, tt))
begun_shaped P S r (Finished pad) e h = (tt, tt)
begun_shaped P S r Faulted e h = (tt, tt)

asks_shaped : (P : Plan) (S : Shape) (r : ℕ) (g : Asking) → KeepsShape P S → AskingShaped P S g → AskingShaped P S (asks_asking P r g) × AreShaped P S (asks_sends P r g)
asks_shaped P S r NotAsked k h = begun_shaped P S r (P.first r) refl (k.begins r)
asks_shaped P S r (Asked l c t) k h = (h, tt)
asks_shaped P S r (Answered a) k h = (tt, tt)

ticks_shaped : (P : Plan) (S : Shape) (tries : ℕ) (g : Asking) → AskingShaped P S g → AskingShaped P S (ticks_asking tries g) × AreShaped P S (ticks_sends tries g)
ticks_shaped P S tries NotAsked h = (tt, tt)
ticks_shaped P S tries (Answered a) h = (tt, tt)
ticks_shaped P S tries (Asked l c t) h = by_cases (nat_le tries t)
    (λ q. subst (λ b. AskingShaped P S (if b then Answered Silent else Asked l c (suc t)) × AreShaped P S (if b then [] else to_switch (AsLeg l) ∷ [])) (sym q) (tt, tt))
    (λ q. subst (λ b. AskingShaped P S (if b then Answered Silent else Asked l c (suc t)) × AreShaped P S (if b then [] else to_switch (AsLeg l) ∷ [])) (sym q) (h, (h, tt)))

resends_shaped : (P : Plan) (S : Shape) (g : Asking) → AskingShaped P S g → AreShaped P S (resends g)
resends_shaped P S NotAsked h = tt
resends_shaped P S (Asked l c t) h = (h, tt)
resends_shaped P S (Answered a) h = tt

HeardShaped : Plan → Shape → Heard → Type 0
HeardShaped P S Stale = Unit {0}
HeardShaped P S (Answers x) = Unit {0}
HeardShaped P S (Sends l) = FrameShaped P S (AsLeg l)

ending_shaped : (P : Plan) (S : Shape) (b : Back) (accepted : ℕ) (e : Ending) → FrameShaped P S (AsBack b) → HeardShaped P S (hears_ending P b accepted e)
unfolding HeardShaped
ending_shaped P S b accepted Done f = tt
ending_shaped P S b accepted (Fault k) f = tt
ending_shaped P S b accepted Reroute f = tt
ending_shaped P S b accepted Resume f = by_cases (nat_eq (suc accepted) P.rounds)
    (λ q. subst (λ t. HeardShaped P S (if t then Answers (Spent (limit P)) else Sends (next_leg P b))) (sym q) tt)
    (λ q. subst (λ t. HeardShaped P S (if t then Answers (Spent (limit P)) else Sends (next_leg P b))) (sym q)
    (record { pad = f.0.pad; left = omega arith }, P.some_budget))

hears_shaped : (P : Plan) (S : Shape) (b : Back) (g : Asking) → FrameShaped P S (AsBack b) → HeardShaped P S (hears P b g)
unfolding HeardShaped
hears_shaped P S b NotAsked f = tt
hears_shaped P S b (Answered a) f = tt
hears_shaped P S b (Asked l c t) f = by_cases (nat_lt b.number l.number)
    (λ q. subst (λ z. HeardShaped P S (if z then Stale else hears_ending P b c b.ending)) (sym q) tt)
    (λ q. subst (λ z. HeardShaped P S (if z then Stale else hears_ending P b c b.ending)) (sym q) (ending_shaped P S b c b.ending f))

heard_shaped : (P : Plan) (S : Shape) (g : Asking) (h : Heard) → AskingShaped P S g → HeardShaped P S h → AskingShaped P S (heard_asking g h) × AreShaped P S (heard_sends h)
unfolding HeardShaped
heard_shaped P S g Stale a f = (a, tt)
heard_shaped P S g (Answers x) a f = (tt, tt)
heard_shaped P S (Asked l c t) (Sends m) a f = (f, (f, tt))
heard_shaped P S NotAsked (Sends m) a f = (tt, (f, tt))
heard_shaped P S (Answered x) (Sends m) a f = (tt, (f, tt))

-- ---- a node

-- a slot that was put
pub put_slot : (P : Plan) (S : Shape) (slot : ℕ → ℕ → Slot) (q j : ℕ) (x : Slot) (r k : ℕ) → ((r k : ℕ) → SlotShaped P S r (slot r k)) → SlotShaped P S q x → SlotShaped P S r (put_at slot q j x r k)
put_slot P S slot q j x r k h f = by_cases (nat_eq r q && nat_eq k j)
    (λ t. subst (λ b. SlotShaped P S r (if b then x else slot r k)) (sym t)
    (subst (λ (z : ℕ). SlotShaped P S z x) (sym (eqb-true r q (by_cases (nat_eq r q) (λ u. u) (λ u. absurd (let c : false ≡ true = sym (ap (λ b. b && nat_eq k j) u) ∙ t in cc))))) f))
    (λ t. subst (λ b. SlotShaped P S r (if b then x else slot r k)) (sym t) (h r k))

accept_shaped : (P : Plan) (S : Shape) (n : ℕ) (old new : Node) (l : Leg) (a : Accepted) → FrameShaped P S (AsLeg l) → ((r k : ℕ) → SlotShaped P S r (old.slot r k)) → Accepts P n old new l a
    → ((r k : ℕ) → SlotShaped P S r (new.slot r k)) × AreShaped P S (accepted_sends l a) × ((i : ℕ) → new.bytes i ≡ old.bytes i)
accept_shaped P S n old new l Foreign f h e = absurd e
accept_shaped P S n old new l (Replies b) f h (e, inl k) = (subst (λ (v : Node). (r k : ℕ) → SlotShaped P S r (v.slot r k)) (sym e) h, (subst (SlotShaped P S l.request) k (h l.request l.number), tt), λ i. ap (λ (v : Node). v.bytes i) e)
accept_shaped P S n old new l (Replies b) f h (e, inr (x, k)) = (subst (λ (v : Node). (r k : ℕ) → SlotShaped P S r (v.slot r k)) (sym e) h, (subst (λ (b : Back). FrameShaped P S (AsBack b)) (sym k) (f.0, tt), tt), λ i. ap (λ (v : Node). v.bytes i) e)
accept_shaped P S n old new l RunsAlready f h e = (subst (λ (v : Node). (r k : ℕ) → SlotShaped P S r (v.slot r k)) (sym e.0) h, tt, λ i. ap (λ (v : Node). v.bytes i) e.0)
accept_shaped P S n old new l Elsewhere f h e = (subst (λ (v : Node). (r k : ℕ) → SlotShaped P S r (v.slot r k)) (sym e.0) h, (f, tt), λ i. ap (λ (v : Node). v.bytes i) e.0)
accept_shaped P S n old new l Full f h e = (subst (λ (v : Node). (r k : ℕ) → SlotShaped P S r (v.slot r k)) (sym e.0) h, tt, λ i. ap (λ (v : Node). v.bytes i) e.0)
accept_shaped P S n old new l Started f h (x, y, e) =
    (subst (λ (v : Node). (r k : ℕ) → SlotShaped P S r (v.slot r k)) (sym e) (λ r k. put_slot P S old.slot l.request l.number (Running l.now) r k h f), tt, λ i. ap (λ (v : Node). v.bytes i) e)

TurnedShaped : Plan → Shape → ℕ → Turned → Type 0
TurnedShaped P S r (Stays a) = IsShaped P (S.pad r) a × (1 ≤ a.left)
TurnedShaped P S r (Ends a e) = IsShaped P (S.pad r) a × EndingLeft e a

goes_shaped : (P : Plan) (S : Shape) (r : ℕ) (a : Progress) (x : Arrival) → IsShaped P (S.pad r) a → 1 ≤ a.left → TurnedShaped P S r (goes_to a x)
unfolding TurnedShaped
goes_shaped P S r a (Here i) f h = (f, h)
goes_shaped P S r a Barred f h = (f, tt)
goes_shaped P S r a Nowhere f h = (f, h)

turned_shaped : (P : Plan) (S : Shape) (n r region : ℕ) (a : Progress) (o : Outcome) → IsShaped P (S.pad r) a → 1 ≤ a.left → OutcomeShaped (S.pad r) region o → TurnedShaped P S r (turned P n r a o)
unfolding TurnedShaped
turned_shaped P S n r region a (Finishes bytes pad) f h o = (record { pad = o.1; left = let m = f.left in omega (arith, m) }, tt)
turned_shaped P S n r region a (Faults kind) f h o = (f, tt)
turned_shaped P S n r region a (Goes to bytes pad) f h o =
    let b = came_to to pad (a.left - 1) in
    let g : IsShaped P (S.pad r) b = record { pad = o.1; left = let m = f.left in omega (arith, m) } in
    by_cases (nat_eq (a.left - 1) 0)
    (λ q. subst (λ z. TurnedShaped P S r (goes_on b z (arrive_on P n r to))) (sym q) (g, tt))
    (λ q. subst (λ z. TurnedShaped P S r (goes_on b z (arrive_on P n r to))) (sym q)
    (goes_shaped P S r b (arrive_on P n r to) g (let ne = eqb-false (a.left - 1) 0 q in omega (arith, ne))))

turned_slot_shaped : (P : Plan) (S : Shape) (r k : ℕ) (t : Turned) → TurnedShaped P S r t → SlotShaped P S r (turned_slot r k t)
unfolding TurnedShaped
turned_slot_shaped P S r k (Stays a) f = f
turned_slot_shaped P S r k (Ends a e) f = f

turned_sends_shaped : (P : Plan) (S : Shape) (r k : ℕ) (t : Turned) → TurnedShaped P S r t → AreShaped P S (turned_sends r k t)
unfolding TurnedShaped
turned_sends_shaped P S r k (Stays a) f = tt
turned_sends_shaped P S r k (Ends a e) f = (f, tt)

bytes_shaped : (region size : ℕ) (old : List ℕ) (o : Outcome) → length old ≡ region → OutcomeShaped size region o → length (new_bytes old o) ≡ region
bytes_shaped region size old (Finishes bytes pad) e o = o.0
bytes_shaped region size old (Goes to bytes pad) e o = o.0
bytes_shaped region size old (Faults kind) e o = e

-- ---- the world

letters_shaped : (P : Plan) (S : Shape) (w : World) (new : List Letter) → Shaped P S w → AreShaped P S new → AreShaped P S (w.letters ++ new)
letters_shaped P S w new s f = each_append (λ m. FrameShaped P S m.frame) w.letters new s.letters f

asking_shaped : (P : Plan) (S : Shape) (w : World) (r : ℕ) (a : Asking) (new : List Letter) → Shaped P S w → AskingShaped P S a × AreShaped P S new
    → Shaped P S (record w { asking = put w.asking r a; letters = w.letters ++ new })
asking_shaped P S w r a new s f = record {
  letters = letters_shaped P S w new s f.1;
  slots = s.slots;
  asking = λ q. by_cases (nat_eq q r)
      (λ t. subst (AskingShaped P S) (sym (put_here w.asking r a q t)) f.0)
      (λ t. subst (AskingShaped P S) (sym (put_there w.asking r a q t)) (s.asking q));
  memory = s.memory;
}

node_shaped : (P : Plan) (S : Shape) (w : World) (n : ℕ) (new : Node) (letters : List Letter) (order : List ℕ) → Shaped P S w → ((r k : ℕ) → SlotShaped P S r (new.slot r k)) → AreShaped P S letters
    → ((i : ℕ) → P.owner i ≡ n → length (new.bytes i) ≡ S.region i) → Shaped P S (record w { nodes = put w.nodes n new; letters = w.letters ++ letters; order = order })
node_shaped P S w n new letters order s h f b = record {
  letters = letters_shaped P S w letters s f;
  slots = λ m r k. by_cases (nat_eq m n)
      (λ t. subst (λ (v : Node). SlotShaped P S r (v.slot r k)) (sym (put_here w.nodes n new m t)) (h r k))
      (λ t. subst (λ (v : Node). SlotShaped P S r (v.slot r k)) (sym (put_there w.nodes n new m t)) (s.slots m r k));
  asking = s.asking;
  memory = λ i. by_cases (nat_eq (P.owner i) n)
      (λ t. ap (λ (v : Node). length (v.bytes i)) (put_here w.nodes n new (P.owner i) t) ∙ b i (eqb-true (P.owner i) n t))
      (λ t. ap (λ (v : Node). length (v.bytes i)) (put_there w.nodes n new (P.owner i) t) ∙ s.memory i);
}

turn_shaped : (P : Plan) (S : Shape) (w : World) (n : ℕ) (new : Node) (r k : ℕ) (t : Turned) → KeepsShape P S → Shaped P S w → Iterates P n (w.nodes n) new r k t
    → Shaped P S (record w { nodes = put w.nodes n new; letters = w.letters ++ turned_sends r k t; order = w.order ++ r ∷ [] })
turn_shaped P S w n new r k t keeps s e =
    let on = on_this_node P n r e.now.cur e.region e.here in
    let now = subst (SlotShaped P S r) e.is_live (s.slots n r k) in
    let here : length ((w.nodes n).bytes e.region) ≡ S.region e.region = subst (λ (m : ℕ). length ((w.nodes m).bytes e.region) ≡ S.region e.region) on.owner (s.memory e.region) in
    let o = P.iterate r e.region ((w.nodes n).bytes e.region) e.now.cur e.now.pad in
    let shaped : OutcomeShaped (S.pad r) (S.region e.region) o = keeps.iterates r e.region ((w.nodes n).bytes e.region) e.now.cur e.now.pad on.region here now.0.pad in
    let left : TurnedShaped P S r t = subst (TurnedShaped P S r) (sym e.left) (turned_shaped P S n r (S.region e.region) e.now o now.0 now.1 shaped) in
    node_shaped P S w n new (turned_sends r k t) (w.order ++ r ∷ []) s
    (subst (λ (v : Node). (q j : ℕ) → SlotShaped P S q (v.slot q j)) (sym e.changes) (λ q j. put_slot P S (w.nodes n).slot r k (turned_slot r k t) q j (s.slots n) (turned_slot_shaped P S r k t left)))
    (turned_sends_shaped P S r k t left)
    (λ i own. ap (λ (v : Node). length (v.bytes i)) e.changes ∙ by_cases (nat_eq i e.region)
    (λ q. ap length (put_here (w.nodes n).bytes e.region (new_bytes ((w.nodes n).bytes e.region) o) i q) ∙ bytes_shaped (S.region e.region) (S.pad r) ((w.nodes n).bytes e.region) o here shaped ∙ ap S.region (sym (eqb-true i e.region q)))
    (λ q. ap length (put_there (w.nodes n).bytes e.region (new_bytes ((w.nodes n).bytes e.region) o) i q) ∙ subst (λ (m : ℕ). length ((w.nodes m).bytes i) ≡ S.region i) own (s.memory i)))

delivered_shaped : (P : Plan) (S : Shape) (w v : World) (to : To) (f : Frame) → KeepsShape P S → Shaped P S w → FrameShaped P S f → Delivered P w v to f → Shaped P S v
delivered_shaped P S w v ToSwitch f keeps s h d = subst (Shaped P S) (sym d) (record { letters = letters_shaped P S w (switched P f) s (switch_shaped P S f h); slots = s.slots; asking = s.asking; memory = s.memory })
delivered_shaped P S w v (ToNode n) (AsLeg l) keeps s h (new, a, e, d) =
    let x = accept_shaped P S n (w.nodes n) new l a h (s.slots n) e in
    subst (Shaped P S) (sym d) (node_shaped P S w n new (accepted_sends l a) w.order s x.0 x.1 (λ i own. ap length (x.2 i) ∙ subst (λ (m : ℕ). length ((w.nodes m).bytes i) ≡ S.region i) own (s.memory i)))
delivered_shaped P S w v (ToNode n) (AsBack b) keeps s h d = subst (Shaped P S) (sym d) s
delivered_shaped P S w v ToClient (AsLeg l) keeps s h d = subst (Shaped P S) (sym d) s
delivered_shaped P S w v ToClient (AsBack b) keeps s h d = subst (Shaped P S) (sym d)
    (asking_shaped P S w b.request _ _ s (heard_shaped P S (w.asking b.request) (hears P b (w.asking b.request)) (s.asking b.request) (hears_shaped P S b (w.asking b.request) h)))

delivered_at_shaped : (P : Plan) (S : Shape) (w v : World) (k : ℕ) (m : Option Letter) → KeepsShape P S → Shaped P S w → slice_get w.letters k ≡ m → DeliveredAt P w v m → Shaped P S v
delivered_at_shaped P S w v k None keeps s e d = subst (Shaped P S) (sym d) s
delivered_at_shaped P S w v k (Some m) keeps s e d = delivered_shaped P S w v m.to m.frame keeps s (each_get (λ m. FrameShaped P S m.frame) w.letters k m e s.letters) d

turned_at_shaped : (P : Plan) (S : Shape) (w v : World) (n : ℕ) → KeepsShape P S → Shaped P S w → TurnedAt P w v n → Shaped P S v
turned_at_shaped P S w v n keeps s (inl e) = subst (Shaped P S) (sym e) s
turned_at_shaped P S w v n keeps s (inr (new, r, k, t, e, d)) = subst (Shaped P S) (sym d) (turn_shaped P S w n new r k t keeps s e)

pub each_event_keeps_shape : EachEventKeepsShape
each_event_keeps_shape P S tries w v (Ask r) keeps s e = subst (Shaped P S) (sym e) (asking_shaped P S w r _ _ s (asks_shaped P S r (w.asking r) keeps (s.asking r)))
each_event_keeps_shape P S tries w v (Tick r) keeps s e = subst (Shaped P S) (sym e) (asking_shaped P S w r _ _ s (ticks_shaped P S tries (w.asking r) (s.asking r)))
each_event_keeps_shape P S tries w v (Resend r) keeps s e = subst (Shaped P S) (sym e) (record { letters = letters_shaped P S w (resends (w.asking r)) s (resends_shaped P S (w.asking r) (s.asking r)); slots = s.slots; asking = s.asking; memory = s.memory })
each_event_keeps_shape P S tries w v (Deliver k) keeps s e = delivered_at_shaped P S w v k (slice_get w.letters k) keeps s refl e
each_event_keeps_shape P S tries w v (TurnOf n) keeps s e = turned_at_shaped P S w v n keeps s e
