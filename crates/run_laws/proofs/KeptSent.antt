-- Each back that a node keeps was sent; and what holds before the first event.
use Rattle.std.proofs.Common.{◌≡◌, ℕ, zero, suc, ◌⊎◌, ◌&&◌, inl, inr, List, [], ◌∷◌, ◌++◌, length, Option, Some, None, refl, sym, ap, ◌∙◌, subst, nat_eq, if◌then◌else◌}
use Rattle.std.specs.Prelude.{slice_get}
use Rattle.run_laws.specs.Plan.{Leg, Back, Frame, AsLeg, AsBack, back_of, Plan, put}
use Rattle.run_laws.specs.Node.{Slot, Fresh, Running, Kept, Node, put_at, Accepted, Foreign, Replies, RunsAlready, Elsewhere, Full, Started, Accepts, Turned, Stays, Ends, turned_slot}
use Rattle.run_laws.specs.World.{To, ToSwitch, ToNode, ToClient, Letter, to_switch, turned_sends, World, Ask, Tick, Resend, Deliver, TurnOf, Delivered, DeliveredAt, TurnedAt}
use Rattle.run_laws.specs.Spines.Sound.{Each}
use Rattle.run_laws.specs.Spines.Carries.{FrameShaped, SlotShaped, AskingShaped, IsAmong, KeptWasSent, EachEventKeepsSent, FirstCarries}
use Rattle.run_laws.proofs.LegNumbers.{by_cases}
use Rattle.run_laws.proofs.Events.{put_here, put_there}

-- a letter stays where others follow
get_front : (xs ys : List Letter) (k : ℕ) (m : Letter) → slice_get xs k ≡ Some m → slice_get (xs ++ ys) k ≡ Some m
get_front [] ys k m e = absurd (cc)
get_front (x ∷ xs) ys zero m e = e
get_front (x ∷ xs) ys (suc k) m e = get_front xs ys k m e

get_next : (xs ys : List Letter) (m : Letter) → slice_get (xs ++ m ∷ ys) (length xs) ≡ Some m
get_next [] ys m = refl
get_next (x ∷ xs) ys m = get_next xs ys m

stays_among : (xs ys : List Letter) (f : Frame) → IsAmong xs f → IsAmong (xs ++ ys) f
stays_among xs ys f a = record { place = a.place; letter = a.letter; stands = get_front xs ys a.place a.letter a.stands; frame = a.frame }

added_among : (xs ys : List Letter) (m : Letter) → IsAmong (xs ++ m ∷ ys) m.frame
added_among xs ys m = record { place = length xs; letter = m; stands = get_next xs ys m; frame = refl }

-- what a node keeps after a slot was put
put_kept : (slot : ℕ → ℕ → Slot) (q j : ℕ) (x : Slot) (r k : ℕ) (b : Back) → put_at slot q j x r k ≡ Kept b → (x ≡ Kept b) ⊎ (slot r k ≡ Kept b)
put_kept slot q j x r k b e = by_cases (nat_eq r q && nat_eq k j)
    (λ t. inl (sym (ap (λ z. if z then x else slot r k) t) ∙ e))
    (λ t. inr (sym (ap (λ z. if z then x else slot r k) t) ∙ e))

accept_kept : (P : Plan) (n : ℕ) (old new : Node) (l : Leg) (a : Accepted) → Accepts P n old new l a → (r k : ℕ) (b : Back) → new.slot r k ≡ Kept b → old.slot r k ≡ Kept b
accept_kept P n old new l Foreign e r k b f = absurd e
accept_kept P n old new l (Replies c) e r k b f = sym (ap (λ (v : Node). v.slot r k) e.0) ∙ f
accept_kept P n old new l RunsAlready e r k b f = sym (ap (λ (v : Node). v.slot r k) e.0) ∙ f
accept_kept P n old new l Elsewhere e r k b f = sym (ap (λ (v : Node). v.slot r k) e.0) ∙ f
accept_kept P n old new l Full e r k b f = sym (ap (λ (v : Node). v.slot r k) e.0) ∙ f
accept_kept P n old new l Started (x, y, e) r k b f = by_put (put_kept old.slot l.request l.number (Running l.now) r k b (sym (ap (λ (v : Node). v.slot r k) e) ∙ f))
  where
    by_put : ((Running l.now ≡ Kept b) ⊎ (old.slot r k ≡ Kept b)) → old.slot r k ≡ Kept b
    by_put (inl g) = absurd (cc)
    by_put (inr g) = g

turned_among : (letters : List Letter) (r k : ℕ) (t : Turned) (b : Back) → turned_slot r k t ≡ Kept b → IsAmong (letters ++ turned_sends r k t) (AsBack b)
turned_among letters r k (Stays a) b e = absurd (cc)
turned_among letters r k (Ends a x) b e =
    let c : back_of r k a x ≡ b = cc in
    subst (λ (z : Back). IsAmong (letters ++ to_switch (AsBack (back_of r k a x)) ∷ []) (AsBack z)) c (added_among letters [] (to_switch (AsBack (back_of r k a x))))

-- only letters were added, and no node changed
same_nodes : (w v : World) (new : List Letter) → ((n r k : ℕ) → (v.nodes n).slot r k ≡ (w.nodes n).slot r k) → v.letters ≡ w.letters ++ new → KeptWasSent w → KeptWasSent v
same_nodes w v new nodes letters s n r k b e = subst (λ ms. IsAmong ms (AsBack b)) (sym letters) (stays_among w.letters new (AsBack b) (s n r k b (sym (nodes n r k) ∙ e)))

put_sent : (w v : World) (n : ℕ) (new : Node) (letters : List Letter) → v.nodes ≡ put w.nodes n new → v.letters ≡ w.letters ++ letters → KeptWasSent w
    → ((r k : ℕ) (b : Back) → new.slot r k ≡ Kept b → IsAmong (w.letters ++ letters) (AsBack b)) → KeptWasSent v
put_sent w v n new letters e f s h m r k b g = subst (λ ms. IsAmong ms (AsBack b)) (sym f) (by_cases (nat_eq m n)
    (λ t. h r k b (ap (λ (x : Node). x.slot r k) (sym (put_here w.nodes n new m t)) ∙ ap (λ (x : ℕ → Node). (x m).slot r k) (sym e) ∙ g))
    (λ t. stays_among w.letters letters (AsBack b) (s m r k b (ap (λ (x : Node). x.slot r k) (sym (put_there w.nodes n new m t)) ∙ ap (λ (x : ℕ → Node). (x m).slot r k) (sym e) ∙ g))))

delivered_sent : (P : Plan) (w v : World) (to : To) (f : Frame) → KeptWasSent w → Delivered P w v to f → KeptWasSent v
delivered_sent P w v ToSwitch f s d = same_nodes w v _ (λ n r k. ap (λ (x : World). (x.nodes n).slot r k) d) (ap (λ (x : World). x.letters) d) s
delivered_sent P w v (ToNode n) (AsLeg l) s (new, a, e, d) = subst KeptWasSent (sym d) (put_sent w (record w { nodes = put w.nodes n new; letters = w.letters ++ _ }) n new _ refl refl s
    (λ r k b g. stays_among w.letters _ (AsBack b) (s n r k b (accept_kept P n (w.nodes n) new l a e r k b g))))
delivered_sent P w v (ToNode n) (AsBack b) s d = subst KeptWasSent (sym d) s
delivered_sent P w v ToClient (AsLeg l) s d = subst KeptWasSent (sym d) s
delivered_sent P w v ToClient (AsBack b) s d = same_nodes w v _ (λ n r k. ap (λ (x : World). (x.nodes n).slot r k) d) (ap (λ (x : World). x.letters) d) s

delivered_at_sent : (P : Plan) (w v : World) (m : Option Letter) → KeptWasSent w → DeliveredAt P w v m → KeptWasSent v
delivered_at_sent P w v None s d = subst KeptWasSent (sym d) s
delivered_at_sent P w v (Some m) s d = delivered_sent P w v m.to m.frame s d

turned_at_sent : (P : Plan) (w v : World) (n : ℕ) → KeptWasSent w → TurnedAt P w v n → KeptWasSent v
turned_at_sent P w v n s (inl e) = subst KeptWasSent (sym e) s
turned_at_sent P w v n s (inr (new, r, k, t, e, d)) = subst KeptWasSent (sym d)
    (put_sent w (record w { nodes = put w.nodes n new; letters = w.letters ++ turned_sends r k t; order = w.order ++ r ∷ [] }) n new (turned_sends r k t) refl refl s
    (λ q j b g. by_put q j b (put_kept (w.nodes n).slot r k (turned_slot r k t) q j b (sym (ap (λ (x : Node). x.slot q j) e.changes) ∙ g))))
  where
    by_put : (q j : ℕ) (b : Back) → ((turned_slot r k t ≡ Kept b) ⊎ ((w.nodes n).slot q j ≡ Kept b)) → IsAmong (w.letters ++ turned_sends r k t) (AsBack b)
    by_put q j b (inl g) = turned_among w.letters r k t b g
    by_put q j b (inr g) = stays_among w.letters (turned_sends r k t) (AsBack b) (s n q j b g)

pub each_event_keeps_sent : EachEventKeepsSent
each_event_keeps_sent P tries w v (Ask r) s e = same_nodes w v _ (λ m q k. ap (λ (x : World). (x.nodes m).slot q k) e) (ap (λ (x : World). x.letters) e) s
each_event_keeps_sent P tries w v (Tick r) s e = same_nodes w v _ (λ m q k. ap (λ (x : World). (x.nodes m).slot q k) e) (ap (λ (x : World). x.letters) e) s
each_event_keeps_sent P tries w v (Resend r) s e = same_nodes w v _ (λ m q k. ap (λ (x : World). (x.nodes m).slot q k) e) (ap (λ (x : World). x.letters) e) s
each_event_keeps_sent P tries w v (Deliver k) s e = delivered_at_sent P w v (slice_get w.letters k) s e
each_event_keeps_sent P tries w v (TurnOf n) s e = turned_at_sent P w v n s e

pub first_carries : FirstCarries
first_carries P S start w f h = (
  record {
    letters = subst (Each (λ m. FrameShaped P S m.frame)) (sym f.letters) tt;
    slots = λ n r k. subst (SlotShaped P S r) (sym (f.slots n r k)) tt;
    asking = λ r. subst (AskingShaped P S) (sym (f.asking r)) tt;
    memory = λ i. ap length (f.memory i) ∙ h i;
  },
  λ n r k b e. absurd (let c : Fresh ≡ Kept b = sym (f.slots n r k) ∙ e in cc),
)
