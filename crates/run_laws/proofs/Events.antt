-- A change of one request keeps the rest of Sound; and so each event keeps it.
use Rattle.std.proofs.Common.{◌≡◌, ◌≢◌, ℕ, zero, suc, ◌⊎◌, inl, inr, ◌&&◌, Bool, true, false, List, [], ◌∷◌, ◌++◌, Option, Some, None, refl, sym, ap, ◌∙◌, subst, arith, nat_eq, nat_lt, if◌then◌else◌, eqb-true}
use Rattle.std.specs.Prelude.{slice_get, IsTrue}
use Rattle.std.proofs.lemmas.Bool.{eqb-false}
use Rattle.run_laws.specs.Plan.{NotReadable, Progress, Leg, Fault, Back, Frame, AsLeg, AsBack, back_of, Plan, limit, Here, Barred, arrive, arrive_on, put}
use Rattle.run_laws.specs.Flat.{FlatRequest, Flat, flat_next, new_bytes, settled, flat_at, flat_turn, flat_step, flat_run, is_here, can_turn, is_legal}
use Rattle.run_laws.specs.Node.{Slot, Fresh, Running, Kept, Node, put_at, with_slot, Accepted, Foreign, Replies, RunsAlready, Elsewhere, Full, Started, Accepts, Turned, Stays, Ends, turned, turned_slot, Iterates}
use Rattle.run_laws.specs.Client.{Asking}
use Rattle.run_laws.specs.World.{To, ToSwitch, ToNode, ToClient, Letter, to_switch, accepted_sends, turned_sends, switched, resends, World, Event, Ask, Tick, Resend, Deliver, TurnOf, Delivered, DeliveredAt, TurnedAt, RunsTo}
use Rattle.run_laws.specs.Spines.Spine.{Spine, fresh, sent_leg, became}
use Rattle.run_laws.specs.Spines.Fits.{blocked, early, FrameFits, RequestView, Fits}
use Rattle.run_laws.specs.Spines.Sound.{Each, view, IsSound, EachEventKeeps}
use Rattle.run_laws.proofs.Follows.{Grows, Follows}
use Rattle.run_laws.proofs.LegNumbers.{by_cases}
use Rattle.run_laws.proofs.Newest.{on_this_node, on_node_flat}
use Rattle.run_laws.proofs.Starts.{started}
use Rattle.run_laws.proofs.LiveLeg.{CanStep}
use Rattle.run_laws.proofs.NextLeg.{is_barred, view_turned, turns}
use Rattle.run_laws.proofs.Backs.{kept_is, back_number}
use Rattle.run_laws.proofs.OneRequest.{FrameIn, Changes, asks_change, ticks_change, resends_fit, hears_change, route_fits, switched_fits}

pub each_append : {A : Type 0} (P : A → Type 0) (xs ys : List A) → Each P xs → Each P ys → Each P (xs ++ ys)
each_append P [] ys f g = g
each_append P (x ∷ xs) ys f g = (f.0, each_append P xs ys f.1 g)

each_to : {A : Type 0} (P Q : A → Type 0) (xs : List A) → ((x : A) → P x → Q x) → Each P xs → Each Q xs
each_to P Q [] h f = tt
each_to P Q (x ∷ xs) h f = (h x f.0, each_to P Q xs h f.1)

-- One item of many.
pub each_get : {A : Type 0} (P : A → Type 0) (xs : List A) (k : ℕ) (x : A) → slice_get xs k ≡ Some x → Each P xs → P x
each_get P [] k x e f = absurd (cc)
each_get P (y ∷ xs) zero x e f = let c : y ≡ x = cc in subst P c f.0
each_get P (y ∷ xs) (suc k) x e f = each_get P xs k x e f.1

-- A function at the number that was put, and at another.
pub put_here : {A : Type 0} (f : ℕ → A) (r : ℕ) (x : A) (q : ℕ) → nat_eq q r ≡ true → put f r x q ≡ x
put_here f r x q e = ap (λ b. if b then x else f q) e

pub put_there : {A : Type 0} (f : ℕ → A) (r : ℕ) (x : A) (q : ℕ) → nat_eq q r ≡ false → put f r x q ≡ f q
put_there f r x q e = ap (λ b. if b then x else f q) e

pub same_number : (r : ℕ) → nat_eq r r ≡ true
same_number r = grind arith

pub put_same : {A : Type 0} (f : ℕ → A) (r : ℕ) (x : A) → put f r x r ≡ x
put_same f r x = put_here f r x r (same_number r)

pub not_same : (q r : ℕ) → q ≢ r → nat_eq q r ≡ false
not_same q r h = by_cases (nat_eq q r) (λ e. absurd (h (eqb-true q r e))) (λ e. e)

in_fits : (P : Plan) (s : ℕ → Spine) (r : ℕ) (f : Frame) → FrameIn P r (s r) f → FrameFits P s f
in_fits P s r (AsLeg l) f = subst (λ (q : ℕ). sent_leg P q (s q).past (s q).stand l.number ≡ Some l) (sym f.0) f.1
in_fits P s r (AsBack b) f = subst (λ (q : ℕ). (became q (s q).past (s q).stand b.number ≡ Kept b) ⊎ ((l : Leg) × (sent_leg P q (s q).past (s q).stand b.number ≡ Some l) × (early P l ≡ Some b))) (sym f.0) f.1

grown_back : (P : Plan) (r : ℕ) (s t : Spine) (b : Back) → Grows P r s t
    → ((became r s.past s.stand b.number ≡ Kept b) ⊎ ((l : Leg) × (sent_leg P r s.past s.stand b.number ≡ Some l) × (early P l ≡ Some b)))
    → ((became r t.past t.stand b.number ≡ Kept b) ⊎ ((l : Leg) × (sent_leg P r t.past t.stand b.number ≡ Some l) × (early P l ≡ Some b)))
grown_back P r s t b g (inl e) = inl (g.backs b.number b e)
grown_back P r s t b g (inr (l, e, f)) = inr (l, g.legs b.number l e, f)

grown : (P : Plan) (r : ℕ) (s t : Spine) (f : Frame) → Grows P r s t → FrameIn P r s f → FrameIn P r t f
grown P r s t (AsLeg l) g f = (f.0, g.legs l.number l f.1)
grown P r s t (AsBack b) g f = (f.0, grown_back P r s t b g f.1)

of_request : Frame → ℕ
of_request (AsLeg l) = l.request
of_request (AsBack b) = b.request

fits_in : (P : Plan) (s : ℕ → Spine) (f : Frame) → FrameFits P s f → FrameIn P (of_request f) (s (of_request f)) f
unfolding of_request
fits_in P s (AsLeg l) f = (refl, f)
fits_in P s (AsBack b) f = (refl, f)

frame_grown : (P : Plan) (s : ℕ → Spine) (r : ℕ) (t : Spine) (f : Frame) → Grows P r (s r) t → FrameFits P s f → FrameFits P (put s r t) f
frame_grown P s r t f g h =
    let i = fits_in P s f h in
    by_cases (nat_eq (of_request f) r)
    (λ e. let q : of_request f ≡ r = eqb-true (of_request f) r e in
    let i2 : FrameIn P r (s r) f = subst (λ (j : ℕ). FrameIn P j (s j) f) q i in
    in_fits P (put s r t) r f (subst (λ (x : Spine). FrameIn P r x f) (sym (put_same s r t)) (grown P r (s r) t f g i2)))
    (λ e. in_fits P (put s r t) (of_request f) f (subst (λ (x : Spine). FrameIn P (of_request f) x f) (sym (put_there s r t (of_request f) e)) i))

-- A change of one request keeps the rest of Sound.
pub lifted : (P : Plan) (start : Flat) (w v : World) (r : ℕ) (new : List Letter) (s : IsSound P start w)
    → Changes P r (s.spines r) (view v (flat_run P start v.order) r) new
    → ((q : ℕ) → q ≢ r → view v (flat_run P start v.order) q ≡ view w (flat_run P start w.order) q)
    → v.letters ≡ w.letters ++ new
    → ((i : ℕ) → (v.nodes (P.owner i)).bytes i ≡ (flat_run P start v.order).regions i)
    → IsTrue (is_legal P start v.order)
    → IsSound P start v
lifted P start w v r new s c others letters memory legal = record {
  spines = put s.spines r c.spine;
  fits = λ q. by_cases (nat_eq q r)
      (λ e. let d : q ≡ r = eqb-true q r e in
      subst (λ (j : ℕ). Fits P j (view v (flat_run P start v.order) j) (put s.spines r c.spine j)) (sym d)
      (subst (Fits P r (view v (flat_run P start v.order) r)) (sym (put_same s.spines r c.spine)) c.fits))
      (λ e. subst (Fits P q (view v (flat_run P start v.order) q)) (sym (put_there s.spines r c.spine q e))
      (subst (λ x. Fits P q x (s.spines q)) (sym (others q (eqb-false q r e))) (s.fits q)));
  letters = subst (Each (λ m. FrameFits P (put s.spines r c.spine) m.frame)) (sym letters)
      (each_append _ w.letters new
      (each_to _ _ w.letters (λ m f. frame_grown P s.spines r c.spine m.frame c.grows f) s.letters)
      (each_to _ _ new (λ m f. in_fits P (put s.spines r c.spine) r m.frame (subst (λ (x : Spine). FrameIn P r x m.frame) (sym (put_same s.spines r c.spine)) f)) c.sends));
  memory = memory;
  legal = legal;
}

abbrev asking_put : World → ℕ → Asking → List Letter → World
asking_put w r a new = record w { asking = put w.asking r a; letters = w.letters ++ new }

-- Only a client changes.
asking_changed : (P : Plan) (start : Flat) (w : World) (r : ℕ) (a : Asking) (new : List Letter) (s : IsSound P start w)
    → Changes P r (s.spines r) (record (view w (flat_run P start w.order) r) { asking = a }) new → IsSound P start (asking_put w r a new)
asking_changed P start w r a new s c = lifted P start w (asking_put w r a new) r new s
    (subst (λ x. Changes P r (s.spines r) (record (view w (flat_run P start w.order) r) { asking = x }) new) (sym (put_same w.asking r a)) c)
    (λ q h. λ i. record (view w (flat_run P start w.order) q) { asking = put_there w.asking r a q (not_same q r h) i })
    refl s.memory s.legal

-- Only letters are added.
letters_added : (P : Plan) (start : Flat) (w : World) (r : ℕ) (new : List Letter) (s : IsSound P start w) → Each (λ m. FrameIn P r (s.spines r) m.frame) new → IsSound P start (record w { letters = w.letters ++ new })
letters_added P start w r new s f = record { spines = s.spines; fits = s.fits; letters = each_append _ w.letters new s.letters (each_to _ _ new (λ m g. in_fits P s.spines r m.frame g) f); memory = s.memory; legal = s.legal }

switch_keeps : (P : Plan) (start : Flat) (w : World) (f : Frame) (s : IsSound P start w) → FrameFits P s.spines f → IsSound P start (record w { letters = w.letters ++ switched P f })
switch_keeps P start w (AsLeg l) s f = letters_added P start w l.request (switched P (AsLeg l)) s (route_fits P (s.spines l.request) l f)
switch_keeps P start w (AsBack b) s f = letters_added P start w b.request (switched P (AsBack b)) s (switched_fits P (s.spines b.request) b (s.fits b.request).spine f)

abbrev node_put : World → ℕ → Node → List Letter → World
node_put w n new letters = record w { nodes = put w.nodes n new; letters = w.letters ++ letters }

pub put_self : {A : Type 0} (f : ℕ → A) (n : ℕ) (x : A) → x ≡ f n → (q : ℕ) → put f n x q ≡ f q
put_self f n x e q = by_cases (nat_eq q n)
    (λ t. put_here f n x q t ∙ e ∙ ap f (sym (eqb-true q n t)))
    (λ t. put_there f n x q t)

same_node : (w : World) (n : ℕ) (new : Node) (letters : List Letter) → new ≡ w.nodes n → record w { letters = w.letters ++ letters } ≡ node_put w n new letters
same_node w n new letters e = λ i. record w { nodes = λ q. sym (put_self w.nodes n new e q) i; letters = w.letters ++ letters }

slot_started : (old : ℕ → Node) (n r k : ℕ) (x : Slot) (m j : ℕ) → (put old n (with_slot (old n) r k x) m).slot r j ≡ put_at (λ m j. (old m).slot r j) n k x m j
slot_started old n r k x m j = by_cases (nat_eq m n)
    (λ t. let e : put old n (with_slot (old n) r k x) m ≡ with_slot (old n) r k x = put_here old n (with_slot (old n) r k x) m t in
    let same : m ≡ n = eqb-true m n t in
    ap (λ (v : Node). v.slot r j) e ∙ ap (λ b. if b && nat_eq j k then x else (old n).slot r j) (same_number r)
    ∙ (λ i. if nat_eq j k then x else (old (sym same i)).slot r j) ∙ ap (λ b. if b && nat_eq j k then x else (old m).slot r j) (sym t))
    (λ t. ap (λ (v : Node). v.slot r j) (put_there old n (with_slot (old n) r k x) m t) ∙ ap (λ b. if b && nat_eq j k then x else (old m).slot r j) (sym t))

slot_others : (old : ℕ → Node) (n r k : ℕ) (x : Slot) (q : ℕ) → q ≢ r → (m j : ℕ) → (put old n (with_slot (old n) r k x) m).slot q j ≡ (old m).slot q j
slot_others old n r k x q h m j = by_cases (nat_eq m n)
    (λ t. ap (λ (v : Node). v.slot q j) (put_here old n (with_slot (old n) r k x) m t) ∙ ap (λ b. if b && nat_eq j k then x else (old n).slot q j) (not_same q r h)
    ∙ ap (λ z. (old z).slot q j) (sym (eqb-true m n t)))
    (λ t. ap (λ (v : Node). v.slot q j) (put_there old n (with_slot (old n) r k x) m t))

bytes_started : (old : ℕ → Node) (n r k : ℕ) (x : Slot) (m i : ℕ) → (put old n (with_slot (old n) r k x) m).bytes i ≡ (old m).bytes i
bytes_started old n r k x m i = by_cases (nat_eq m n)
    (λ t. ap (λ (v : Node). v.bytes i) (put_here old n (with_slot (old n) r k x) m t) ∙ ap (λ z. (old z).bytes i) (sym (eqb-true m n t)))
    (λ t. ap (λ (v : Node). v.bytes i) (put_there old n (with_slot (old n) r k x) m t))

next_change : (P : Plan) (r : ℕ) (s : Spine) (v : RequestView) → Follows P r s v → Changes P r s v []
next_change P r s v n = record { spine = n.spine; fits = n.fits; grows = n.grows; sends = tt }

start_keeps : (P : Plan) (start : Flat) (w : World) (n : ℕ) (l : Leg) (i : ℕ) (s : IsSound P start w) → FrameFits P s.spines (AsLeg l) → (w.nodes n).slot l.request l.number ≡ Fresh → arrive_on P n l.request l.now.cur ≡ Here i
    → IsSound P start (node_put w n (with_slot (w.nodes n) l.request l.number (Running l.now)) [])
start_keeps P start w n l i s f fresh here =
    let r = l.request in
    let x = Running l.now in
    let old = view w (flat_run P start w.order) r in
    let c = started P r n i old (s.spines r) l (s.fits r) f fresh (on_this_node P n r l.now.cur i here) in
    lifted P start w (node_put w n (with_slot (w.nodes n) r l.number x) []) r [] s
    (subst (λ (t : ℕ → ℕ → Slot). Changes P r (s.spines r) (record old { slot = t }) []) (λ j m k. sym (slot_started w.nodes n r l.number x m k) j) (next_change P r (s.spines r) _ c))
    (λ q h. λ j. record (view w (flat_run P start w.order) q) { slot = λ m k. slot_others w.nodes n r l.number x q h m k j })
    refl
    (λ i. bytes_started w.nodes n r l.number x (P.owner i) i ∙ s.memory i)
    s.legal

-- A node accepts a leg.
accept_keeps : (P : Plan) (start : Flat) (w : World) (n : ℕ) (new : Node) (l : Leg) (a : Accepted) (s : IsSound P start w) → FrameFits P s.spines (AsLeg l) → Accepts P n (w.nodes n) new l a
    → IsSound P start (node_put w n new (accepted_sends l a))
accept_keeps P start w n new l Foreign s f e = absurd e
accept_keeps P start w n new l (Replies b) s f e = subst (IsSound P start) (same_node w n new (to_switch (AsBack b) ∷ []) e.0) (answered e.1)
  where
    answered : (((w.nodes n).slot l.request l.number ≡ Kept b) ⊎ ((arrive_on P n l.request l.now.cur ≡ Barred) × (b ≡ back_of l.request l.number l.now (Fault NotReadable)))) → IsSound P start (record w { letters = w.letters ++ to_switch (AsBack b) ∷ [] })
    answered (inl k) =
        let st = kept_is P l.request n l.number _ (s.spines l.request) b (s.fits l.request) k in
        let names = back_number l.request (s.spines l.request).past (s.spines l.request).stand l.number b st in
        letters_added P start w l.request (to_switch (AsBack b) ∷ []) s ((names.1, inl ((λ i. became l.request (s.spines l.request).past (s.spines l.request).stand (names.0 i)) ∙ st)), tt)
    answered (inr (k, d)) =
        let bar : arrive P l.request l.now.cur ≡ Barred = is_barred P n l.request l.now.cur k in
        let e : early P l ≡ Some b = ap (blocked l) bar ∙ ap Some (sym d) in
        let number : b.number ≡ l.number = ap (λ (x : Back). x.number) d in
        letters_added P start w l.request (to_switch (AsBack b) ∷ []) s ((ap (λ (x : Back). x.request) d, inr (l, (λ i. sent_leg P l.request (s.spines l.request).past (s.spines l.request).stand (number i)) ∙ f, e)), tt)
accept_keeps P start w n new l RunsAlready s f e = subst (IsSound P start) (same_node w n new [] e.0) (letters_added P start w l.request [] s tt)
accept_keeps P start w n new l Elsewhere s f e = subst (IsSound P start) (same_node w n new (to_switch (AsLeg l) ∷ []) e.0) (letters_added P start w l.request (to_switch (AsLeg l) ∷ []) s ((refl, f), tt))
accept_keeps P start w n new l Full s f e = subst (IsSound P start) (same_node w n new [] e.0) (letters_added P start w l.request [] s tt)
accept_keeps P start w n new l Started s f e = subst (λ (x : Node). IsSound P start (node_put w n x [])) (sym e.2) (start_keeps P start w n l e.1.0 s f e.0 e.1.1)

-- The flat run of an order with one request more.
run_longer : (P : Plan) (f : Flat) (order : List ℕ) (r : ℕ) → flat_run P f (order ++ r ∷ []) ≡ flat_step P (flat_run P f order) r
run_longer P f [] r = refl
run_longer P f (q ∷ order) r = run_longer P (flat_step P f q) order r

and_true : (a b : Bool) → IsTrue a → IsTrue b → IsTrue (a && b)
and_true a b x y = grind arith

and_split : (a b : Bool) → IsTrue (a && b) → IsTrue a × IsTrue b
and_split a b x = (grind arith, grind arith)

legal_longer : (P : Plan) (f : Flat) (order : List ℕ) (r : ℕ) → IsTrue (is_legal P f order) → IsTrue (can_turn P r ((flat_run P f order).requests r)) → IsTrue (is_legal P f (order ++ r ∷ []))
legal_longer P f [] r x y = and_true (can_turn P r (f.requests r)) true y refl
legal_longer P f (q ∷ order) r x y =
    let t = and_split (can_turn P q (f.requests q)) (is_legal P (flat_step P f q) order) x in
    and_true (can_turn P q (f.requests q)) (is_legal P (flat_step P f q) (order ++ r ∷ [])) t.0 (legal_longer P (flat_step P f q) order r t.1 y)

-- The flat step of a request that can step.
step_is : (P : Plan) (n r i : ℕ) (f : Flat) (a : Progress) (c : CanStep P r n (f.requests r) a) → arrive P r a.cur ≡ Here i
    → flat_step P f r ≡ settled f r i a.cur c.count (P.iterate r i (f.regions i) a.cur a.pad)
step_is P n r i f a c here =
    ap (flat_turn P f r) c.ready
    ∙ ap (λ b. if b then flat_at P f r a.cur a.pad c.count (arrive P r a.cur) else f) (let d = c.below in let e : nat_lt c.count (limit P) ≡ true = grind (arith, d) in e)
    ∙ ap (flat_at P f r a.cur a.pad c.count) here

can_is : (P : Plan) (n r : ℕ) (f : FlatRequest) (a : Progress) → CanStep P r n f a → IsTrue (can_turn P r f)
can_is P n r f a c =
    let d : nat_lt c.count (limit P) ≡ true = let z = c.below in grind (arith, z) in
    let e : can_turn P r f ≡ true = ap (can_turn P r) c.ready ∙ ap (λ b. b && is_here (arrive P r a.cur)) d ∙ ap is_here c.here in
    subst IsTrue (sym e) refl

abbrev turned_node : Node → ℕ → ℕ → Slot → ℕ → List ℕ → Node
turned_node v r k x i bytes = record { slot = put_at v.slot r k x; bytes = put v.bytes i bytes }

turned_slots : (old : ℕ → Node) (n r k : ℕ) (x : Slot) (i : ℕ) (b : List ℕ) (m j : ℕ) → (put old n (turned_node (old n) r k x i b) m).slot r j ≡ put_at (λ m j. (old m).slot r j) n k x m j
turned_slots old n r k x i b m j = by_cases (nat_eq m n)
    (λ t. ap (λ (v : Node). v.slot r j) (put_here old n (turned_node (old n) r k x i b) m t) ∙ ap (λ (v : Node). v.slot r j) (sym (put_here old n (with_slot (old n) r k x) m t)) ∙ slot_started old n r k x m j)
    (λ t. ap (λ (v : Node). v.slot r j) (put_there old n (turned_node (old n) r k x i b) m t) ∙ ap (λ (v : Node). v.slot r j) (sym (put_there old n (with_slot (old n) r k x) m t)) ∙ slot_started old n r k x m j)

turned_others : (old : ℕ → Node) (n r k : ℕ) (x : Slot) (i : ℕ) (b : List ℕ) (q : ℕ) → q ≢ r → (m j : ℕ) → (put old n (turned_node (old n) r k x i b) m).slot q j ≡ (old m).slot q j
turned_others old n r k x i b q h m j = by_cases (nat_eq m n)
    (λ t. ap (λ (v : Node). v.slot q j) (put_here old n (turned_node (old n) r k x i b) m t) ∙ ap (λ (v : Node). v.slot q j) (sym (put_here old n (with_slot (old n) r k x) m t)) ∙ slot_others old n r k x q h m j)
    (λ t. ap (λ (v : Node). v.slot q j) (put_there old n (turned_node (old n) r k x i b) m t))

-- After a turn the nodes still hold the flat memory.
turned_bytes : (P : Plan) (old : ℕ → Node) (f : Flat) (n r k : ℕ) (x : Slot) (i : ℕ) (b : List ℕ) → P.owner i ≡ n → ((j : ℕ) → (old (P.owner j)).bytes j ≡ f.regions j)
    → (j : ℕ) → (put old n (turned_node (old n) r k x i b) (P.owner j)).bytes j ≡ put f.regions i b j
turned_bytes P old f n r k x i b own mem j = by_cases (nat_eq j i)
    (λ t. let e : j ≡ i = eqb-true j i t in
    let o : nat_eq (P.owner j) n ≡ true = ap (λ z. nat_eq (P.owner z) n) e ∙ ap (λ z. nat_eq z n) own ∙ same_number n in
    ap (λ (v : Node). v.bytes j) (put_here old n (turned_node (old n) r k x i b) (P.owner j) o) ∙ put_here (old n).bytes i b j t ∙ sym (put_here f.regions i b j t))
    (λ t. by_cases (nat_eq (P.owner j) n)
    (λ o. ap (λ (v : Node). v.bytes j) (put_here old n (turned_node (old n) r k x i b) (P.owner j) o) ∙ put_there (old n).bytes i b j t
    ∙ ap (λ z. (old z).bytes j) (sym (eqb-true (P.owner j) n o)) ∙ mem j ∙ sym (put_there f.regions i b j t))
    (λ o. ap (λ (v : Node). v.bytes j) (put_there old n (turned_node (old n) r k x i b) (P.owner j) o) ∙ mem j ∙ sym (put_there f.regions i b j t)))

turn_frames : (P : Plan) (r n k : ℕ) (s : Spine) (v : RequestView) (t : Turned) → Fits P r v s → v.slot n k ≡ turned_slot r k t → Each (λ m. FrameIn P r s m.frame) (turned_sends r k t)
turn_frames P r n k s v (Stays a) f e = tt
turn_frames P r n k s v (Ends a x) f e = ((refl, inl (kept_is P r n k v s (back_of r k a x) f e)), tt)

-- A turn of any live leg.
turn_keeps : (P : Plan) (start : Flat) (w : World) (n : ℕ) (new : Node) (r k : ℕ) (t : Turned) (s : IsSound P start w) → Iterates P n (w.nodes n) new r k t
    → IsSound P start (record w { nodes = put w.nodes n new; letters = w.letters ++ turned_sends r k t; order = w.order ++ r ∷ [] })
turn_keeps P start w n new r k t s e =
    let f = flat_run P start w.order in
    let a = e.now in
    let i = e.region in
    let on = on_this_node P n r a.cur i e.here in
    let same_bytes : (w.nodes n).bytes i ≡ f.regions i = ap (λ z. (w.nodes z).bytes i) (sym on.owner) ∙ s.memory i in
    let o = P.iterate r i (f.regions i) a.cur a.pad in
    let o0 = P.iterate r i ((w.nodes n).bytes i) a.cur a.pad in
    let same_o : o0 ≡ o = ap (λ b. P.iterate r i b a.cur a.pad) same_bytes in
    let tn = turns P r n k (view w f r) (s.spines r) a o (s.fits r) e.is_live in
    let c = tn.0 in
    let next = tn.1 in
    let step : flat_run P start (w.order ++ r ∷ []) ≡ settled f r i a.cur c.count o = run_longer P start w.order r ∙ step_is P n r i f a c (on_node_flat P n r a.cur i on) in
    let t_is : t ≡ turned P n r a o = e.left ∙ ap (turned P n r a) same_o in
    let b = new_bytes (f.regions i) o in
    let node : new ≡ turned_node (w.nodes n) r k (turned_slot r k t) i b = e.changes ∙ (λ j. turned_node (w.nodes n) r k (turned_slot r k t) i (new_bytes (same_bytes j) (same_o j))) in
    let v = record w { nodes = put w.nodes n (turned_node (w.nodes n) r k (turned_slot r k t) i b); letters = w.letters ++ turned_sends r k t; order = w.order ++ r ∷ [] } in
    let next2 : Follows P r (s.spines r) (view_turned (view w f r) r n k (flat_next a.cur c.count o) t) = subst (λ z. Follows P r (s.spines r) (view_turned (view w f r) r n k (flat_next a.cur c.count o) z)) (sym t_is) next in
    let same_view : view_turned (view w f r) r n k (flat_next a.cur c.count o) t ≡ view v (flat_run P start v.order) r =
    λ j. record {
      flat = (sym (ap (λ (g : Flat). g.requests r) step ∙ put_same f.requests r (flat_next a.cur c.count o))) j;
      slot = λ m h. sym (turned_slots w.nodes n r k (turned_slot r k t) i b m h) j;
      asking = w.asking r;
    } in
    let next3 = subst (Follows P r (s.spines r)) same_view next2 in
    let slot_put : (view v (flat_run P start v.order) r).slot n k ≡ turned_slot r k t =
    turned_slots w.nodes n r k (turned_slot r k t) i b n k ∙ (let q = same_number n in let p = same_number k in let z : put_at (λ m j. (w.nodes m).slot r j) n k (turned_slot r k t) n k ≡ turned_slot r k t = grind (arith, q, p) in z) in
    let sound : IsSound P start v = lifted P start w v r (turned_sends r k t) s
    (record { spine = next3.spine; fits = next3.fits; grows = next3.grows; sends = turn_frames P r n k next3.spine _ t next3.fits slot_put })
    (λ q h. λ j. record {
      flat = (ap (λ (g : Flat). g.requests q) step ∙ put_there f.requests r (flat_next a.cur c.count o) q (not_same q r h)) j;
      slot = λ m g. turned_others w.nodes n r k (turned_slot r k t) i b q h m g j;
      asking = w.asking q;
    })
    refl
    (λ j. turned_bytes P w.nodes f n r k (turned_slot r k t) i b on.owner s.memory j ∙ ap (λ (g : Flat). g.regions j) (sym step))
    (legal_longer P start w.order r s.legal (can_is P n r (f.requests r) a c)) in
    subst (λ (x : Node). IsSound P start (record w { nodes = put w.nodes n x; letters = w.letters ++ turned_sends r k t; order = w.order ++ r ∷ [] })) (sym node) sound

-- A delivery.
pub delivered_keeps : (P : Plan) (start : Flat) (w v : World) (to : To) (f : Frame) (s : IsSound P start w) → FrameFits P s.spines f → Delivered P w v to f → IsSound P start v
delivered_keeps P start w v ToSwitch f s h e = subst (IsSound P start) (sym e) (switch_keeps P start w f s h)
delivered_keeps P start w v (ToNode n) (AsLeg l) s h (new, a, e, d) = subst (IsSound P start) (sym d) (accept_keeps P start w n new l a s h e)
delivered_keeps P start w v (ToNode n) (AsBack b) s h e = subst (IsSound P start) (sym e) s
delivered_keeps P start w v ToClient (AsLeg l) s h e = subst (IsSound P start) (sym e) s
delivered_keeps P start w v ToClient (AsBack b) s h e = subst (IsSound P start) (sym e)
    (asking_changed P start w b.request _ _ s (hears_change P (view w (flat_run P start w.order) b.request) (s.spines b.request) b (s.fits b.request) h))

delivery_keeps : (P : Plan) (start : Flat) (w v : World) (k : ℕ) (m : Option Letter) (s : IsSound P start w) → slice_get w.letters k ≡ m → DeliveredAt P w v m → IsSound P start v
delivery_keeps P start w v k None s e d = subst (IsSound P start) (sym d) s
delivery_keeps P start w v k (Some m) s e d = delivered_keeps P start w v m.to m.frame s (each_get _ w.letters k m e s.letters) d

turn_at_keeps : (P : Plan) (start : Flat) (w v : World) (n : ℕ) (s : IsSound P start w) → TurnedAt P w v n → IsSound P start v
turn_at_keeps P start w v n s (inl e) = subst (IsSound P start) (sym e) s
turn_at_keeps P start w v n s (inr (new, r, k, t, e, d)) = subst (IsSound P start) (sym d) (turn_keeps P start w n new r k t s e)

-- Each event.
pub each_event_keeps : EachEventKeeps
each_event_keeps P tries start w v (Ask r) s e = subst (IsSound P start) (sym e) (asking_changed P start w r _ _ s (asks_change P r (view w (flat_run P start w.order) r) (s.spines r) (s.fits r)))
each_event_keeps P tries start w v (Tick r) s e = subst (IsSound P start) (sym e) (asking_changed P start w r _ _ s (ticks_change P tries r (view w (flat_run P start w.order) r) (s.spines r) (s.fits r)))
each_event_keeps P tries start w v (Resend r) s e =
    let v0 = view w (flat_run P start w.order) r in
    subst (IsSound P start) (sym e) (letters_added P start w r (resends (w.asking r)) s (resends_fit P r v0 (s.spines r) (w.asking r) refl (s.fits r)))
each_event_keeps P tries start w v (Deliver k) s e = delivery_keeps P start w v k (slice_get w.letters k) s refl e
each_event_keeps P tries start w v (TurnOf n) s e = turn_at_keeps P start w v n s e

-- Each run of events.
pub run_keeps : (P : Plan) (tries : ℕ) (start : Flat) (w v : World) (es : List Event) → IsSound P start w → RunsTo P tries w es v → IsSound P start v
run_keeps P tries start w v [] s e = subst (IsSound P start) (sym e) s
run_keeps P tries start w v (x ∷ es) s (u, e, r) = run_keeps P tries start u v es (each_event_keeps P tries start w u x s e) r
