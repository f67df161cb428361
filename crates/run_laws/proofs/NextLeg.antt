-- The turns after which there is a next leg, and all turns together.
use Rattle.std.proofs.Common.{◌≡◌, ◌≢◌, ℕ, suc, ◌+◌, ◌-◌, ◌*◌, ◌<◌, ◌≤◌, inl, inr, true, false, List, ◌∷◌, length, Option, Some, None, refl, sym, ap, ◌∙◌, subst, arith, nat_eq, if◌then◌else◌, eqb-true}
use Rattle.std.proofs.lemmas.Bool.{eqb-false}
use Rattle.run_laws.specs.Plan.{NotReadable, Progress, Leg, Reroute, Resume, Fault, Outcome, Finishes, Goes, Faults, Plan, Arrival, Here, Barred, Nowhere, arrival, arrive, owned, arrive_on}
use Rattle.run_laws.specs.Flat.{FlatRequest, Ready, Completed, flat_next, due}
use Rattle.run_laws.specs.Node.{Fresh, Running, Kept, put_at, Turned, Stays, Ends, came_to, goes_to, goes_on, turned, turned_slot}
use Rattle.run_laws.specs.Client.{Asking, NotAsked, Asked, Answered}
use Rattle.run_laws.specs.Spines.Spine.{Hop, Rerouted, Resumed, ByDone, ByFault, ByBar, ByLimit, Stand, Held, Waiting, Live, Ended, Spine, entry, head, leg_at, sent_leg, hop_back, past_slot, stand_slot, became, is_owner, starts_on, slot_of, resumes, count, ready_at, flat_stand, flat_of}
use Rattle.run_laws.specs.Spines.Fits.{Within, StandFits, AskingFits, RequestView, Fits}
use Rattle.run_laws.proofs.Follows.{Grows, Follows}
use Rattle.run_laws.proofs.LegNumbers.{at_head, below, leg_low, leg_past, slot_past, by_cases}
use Rattle.run_laws.proofs.Newest.{on_this_node, on_node_flat}
use Rattle.run_laws.proofs.Starts.{put_is, only_on}
use Rattle.run_laws.proofs.LiveLeg.{live, counted, CanStep, ready_begun, flat_is_begun, begun_now, live_not_held, living, owner_case, can_step, none_due, leg_stays}

-- A leg after a Reroute waits; one after a Resume is held.
abbrev next_stand : Hop → Stand
next_stand (Rerouted a) = Waiting
next_stand (Resumed a) = Held

next_fresh : (r k : ℕ) (h : Hop) → stand_slot r k (next_stand h) ≡ Fresh
next_fresh r k (Rerouted a) = refl
next_fresh r k (Resumed a) = refl

next_fits : (P : Plan) (r : ℕ) (h : Hop) (past : List Hop) → StandFits P r (h ∷ past) (next_stand h)
next_fits P r (Rerouted a) past = tt
next_fits P r (Resumed a) past = tt

hop_leg_others : (P : Plan) (r : ℕ) (h : Hop) (past : List Hop) (a : Progress) (m j : ℕ) → j ≢ length past → slot_of P r past (Live a) m j ≡ slot_of P r (h ∷ past) (next_stand h) m j
hop_leg_others P r h past a m j ne = by_cases (nat_eq j (suc (length past)))
    (λ q. let e : j ≡ suc (length past) = eqb-true j (suc (length past)) q in
    let none : leg_at P r past j ≡ None = leg_past P r past j (omega (arith, e)) in
    let left : slot_of P r past (Live a) m j ≡ Fresh = ap (λ o. if starts_on P m r o then became r past (Live a) j else Fresh) none in
    let st : became r (h ∷ past) (next_stand h) j ≡ Fresh = ap (λ t. if t then stand_slot r (suc (length past)) (next_stand h) else past_slot r (h ∷ past) j) q ∙ next_fresh r (suc (length past)) h in
    let right : slot_of P r (h ∷ past) (next_stand h) m j ≡ Fresh = by_cases (starts_on P m r (leg_at P r (h ∷ past) j)) (λ t. ap (λ b. if b then became r (h ∷ past) (next_stand h) j else Fresh) t ∙ st) (λ t. ap (λ b. if b then became r (h ∷ past) (next_stand h) j else Fresh) t) in
    left ∙ sym right)
    (λ q. let p : nat_eq j (length past) ≡ false = by_cases (nat_eq j (length past)) (λ t. absurd (ne (eqb-true j (length past) t))) (λ t. t) in
    let leg : leg_at P r (h ∷ past) j ≡ leg_at P r past j = below P r h past j (λ e. eqb-false j (suc (length past)) q e) in
    let st : became r past (Live a) j ≡ became r (h ∷ past) (next_stand h) j = grind (arith, p, q) in
    ap (λ t. if starts_on P m r (leg_at P r past j) then t else Fresh) st ∙ ap (λ o. if starts_on P m r o then became r (h ∷ past) (next_stand h) j else Fresh) (sym leg))

asking_next : (P : Plan) (r : ℕ) (past : List Hop) (a : Progress) (h : Hop) (g : Asking) → due P r (flat_of P r (living past a)) ≡ None → AskingFits P r (living past a) g → AskingFits P r (record { past = h ∷ past; stand = next_stand h }) g
asking_next P r past a h NotAsked d f = absurd (let c : Live a ≡ Held = ap (λ (s : Spine). s.stand) f in cc)
asking_next P r past a (Rerouted b) (Asked leg accepted ticks) d f = f
asking_next P r past a (Resumed b) (Asked leg accepted ticks) d f = f
asking_next P r past a h (Answered x) d (inl f) = inl f
asking_next P r past a h (Answered x) d (inr f) = absurd (let c : None ≡ Some x = sym d ∙ f in cc)

next_sent : (P : Plan) (r : ℕ) (past : List Hop) (h : Hop) (k : ℕ) (l : Leg) → leg_at P r past k ≡ Some l → sent_leg P r (h ∷ past) (next_stand h) k ≡ Some l
next_sent P r past (Rerouted b) k l e = let d = leg_low P r past k l e in below P r (Rerouted b) past k (omega (arith, d)) ∙ e
next_sent P r past (Resumed b) k l e = e

grows_next : (P : Plan) (r : ℕ) (past : List Hop) (a : Progress) (h : Hop) → Grows P r (living past a) (record { past = h ∷ past; stand = next_stand h })
grows_next P r past a h = record {
  legs = λ k l e. next_sent P r past h k l e;
  backs = λ k b e. by_cases (nat_eq k (length past))
      (λ q. absurd (let c : Running a ≡ Kept b = grind (arith, q, e) in cc))
      (λ q. let e2 : past_slot r past k ≡ Kept b = grind (arith, q, e) in
      let low : k ≢ suc (length past) = λ t. let c : Fresh ≡ Kept b = sym (slot_past r past k (omega (arith, t))) ∙ e2 in cc in
      let p : nat_eq k (suc (length past)) ≡ false = by_cases (nat_eq k (suc (length past))) (λ t. absurd (low (eqb-true k (suc (length past)) t))) (λ t. t) in
      grind (arith, p, q, e2));
}

hop_became : (r : ℕ) (h : Hop) (past : List Hop) (y : Stand) → became r (h ∷ past) y (length past) ≡ Kept (hop_back r (length past) h)
hop_became r h past y = grind arith

next_flat : (P : Plan) (r : ℕ) (h : Hop) (past : List Hop) → ready_at P (h ∷ past) (entry P r (h ∷ past)) ≡ flat_stand P r (h ∷ past) (next_stand h)
next_flat P r (Rerouted a) past = refl
next_flat P r (Resumed a) past = refl

-- A turn that ends the leg and gives the next one.
pub leg_follows : (P : Plan) (r n : ℕ) (v : RequestView) (past : List Hop) (a : Progress) (h : Hop) (flat : FlatRequest) → Fits P r v (living past a) → starts_on P n r (leg_at P r past (length past)) ≡ true
    → resumes (h ∷ past) < P.rounds → suc (length past) ≤ count P (h ∷ past) (entry P r (h ∷ past)).left → Within P (entry P r (h ∷ past)) → flat ≡ ready_at P (h ∷ past) (entry P r (h ∷ past))
    → Follows P r (living past a) (record { flat = flat; slot = put_at v.slot n (length past) (Kept (hop_back r (length past) h)); asking = v.asking })
leg_follows P r n v past a h flat f here few many within e =
    let l = f.spine.stands.1 in
    let c = can_step P r n v past a f here in
    let at_k : leg_at P r past (length past) ≡ Some (head P r past) = at_head P r past (length past) refl in
    let at_now : leg_at P r (h ∷ past) (length past) ≡ Some (head P r past) = below P r h past (length past) (λ t. omega (arith, t)) ∙ at_k in
    let here_now : starts_on P n r (leg_at P r (h ∷ past) (length past)) ≡ true = ap (starts_on P n r) at_now ∙ sym (ap (starts_on P n r) at_k) ∙ here in
    let h2 : is_owner P n (P.region r (entry P r past).cur) ≡ true = sym (ap (starts_on P n r) at_k) ∙ here in
    let owner = owner_case P n l.region _ l.began h2 in
    let d : due P r (flat_of P r (living past a)) ≡ None = ap (due P r) (sym f.flat) ∙ none_due P r n v.flat a c in
    record {
      spine = record { past = h ∷ past; stand = next_stand h };
      fits = record {
        spine = record { rounds = few; entered = within; many = many; ran = (f.spine.stands.0, f.spine.ran); stands = next_fits P r h past; begun = begun_now (P.first r) past (h ∷ past) (Live a) (next_stand h) (live_not_held a) f.spine.begun };
        flat = e ∙ next_flat P r h past ∙ flat_is_begun P r (P.first r) past (h ∷ past) (Live a) (next_stand h) (live_not_held a) f.spine.begun;
        slots = put_is P r n (length past) past (h ∷ past) (Live a) (next_stand h) v.slot (Kept (hop_back r (length past) h)) f.slots here_now
            (only_on P n r l.region _ (head P r past) at_now l.began owner) (only_on P n r l.region _ (head P r past) at_k l.began owner)
            (hop_became r h past (next_stand h))
            (λ m j ne. hop_leg_others P r h past a m j ne);
        asking = asking_next P r past a h v.asking d f.asking;
      };
      grows = grows_next P r past a h;
    }

barred_case : (P : Plan) (n : ℕ) (o : Option ℕ) → arrival P (owned P n o) ≡ Barred → arrival P o ≡ Barred
barred_case P n None e = absurd (cc)
barred_case P n (Some j) e = by_cases (nat_eq (P.owner j) n)
    (λ q. sym (ap (arrival P) (ap (λ t. if t then Some j else None) q)) ∙ e)
    (λ q. absurd (let c : Nowhere ≡ Barred = sym (ap (arrival P) (ap (λ t. if t then Some j else None) q)) ∙ e in cc))

pub is_barred : (P : Plan) (n r cur : ℕ) → arrive_on P n r cur ≡ Barred → arrive P r cur ≡ Barred
is_barred P n r cur e = barred_case P n (P.region r cur) e

resumed_count : (q b n : ℕ) → n ≡ q * b + (b - 0) → n ≡ suc q * b + (b - b)
resumed_count q b n e = omega (arith, e)

abbrev pub view_turned : RequestView → ℕ → ℕ → ℕ → FlatRequest → Turned → RequestView
view_turned v r n k flat t = record { flat = flat; slot = put_at v.slot n k (turned_slot r k t); asking = v.asking }

within_less : (P : Plan) (to : ℕ) (pad : List ℕ) (a : Progress) → Within P a → nat_eq (a.left - 1) 0 ≡ false → Within P (came_to to pad (a.left - 1))
within_less P to pad a w q =
    let ne : a.left - 1 ≢ 0 = eqb-false (a.left - 1) 0 q in
    record { some = omega (arith, ne); most = omega (arith, w.most) }

more_rerouted : (q b first left n : ℕ) → n ≤ q * b + (b - first) → left ≤ first → 1 ≤ left → left ≤ b → suc n ≤ q * b + (b - (left - 1))
more_rerouted q b first left n h e one most = omega (arith, h, e, one, most)

more_resumed : (q b first left n : ℕ) → n ≤ q * b + (b - first) → left ≤ first → 1 ≤ left → left ≤ b → suc n ≤ suc q * b + (b - b)
more_resumed q b first left n h e one most = omega (arith, h, e, one, most)

-- The turn for a spine that is spelled out, by outcome and arrival.
turns_from : (P : Plan) (r n : ℕ) (v : RequestView) (past : List Hop) (a : Progress) (o : Outcome) → Fits P r v (living past a) → starts_on P n r (leg_at P r past (length past)) ≡ true
    → Follows P r (living past a) (view_turned v r n (length past) (flat_next a.cur (count P past a.left) o) (turned P n r a o))
turns_from P r n v past a (Faults kind) f h = leg_stays P r n v past a (Ended (ByFault kind a)) _ f h (λ e. absurd (cc)) (f.spine.stands.0, tt) refl
turns_from P r n v past a (Finishes bytes pad) f h =
    let w = f.spine.stands.1.within in
    leg_stays P r n v past a (Ended (ByDone (came_to 0 pad (a.left - 1)))) _ f h (λ e. absurd (cc)) (f.spine.stands.0, tt)
    (ap (Completed pad) (counted (resumes past) P.budget a.left w.some w.most))
turns_from P r n v past a (Goes to bytes pad) f h =
    let l = f.spine.stands.1 in
    let w = l.within in
    let b = came_to to pad (a.left - 1) in
    let flat : Ready to pad (count P past a.left + 1) ≡ ready_at P past b = ap (Ready to pad) (counted (resumes past) P.budget a.left w.some w.most) in
    by_cases (nat_eq (a.left - 1) 0)
    (λ q. let t : turned P n r a (Goes to bytes pad) ≡ Ends b Resume = ap (λ x. goes_on b x (arrive_on P n r to)) q in
    let zero_left : a.left - 1 ≡ 0 = eqb-true (a.left - 1) 0 q in
    subst (λ T. Follows P r (living past a) (view_turned v r n (length past) (Ready to pad (count P past a.left + 1)) T)) (sym t)
    (by_cases (nat_eq (suc (resumes past)) P.rounds)
    (λ p. leg_stays P r n v past a (Ended (ByLimit b)) _ f h (λ e. absurd (cc)) (f.spine.stands.0, (zero_left, eqb-true (suc (resumes past)) P.rounds p)) flat)
    (λ p. let ne : suc (resumes past) ≢ P.rounds = eqb-false (suc (resumes past)) P.rounds p in
    leg_follows P r n v past a (Resumed b) _ f h (omega (arith, ne, f.spine.rounds)) (more_resumed (resumes past) P.budget (entry P r past).left a.left (length past) f.spine.many l.spent w.some w.most) (record { some = P.some_budget; most = omega arith })
    (ap (Ready to pad) (resumed_count (resumes past) P.budget _ (counted (resumes past) P.budget a.left w.some w.most ∙ ap (λ z. resumes past * P.budget + (P.budget - z)) zero_left))))))
    (λ q. by_arrival (arrive_on P n r to) refl q)
  where
    by_arrival : (x : Arrival) → arrive_on P n r to ≡ x → nat_eq (a.left - 1) 0 ≡ false → Follows P r (living past a) (view_turned v r n (length past) (flat_next a.cur (count P past a.left) (Goes to bytes pad)) (turned P n r a (Goes to bytes pad)))
    by_arrival (Here j) e q =
        let l = f.spine.stands.1 in
        let b = came_to to pad (a.left - 1) in
        let o = on_this_node P n r to j e in
        let at_k : leg_at P r past (length past) ≡ Some (head P r past) = at_head P r past (length past) refl in
        let h2 : is_owner P n (P.region r (entry P r past).cur) ≡ true = sym (ap (starts_on P n r) at_k) ∙ h in
        let t : turned P n r a (Goes to bytes pad) ≡ Stays b = ap (λ x. goes_on b x (arrive_on P n r to)) q ∙ ap (goes_to b) e in
        subst (λ T. Follows P r (living past a) (view_turned v r n (length past) (Ready to pad (count P past a.left + 1)) T)) (sym t)
        (leg_stays P r n v past a (Live b) _ f h (λ e. absurd (cc))
        (f.spine.stands.0, record { region = l.region; place = j; began = l.began; stands = on_node_flat P n r to j o; same = o.owner ∙ sym (owner_case P n l.region _ l.began h2); spent = let z = l.spent in omega (arith, z); within = within_less P to pad a l.within q })
        (ap (Ready to pad) (counted (resumes past) P.budget a.left l.within.some l.within.most)))
    by_arrival Barred e q =
        let l = f.spine.stands.1 in
        let b = came_to to pad (a.left - 1) in
        let t : turned P n r a (Goes to bytes pad) ≡ Ends b (Fault NotReadable) = ap (λ x. goes_on b x (arrive_on P n r to)) q ∙ ap (goes_to b) e in
        subst (λ T. Follows P r (living past a) (view_turned v r n (length past) (Ready to pad (count P past a.left + 1)) T)) (sym t)
        (leg_stays P r n v past a (Ended (ByBar b)) _ f h (λ e. absurd (cc))
        (f.spine.stands.0, (within_less P to pad a l.within q, is_barred P n r to e))
        (ap (Ready to pad) (counted (resumes past) P.budget a.left l.within.some l.within.most)))
    by_arrival Nowhere e q =
        let l = f.spine.stands.1 in
        let b = came_to to pad (a.left - 1) in
        let t : turned P n r a (Goes to bytes pad) ≡ Ends b Reroute = ap (λ x. goes_on b x (arrive_on P n r to)) q ∙ ap (goes_to b) e in
        subst (λ T. Follows P r (living past a) (view_turned v r n (length past) (Ready to pad (count P past a.left + 1)) T)) (sym t)
        (leg_follows P r n v past a (Rerouted b) _ f h f.spine.rounds (more_rerouted (resumes past) P.budget (entry P r past).left a.left (length past) f.spine.many l.spent l.within.some l.within.most) (within_less P to pad a l.within q)
        (ap (Ready to pad) (counted (resumes past) P.budget a.left l.within.some l.within.most)))

ready_count : (cur m n : ℕ) (pad : List ℕ) → Ready cur pad m ≡ Ready cur pad n → m ≡ n
ready_count cur m n pad e = cc

-- A turn of any live leg.
pub turns : (P : Plan) (r n k : ℕ) (v : RequestView) (s : Spine) (a : Progress) (o : Outcome) → Fits P r v s → v.slot n k ≡ Running a
    → (c : CanStep P r n v.flat a) × Follows P r s (view_turned v r n k (flat_next a.cur c.count o) (turned P n r a o))
turns P r n k v s a o f e =
    let w = live P r n k v s a f e in
    let same : s ≡ living s.past a = λ j. record { past = s.past; stand = w.stand j } in
    let g : Fits P r v (living s.past a) = subst (Fits P r v) same f in
    let here : starts_on P n r (leg_at P r s.past (length s.past)) ≡ true = subst (λ (j : ℕ). starts_on P n r (leg_at P r s.past j) ≡ true) w.number w.here in
    let n0 = turns_from P r n v s.past a o g here in
    let n1 = subst (λ t. Follows P r t (view_turned v r n (length s.past) (flat_next a.cur (count P s.past a.left) o) (turned P n r a o))) (sym same) n0 in
    let c = can_step P r n v s.past a g here in
    let known : v.flat ≡ Ready a.cur a.pad (count P s.past a.left) = ready_begun P r (P.first r) s.past (Live a) v.flat (live_not_held a) g.spine.begun g.flat in
    let counts : count P s.past a.left ≡ c.count = ready_count a.cur _ c.count a.pad (sym known ∙ c.ready) in
    let n2 = subst (λ (j : ℕ). Follows P r s (view_turned v r n j (flat_next a.cur (count P s.past a.left) o) (turned P n r a o))) (sym w.number) n1 in
    (c, subst (λ (m : ℕ). Follows P r s (view_turned v r n k (flat_next a.cur m o) (turned P n r a o))) counts n2)
