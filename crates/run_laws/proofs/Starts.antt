-- A node starts a leg: the newest leg of a spine becomes live.
use Rattle.std.proofs.Common.{◌≡◌, ◌≢◌, ℕ, true, false, List, length, Option, Some, refl, sym, ap, ◌∙◌, subst, arith, nat_eq, if◌then◌else◌, eqb-true}
use Rattle.std.proofs.lemmas.Bool.{eqb-false}
use Rattle.run_laws.specs.Plan.{Progress, Leg, Begun, Begins, Finished, Faulted, Plan, arrive}
use Rattle.run_laws.specs.Node.{Slot, Fresh, Running, Kept, put_at}
use Rattle.run_laws.specs.Client.{Asking, NotAsked, Asked, Answered}
use Rattle.run_laws.specs.Spines.Spine.{Hop, Stand, Held, Waiting, Live, Spine, fresh, entry, head, leg_at, sent_leg, became, is_owner, starts_on, slot_of}
use Rattle.run_laws.specs.Spines.Fits.{IsHere, Within, LiveFits, BegunFits, AskingFits, RequestView, Fits}
use Rattle.run_laws.proofs.Follows.{Follows}
use Rattle.run_laws.proofs.LegNumbers.{at_head, by_cases, became_head}
use Rattle.run_laws.proofs.Newest.{OnNode, on_node_flat, on_node_starts, is_newest}

pub begun_same : (g : Begun) (past : List Hop) (x y : Stand) → x ≢ Held → BegunFits g (record { past = past; stand = x }) → BegunFits g (record { past = past; stand = y })
begun_same (Begins c p) past x y h f = tt
begun_same (Finished p) past x y h f = absurd (h (ap (λ (s : Spine). s.stand) f))
begun_same Faulted past x y h f = absurd (h (ap (λ (s : Spine). s.stand) f))

-- A slot that is put is what the new spine says, where the leg starts on that node alone and no other leg changed.
pub put_is : (P : Plan) (r n k : ℕ) (past later : List Hop) (x y : Stand) (slot : ℕ → ℕ → Slot) (z : Slot)
    → ((m j : ℕ) → slot m j ≡ slot_of P r past x m j)
    → starts_on P n r (leg_at P r later k) ≡ true
    → ((m : ℕ) → m ≢ n → starts_on P m r (leg_at P r later k) ≡ false)
    → ((m : ℕ) → m ≢ n → starts_on P m r (leg_at P r past k) ≡ false)
    → became r later y k ≡ z
    → ((m j : ℕ) → j ≢ k → slot_of P r past x m j ≡ slot_of P r later y m j)
    → (m j : ℕ) → put_at slot n k z m j ≡ slot_of P r later y m j
put_is P r n k past later x y slot z f here only was st others m j = by_cases (nat_eq j k)
    (λ q. by_cases (nat_eq m n)
    (λ p. let a : j ≡ k = eqb-true j k q in let b : m ≡ n = eqb-true m n p in
    let g : put_at slot n k z m j ≡ z = grind (arith, q, p) in
    let d : slot_of P r later y n k ≡ z = ap (λ t. if t then became r later y k else Fresh) here ∙ st in
    g ∙ sym d ∙ λ i. slot_of P r later y (sym b i) (sym a i))
    (λ p. let a : j ≡ k = eqb-true j k q in
    let g : put_at slot n k z m j ≡ slot m j = grind (arith, q, p) in
    let ne : m ≢ n = λ e. eqb-false m n p e in
    let d : slot_of P r later y m k ≡ Fresh = ap (λ t. if t then became r later y k else Fresh) (only m ne) in
    let c : slot_of P r past x m k ≡ Fresh = ap (λ t. if t then became r past x k else Fresh) (was m ne) in
    g ∙ f m j ∙ (λ i. slot_of P r past x m (a i)) ∙ c ∙ sym d ∙ (λ i. slot_of P r later y m (sym a i))))
    (λ q. let g : put_at slot n k z m j ≡ slot m j = grind (arith, q) in
    g ∙ f m j ∙ others m j (λ e. eqb-false j k q e))

-- The leg starts on no other node.
pub only_on : (P : Plan) (n r i : ℕ) (o : Option Leg) (l : Leg) → o ≡ Some l → P.region r l.now.cur ≡ Some i → P.owner i ≡ n → (m : ℕ) → m ≢ n → starts_on P m r o ≡ false
only_on P n r i o l e g h m ne =
    ap (starts_on P m r) e ∙ ap (is_owner P m) g ∙ by_cases (nat_eq (P.owner i) m) (λ q. absurd (ne (sym (eqb-true (P.owner i) m q) ∙ h))) (λ q. q)

pub stand_others : (P : Plan) (r : ℕ) (past : List Hop) (x y : Stand) (k m j : ℕ) → k ≡ length past → j ≢ k → slot_of P r past x m j ≡ slot_of P r past y m j
stand_others P r past x y k m j e ne =
    let q : nat_eq j (length past) ≡ false = grind (arith, e, ne) in
    let d : became r past x j ≡ became r past y j = grind (arith, q) in
    ap (λ t. if starts_on P m r (leg_at P r past j) then t else Fresh) d

asking_started : (P : Plan) (r : ℕ) (past : List Hop) (a : Asking) → AskingFits P r (record { past = past; stand = Waiting }) a → AskingFits P r (record { past = past; stand = Live (entry P r past) }) a
asking_started P r past NotAsked f = absurd (let c : Waiting ≡ Held = ap (λ (s : Spine). s.stand) f in cc)
asking_started P r past (Asked leg accepted ticks) f = f
asking_started P r past (Answered a) f = f

live_fits : (P : Plan) (r n i : ℕ) (past : List Hop) → OnNode P n r (entry P r past).cur i → Within P (entry P r past) → IsHere (arrive P r (entry P r past).cur) × LiveFits P r past (entry P r past)
live_fits P r n i past o w =
    let here = on_node_flat P n r (entry P r past).cur i o in
    (subst IsHere (sym here) tt, record { region = i; place = i; began = o.region; stands = here; same = refl; spent = omega arith; within = w })

-- The step for a spine that is spelled out.
started_from : (P : Plan) (r n i : ℕ) (v : RequestView) (past : List Hop) → Fits P r v (record { past = past; stand = Waiting }) → OnNode P n r (entry P r past).cur i
    → Follows P r (record { past = past; stand = Waiting }) (record v { slot = put_at v.slot n (length past) (Running (entry P r past)) })
started_from P r n i v past f o =
    let at_k : leg_at P r past (length past) ≡ Some (head P r past) = at_head P r past (length past) refl in
    record {
      spine = record { past = past; stand = Live (entry P r past) };
      fits = record {
        spine = record {
          rounds = f.spine.rounds;
          entered = f.spine.entered;
          many = f.spine.many;
          ran = f.spine.ran;
          stands = live_fits P r n i past o f.spine.entered;
          begun = begun_same (P.first r) past Waiting (Live (entry P r past)) (λ e. absurd (cc)) f.spine.begun;
        };
        flat = f.flat;
        slots = put_is P r n (length past) past past Waiting (Live (entry P r past)) v.slot (Running (entry P r past)) f.slots
            (ap (starts_on P n r) at_k ∙ on_node_starts P n r i (head P r past) o)
            (only_on P n r i _ (head P r past) at_k o.region o.owner) (only_on P n r i _ (head P r past) at_k o.region o.owner)
            (became_head r past (Live (entry P r past)) (length past) refl)
            (λ m j ne. stand_others P r past Waiting (Live (entry P r past)) (length past) m j refl ne);
        asking = asking_started P r past v.asking f.asking;
      };
      grows = record { legs = λ k l e. e; backs = λ k b e. by_cases (nat_eq k (length past)) (λ q. absurd (let c : Fresh ≡ Kept b = grind (arith, q, e) in cc)) (λ q. grind (arith, q, e)) };
    }

pub started : (P : Plan) (r n i : ℕ) (v : RequestView) (s : Spine) (l : Leg) → Fits P r v s → sent_leg P r s.past s.stand l.number ≡ Some l → v.slot n l.number ≡ Fresh
    → OnNode P n r l.now.cur i → Follows P r s (record v { slot = put_at v.slot n l.number (Running l.now) })
started P r n i v s l f e fresh o =
    let w = is_newest P r n i v s l f e fresh o in
    let same : s ≡ record { past = s.past; stand = Waiting } = λ j. record { past = s.past; stand = w.stand j } in
    let place : l.now ≡ entry P r s.past = ap (λ (x : Leg). x.now) w.leg in
    let number : l.number ≡ length s.past = w.number in
    let n0 = started_from P r n i v s.past (subst (Fits P r v) same f) (subst (λ (a : Progress). OnNode P n r a.cur i) place o) in
    let n1 : Follows P r s (record v { slot = put_at v.slot n (length s.past) (Running (entry P r s.past)) }) = subst (λ t. Follows P r t (record v { slot = put_at v.slot n (length s.past) (Running (entry P r s.past)) })) (sym same) n0 in
    subst (λ (x : Leg). Follows P r s (record v { slot = put_at v.slot n x.number (Running x.now) })) (sym w.leg) n1
