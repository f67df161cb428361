-- A live leg is the newest of its request, whose flat request can step; and the turns after which it stays the newest.
use Rattle.std.proofs.Common.{◌≡◌, ◌≢◌, ℕ, ◌+◌, ◌-◌, ◌*◌, ◌<◌, ◌≤◌, inl, inr, true, false, List, [], ◌∷◌, length, Option, Some, None, refl, sym, ap, ◌∙◌, arith, nat_eq, if◌then◌else◌, eqb-true}
use Rattle.std.proofs.Math.Nat.{mul-le-mul_right}
use Rattle.run_laws.specs.Plan.{Progress, Leg, Begun, Begins, Finished, Faulted, Plan, limit, Here, arrive}
use Rattle.run_laws.specs.Flat.{FlatRequest, Ready, Spent, due_at, due}
use Rattle.run_laws.specs.Node.{Fresh, Running, Kept, put_at}
use Rattle.run_laws.specs.Client.{Asking, NotAsked, Asked, Answered}
use Rattle.run_laws.specs.Spines.Spine.{Hop, Stand, Held, Waiting, Live, Ended, Spine, entry, head, leg_at, sent_leg, hop_back, past_slot, stand_slot, became, is_owner, starts_on, slot_of, resumes, count, flat_stand, flat_begun, flat_of}
use Rattle.run_laws.specs.Spines.Fits.{StandFits, BegunFits, AskingFits, RequestView, Fits}
use Rattle.run_laws.proofs.Follows.{Grows, Follows}
use Rattle.run_laws.proofs.LegNumbers.{at_head, by_cases, became_head}
use Rattle.run_laws.proofs.Starts.{put_is, only_on, stand_others}

past_not_running : (r : ℕ) (past : List Hop) (k : ℕ) (a : Progress) → past_slot r past k ≡ Running a → ⊥
past_not_running r [] k a e = cc
past_not_running r (h ∷ past) k a e = by_cases (nat_eq k (length past))
    (λ q. let c : Kept (hop_back r (length past) h) ≡ Running a = grind (arith, q, e) in cc)
    (λ q. past_not_running r past k a (grind (arith, q, e)))

stand_running : (r k : ℕ) (x : Stand) (a : Progress) → stand_slot r k x ≡ Running a → x ≡ Live a
stand_running r k Held a e = absurd (cc)
stand_running r k Waiting a e = absurd (cc)
stand_running r k (Live b) a e = let c : b ≡ a = cc in ap Live c
stand_running r k (Ended l) a e = absurd (cc)

pub record IsLive (P : Plan) (r n k : ℕ) (s : Spine) (a : Progress) : Type 0 where
  pub stand : s.stand ≡ Live a
  pub number : k ≡ length s.past
  pub here : starts_on P n r (leg_at P r s.past k) ≡ true

-- A slot that runs is the newest leg of its request.
pub live : (P : Plan) (r n k : ℕ) (v : RequestView) (s : Spine) (a : Progress) → Fits P r v s → v.slot n k ≡ Running a → IsLive P r n k s a
live P r n k v s a f e =
    let e2 : slot_of P r s.past s.stand n k ≡ Running a = sym (f.slots n k) ∙ e in
    by_cases (starts_on P n r (leg_at P r s.past k))
    (λ h. let e3 : became r s.past s.stand k ≡ Running a = sym (ap (λ t. if t then became r s.past s.stand k else Fresh) h) ∙ e2 in
    by_cases (nat_eq k (length s.past))
    (λ q. record { stand = stand_running r (length s.past) s.stand a (sym (ap (λ t. if t then stand_slot r (length s.past) s.stand else past_slot r s.past k) q) ∙ e3); number = eqb-true k (length s.past) q; here = h })
    (λ q. absurd (past_not_running r s.past k a (sym (ap (λ t. if t then stand_slot r (length s.past) s.stand else past_slot r s.past k) q) ∙ e3))))
    (λ h. absurd (let c : Fresh ≡ Running a = sym (ap (λ t. if t then became r s.past s.stand k else Fresh) h) ∙ e2 in cc))

pub below_limit : (q b n left : ℕ) → q < n → 1 ≤ left → left ≤ b → q * b + (b - left) < n * b
below_limit q b n left h one most =
    let d : (q + 1) * b ≤ n * b = mul-le-mul_right b (omega (arith, h)) in
    omega (arith, d, one, most)

-- One iteration more is counted.
pub counted : (q b left : ℕ) → 1 ≤ left → left ≤ b → q * b + (b - left) + 1 ≡ q * b + (b - (left - 1))
counted q b left one most = omega (arith, one, most)

-- the flat request of a live leg can step, on a region of its node
pub record CanStep (P : Plan) (r n : ℕ) (f : FlatRequest) (a : Progress) : Type 0 where
  pub count : ℕ
  pub ready : f ≡ Ready a.cur a.pad count
  pub below : count < limit P
  pub region : ℕ
  pub here : arrive P r a.cur ≡ Here region
  pub owner : P.owner region ≡ n

pub ready_begun : (P : Plan) (r : ℕ) (g : Begun) (past : List Hop) (x : Stand) (f : FlatRequest) → x ≢ Held → BegunFits g (record { past = past; stand = x }) → f ≡ flat_begun g (flat_stand P r past x) → f ≡ flat_stand P r past x
ready_begun P r (Begins c p) past x f h g e = e
ready_begun P r (Finished p) past x f h g e = absurd (h (ap (λ (s : Spine). s.stand) g))
ready_begun P r Faulted past x f h g e = absurd (h (ap (λ (s : Spine). s.stand) g))

pub flat_is_begun : (P : Plan) (r : ℕ) (g : Begun) (past later : List Hop) (x y : Stand) → x ≢ Held → BegunFits g (record { past = past; stand = x }) → flat_stand P r later y ≡ flat_begun g (flat_stand P r later y)
flat_is_begun P r (Begins c p) past later x y h g = refl
flat_is_begun P r (Finished p) past later x y h g = absurd (h (ap (λ (s : Spine). s.stand) g))
flat_is_begun P r Faulted past later x y h g = absurd (h (ap (λ (s : Spine). s.stand) g))

pub begun_now : (g : Begun) (past later : List Hop) (x y : Stand) → x ≢ Held → BegunFits g (record { past = past; stand = x }) → BegunFits g (record { past = later; stand = y })
begun_now (Begins c p) past later x y h g = tt
begun_now (Finished p) past later x y h g = absurd (h (ap (λ (s : Spine). s.stand) g))
begun_now Faulted past later x y h g = absurd (h (ap (λ (s : Spine). s.stand) g))

pub live_not_held : (a : Progress) → Live a ≢ Held
live_not_held a e = cc

abbrev pub living : List Hop → Progress → Spine
living past a = record { past = past; stand = Live a }

pub owner_case : (P : Plan) (n i : ℕ) (o : Option ℕ) → o ≡ Some i → is_owner P n o ≡ true → P.owner i ≡ n
owner_case P n i o e h = eqb-true (P.owner i) n (sym (ap (is_owner P n) e) ∙ h)

pub can_step : (P : Plan) (r n : ℕ) (v : RequestView) (past : List Hop) (a : Progress) → Fits P r v (living past a) → starts_on P n r (leg_at P r past (length past)) ≡ true → CanStep P r n v.flat a
can_step P r n v past a f h =
    let l = f.spine.stands.1 in
    let h2 : is_owner P n (P.region r (entry P r past).cur) ≡ true = sym (ap (starts_on P n r) (at_head P r past (length past) refl)) ∙ h in
    record {
      count = count P past a.left;
      ready = ready_begun P r (P.first r) past (Live a) v.flat (live_not_held a) f.spine.begun f.flat;
      below = below_limit (resumes past) P.budget P.rounds a.left f.spine.rounds l.within.some l.within.most;
      region = l.place;
      here = l.stands;
      owner = l.same ∙ owner_case P n l.region _ l.began h2;
    }

-- No answer is due of a request that can step.
pub none_due : (P : Plan) (r n : ℕ) (f : FlatRequest) (a : Progress) → CanStep P r n f a → due P r f ≡ None
none_due P r n f a c =
    let ne : nat_eq c.count (limit P) ≡ false = grind (arith, c.below) in
    ap (due P r) c.ready ∙ ap (λ t. if t then Some (Spent c.count) else due_at a.cur c.count (arrive P r a.cur)) ne ∙ ap (due_at a.cur c.count) c.here

asking_in : (P : Plan) (r : ℕ) (past : List Hop) (a : Progress) (y : Stand) (g : Asking) → y ≢ Held → due P r (flat_of P r (living past a)) ≡ None → AskingFits P r (living past a) g → AskingFits P r (record { past = past; stand = y }) g
asking_in P r past a y NotAsked h d f = absurd (let c : Live a ≡ Held = ap (λ (s : Spine). s.stand) f in cc)
asking_in P r past a Held (Asked leg accepted ticks) h d f = absurd (h refl)
asking_in P r past a Waiting (Asked leg accepted ticks) h d f = f
asking_in P r past a (Live b) (Asked leg accepted ticks) h d f = f
asking_in P r past a (Ended e) (Asked leg accepted ticks) h d f = f
asking_in P r past a y (Answered x) h d (inl f) = inl f
asking_in P r past a y (Answered x) h d (inr f) = absurd (let c : None ≡ Some x = sym d ∙ f in cc)

grows_in : (P : Plan) (r : ℕ) (past : List Hop) (a : Progress) (y : Stand) → y ≢ Held → Grows P r (living past a) (record { past = past; stand = y })
grows_in P r past a y h = record { legs = λ k l e. shown_in y h k l e; backs = λ k b e. by_cases (nat_eq k (length past)) (λ q. absurd (let c : Running a ≡ Kept b = grind (arith, q, e) in cc)) (λ q. grind (arith, q, e)) }
  where
    shown_in : (y : Stand) → y ≢ Held → (k : ℕ) (l : Leg) → leg_at P r past k ≡ Some l → sent_leg P r past y k ≡ Some l
    shown_in Held h k l e = absurd (h refl)
    shown_in Waiting h k l e = e
    shown_in (Live b) h k l e = e
    shown_in (Ended x) h k l e = e

-- A turn after which the leg is still the newest, live or ended.
pub leg_stays : (P : Plan) (r n : ℕ) (v : RequestView) (past : List Hop) (a : Progress) (y : Stand) (flat : FlatRequest) → Fits P r v (living past a) → starts_on P n r (leg_at P r past (length past)) ≡ true
    → y ≢ Held → StandFits P r past y → flat ≡ flat_stand P r past y
    → Follows P r (living past a) (record { flat = flat; slot = put_at v.slot n (length past) (stand_slot r (length past) y); asking = v.asking })
leg_stays P r n v past a y flat f h held s e =
    let l = f.spine.stands.1 in
    let c = can_step P r n v past a f h in
    let at_k : leg_at P r past (length past) ≡ Some (head P r past) = at_head P r past (length past) refl in
    let h2 : is_owner P n (P.region r (entry P r past).cur) ≡ true = sym (ap (starts_on P n r) at_k) ∙ h in
    let d : due P r (flat_of P r (living past a)) ≡ None = ap (due P r) (sym f.flat) ∙ none_due P r n v.flat a c in
    let only = only_on P n r l.region _ (head P r past) at_k l.began (owner_case P n l.region _ l.began h2) in
    record {
      spine = record { past = past; stand = y };
      fits = record {
        spine = record { rounds = f.spine.rounds; entered = f.spine.entered; many = f.spine.many; ran = f.spine.ran; stands = s; begun = begun_now (P.first r) past past (Live a) y (live_not_held a) f.spine.begun };
        flat = e ∙ flat_is_begun P r (P.first r) past past (Live a) y (live_not_held a) f.spine.begun;
        slots = put_is P r n (length past) past past (Live a) y v.slot (stand_slot r (length past) y) f.slots h only only (became_head r past y (length past) refl)
            (λ m j ne. stand_others P r past (Live a) y (length past) m j refl ne);
        asking = asking_in P r past a y v.asking held d f.asking;
      };
      grows = grows_in P r past a y held;
    }
