-- What a node keeps is what the spine says, and a Reroute that may be among the letters names the next leg.
use Rattle.std.proofs.Common.{◌≡◌, ℕ, suc, inl, inr, List, [], ◌∷◌, length, Some, refl, sym, ap, ◌∙◌, arith, nat_eq, if◌then◌else◌, eqb-true}
use Rattle.std.proofs.lemmas.Bool.{eqb-false}
use Rattle.run_laws.specs.Plan.{Unmapped, NotReadable, Leg, Done, Reroute, Resume, Fault, Back, back_of, Plan, Arrival, Here, Barred, Nowhere, arrive}
use Rattle.run_laws.specs.Node.{Fresh, Kept}
use Rattle.run_laws.specs.World.{rerouted_leg}
use Rattle.run_laws.specs.Spines.Spine.{Hop, Rerouted, Resumed, Final, ByDone, ByFault, ByBar, ByLimit, Stand, Held, Waiting, Live, Ended, Spine, leg_at, older_at, sent_leg, hop_back, final_back, past_slot, stand_slot, became, starts_on, slot_of}
use Rattle.run_laws.specs.Spines.Fits.{HeldFits, StandFits, IsSpine, blocked, early, BackFits, RequestView, Fits}
use Rattle.run_laws.proofs.LegNumbers.{at_head, below, by_cases}

-- What a node keeps is the back of the leg.
pub kept_is : (P : Plan) (r n k : ℕ) (v : RequestView) (s : Spine) (b : Back) → Fits P r v s → v.slot n k ≡ Kept b → became r s.past s.stand k ≡ Kept b
kept_is P r n k v s b f e =
    let e2 : slot_of P r s.past s.stand n k ≡ Kept b = sym (f.slots n k) ∙ e in
    by_cases (starts_on P n r (leg_at P r s.past k))
    (λ h. sym (ap (λ t. if t then became r s.past s.stand k else Fresh) h) ∙ e2)
    (λ h. absurd (let c : Fresh ≡ Kept b = sym (ap (λ t. if t then became r s.past s.stand k else Fresh) h) ∙ e2 in cc))

past_back : (r : ℕ) (past : List Hop) (k : ℕ) (b : Back) → past_slot r past k ≡ Kept b → (b.number ≡ k) × (b.request ≡ r)
past_back r [] k b e = absurd (cc)
past_back r (h ∷ past) k b e = by_cases (nat_eq k (length past))
    (λ q. let c : hop_back r (length past) h ≡ b = grind (arith, q, e) in
    let d : k ≡ length past = eqb-true k (length past) q in
    (ap (λ (x : Back). x.number) (sym c) ∙ hop_number r (length past) h ∙ sym d, ap (λ (x : Back). x.request) (sym c) ∙ hop_request r (length past) h))
    (λ q. past_back r past k b (grind (arith, q, e)))
  where
    hop_number : (r k : ℕ) (h : Hop) → (hop_back r k h).number ≡ k
    hop_number r k (Rerouted a) = refl
    hop_number r k (Resumed a) = refl

    hop_request : (r k : ℕ) (h : Hop) → (hop_back r k h).request ≡ r
    hop_request r k (Rerouted a) = refl
    hop_request r k (Resumed a) = refl

final_number : (r k : ℕ) (x : Final) → ((final_back r k x).number ≡ k) × ((final_back r k x).request ≡ r)
final_number r k (ByDone a) = (refl, refl)
final_number r k (ByFault i a) = (refl, refl)
final_number r k (ByBar a) = (refl, refl)
final_number r k (ByLimit a) = (refl, refl)

stand_back : (r k : ℕ) (x : Stand) (b : Back) → stand_slot r k x ≡ Kept b → (b.number ≡ k) × (b.request ≡ r)
stand_back r k Held b e = absurd (cc)
stand_back r k Waiting b e = absurd (cc)
stand_back r k (Live a) b e = absurd (cc)
stand_back r k (Ended x) b e = let c : final_back r k x ≡ b = cc in let l = final_number r k x in (ap (λ (x : Back). x.number) (sym c) ∙ l.0, ap (λ (x : Back). x.request) (sym c) ∙ l.1)

-- A back that is kept has the number and the request of its leg.
pub back_number : (r : ℕ) (past : List Hop) (x : Stand) (k : ℕ) (b : Back) → became r past x k ≡ Kept b → (b.number ≡ k) × (b.request ≡ r)
back_number r past x k b e = by_cases (nat_eq k (length past))
    (λ q. let c = stand_back r (length past) x b (grind (arith, q, e)) in (c.0 ∙ sym (eqb-true k (length past) q), c.1))
    (λ q. past_back r past k b (grind (arith, q, e)))

past_reroute : (P : Plan) (r : ℕ) (past : List Hop) (k : ℕ) (b : Back) → past_slot r past k ≡ Kept b → b.ending ≡ Reroute → leg_at P r past (suc k) ≡ Some (rerouted_leg b)
past_reroute P r [] k b e f = absurd (cc)
past_reroute P r (Rerouted a ∷ past) k b e f = by_cases (nat_eq k (length past))
    (λ q. let c : back_of r (length past) a Reroute ≡ b = grind (arith, q, e) in
    let d : suc k ≡ suc (length past) = ap suc (eqb-true k (length past) q) in
    at_head P r (Rerouted a ∷ past) (suc k) d ∙ ap (λ (x : Back). Some (rerouted_leg x)) c)
    (λ q. let e2 : past_slot r past k ≡ Kept b = grind (arith, q, e) in
    below P r (Rerouted a) past (suc k) (λ t. eqb-false k (length past) q (omega (arith, t))) ∙ past_reroute P r past k b e2 f)
past_reroute P r (Resumed a ∷ past) k b e f = by_cases (nat_eq k (length past))
    (λ q. absurd (let c : back_of r (length past) a Resume ≡ b = grind (arith, q, e) in
    let d : Resume ≡ Reroute = ap (λ (x : Back). x.ending) c ∙ f in cc))
    (λ q. let e2 : past_slot r past k ≡ Kept b = grind (arith, q, e) in
    below P r (Resumed a) past (suc k) (λ t. eqb-false k (length past) q (omega (arith, t))) ∙ past_reroute P r past k b e2 f)

stand_reroute : (r k : ℕ) (x : Stand) (b : Back) → stand_slot r k x ≡ Kept b → b.ending ≡ Reroute → ⊥
stand_reroute r k Held b e f = cc
stand_reroute r k Waiting b e f = cc
stand_reroute r k (Live a) b e f = cc
stand_reroute r k (Ended (ByDone a)) b e f = let c : Done ≡ Reroute = ap (λ (x : Back). x.ending) (let d : back_of r k a Done ≡ b = cc in d) ∙ f in cc
stand_reroute r k (Ended (ByFault i a)) b e f = let c : Fault i ≡ Reroute = ap (λ (x : Back). x.ending) (let d : back_of r k a (Fault i) ≡ b = cc in d) ∙ f in cc
stand_reroute r k (Ended (ByBar a)) b e f = let c : Fault NotReadable ≡ Reroute = ap (λ (x : Back). x.ending) (let d : back_of r k a (Fault NotReadable) ≡ b = cc in d) ∙ f in cc
stand_reroute r k (Ended (ByLimit a)) b e f = let c : Resume ≡ Reroute = ap (λ (x : Back). x.ending) (let d : back_of r k a Resume ≡ b = cc in d) ∙ f in cc

held_reroute : (P : Plan) (r : ℕ) (past : List Hop) (k : ℕ) (b : Back) → HeldFits past → past_slot r past k ≡ Kept b → b.ending ≡ Reroute → older_at P r past (suc k) ≡ Some (rerouted_leg b)
held_reroute P r [] k b h e f = absurd (cc)
held_reroute P r (Rerouted a ∷ past) k b h e f = absurd h
held_reroute P r (Resumed a ∷ past) k b h e f = by_cases (nat_eq k (length past))
    (λ q. absurd (let c : back_of r (length past) a Resume ≡ b = grind (arith, q, e) in
    let d : Resume ≡ Reroute = ap (λ (x : Back). x.ending) c ∙ f in cc))
    (λ q. past_reroute P r past k b (grind (arith, q, e)) f)

reroute_sent : (P : Plan) (r : ℕ) (past : List Hop) (x : Stand) (k : ℕ) (b : Back) → StandFits P r past x → past_slot r past k ≡ Kept b → b.ending ≡ Reroute → sent_leg P r past x (suc k) ≡ Some (rerouted_leg b)
reroute_sent P r past Held k b h e f = held_reroute P r past k b h e f
reroute_sent P r past Waiting k b h e f = past_reroute P r past k b e f
reroute_sent P r past (Live a) k b h e f = past_reroute P r past k b e f
reroute_sent P r past (Ended y) k b h e f = past_reroute P r past k b e f

blocked_not_reroute : (l : Leg) (x : Arrival) (b : Back) → blocked l x ≡ Some b → b.ending ≡ Reroute → ⊥
blocked_not_reroute l (Here i) b e f = cc
blocked_not_reroute l Barred b e f = let d : back_of l.request l.number l.now (Fault NotReadable) ≡ b = cc in let c : Fault NotReadable ≡ Reroute = ap (λ (x : Back). x.ending) d ∙ f in cc
blocked_not_reroute l Nowhere b e f = let d : back_of l.request l.number l.now (Fault Unmapped) ≡ b = cc in let c : Fault Unmapped ≡ Reroute = ap (λ (x : Back). x.ending) d ∙ f in cc

-- The next leg of a Reroute that may be among the letters was sent.
pub reroute_fits : (P : Plan) (s : Spine) (b : Back) → IsSpine P b.request s → BackFits P s b → b.ending ≡ Reroute → sent_leg P b.request s.past s.stand (suc b.number) ≡ Some (rerouted_leg b)
reroute_fits P s b w (inl e) f = by_cases (nat_eq b.number (length s.past))
    (λ q. absurd (stand_reroute b.request (length s.past) s.stand b (grind (arith, q, e)) f))
    (λ q. reroute_sent P b.request s.past s.stand b.number b w.stands (grind (arith, q, e)) f)
reroute_fits P s b w (inr (l, e, g)) f = absurd (blocked_not_reroute l (arrive P l.request l.now.cur) b g f)

blocked_names : (l : Leg) (x : Arrival) (b : Back) → blocked l x ≡ Some b → (b.number ≡ l.number) × (b.request ≡ l.request)
blocked_names l (Here i) b e = absurd (cc)
blocked_names l Barred b e = let d : back_of l.request l.number l.now (Fault NotReadable) ≡ b = cc in (ap (λ (x : Back). x.number) (sym d), ap (λ (x : Back). x.request) (sym d))
blocked_names l Nowhere b e = let d : back_of l.request l.number l.now (Fault Unmapped) ≡ b = cc in (ap (λ (x : Back). x.number) (sym d), ap (λ (x : Back). x.request) (sym d))

pub early_names : (P : Plan) (l : Leg) (b : Back) → early P l ≡ Some b → (b.number ≡ l.number) × (b.request ≡ l.request)
early_names P l b e = blocked_names l (arrive P l.request l.now.cur) b e

-- The early back of a leg that was sent may be among the letters.
pub early_fits : (P : Plan) (s : Spine) (l : Leg) (b : Back) → sent_leg P l.request s.past s.stand l.number ≡ Some l → early P l ≡ Some b → BackFits P s b
early_fits P s l b e f =
    let n = early_names P l b f in
    inr (l, (λ i. sent_leg P (n.1 i) s.past s.stand (n.0 i)) ∙ e, f)
