-- A leg letter whose leg its node has not: it is the newest leg of its request, and waits.
use Rattle.std.proofs.Common.{◌≡◌, ℕ, ◌<◌, true, List, length, Option, Some, None, refl, sym, ap, ◌∙◌, arith, nat_eq, if◌then◌else◌}
use Rattle.run_laws.specs.Plan.{Leg, Plan, Here, Barred, Nowhere, arrival, arrive, owned, arrive_on}
use Rattle.run_laws.specs.Node.{Fresh, Running, Kept}
use Rattle.run_laws.specs.Spines.Spine.{Hop, Stand, Held, Waiting, Live, Ended, Spine, fresh, head, leg_at, sent_leg, stand_slot, became, is_owner, starts_on}
use Rattle.run_laws.specs.Spines.Fits.{RequestView, Fits}
use Rattle.run_laws.proofs.LegNumbers.{at_head, leg_low, older_low, by_cases, slot_kept, sent_leg_is, became_past}

-- what a record here, on node n, says
pub record OnNode (P : Plan) (n r cur i : ℕ) : Type 0 where
  pub region : P.region r cur ≡ Some i
  pub owner : P.owner i ≡ n
  pub readable : P.readable i ≡ true

on_this_node_case : (P : Plan) (n : ℕ) (o : Option ℕ) (i : ℕ) → arrival P (owned P n o) ≡ Here i → (o ≡ Some i) × (P.owner i ≡ n) × (P.readable i ≡ true)
on_this_node_case P n None i e = absurd (cc)
on_this_node_case P n (Some j) i e = by_cases (nat_eq (P.owner j) n)
    (λ q. by_cases (P.readable j)
    (λ p. let d : Here j ≡ Here i = grind (arith, q, p, e) in let f : j ≡ i = cc in (ap (λ x. Some x) f, grind (arith, q, f), ap P.readable (sym f) ∙ p))
    (λ p. absurd (let d : Barred ≡ Here i = grind (arith, q, p, e) in cc)))
    (λ q. absurd (let d : Nowhere ≡ Here i = grind (arith, q, e) in cc))

pub on_this_node : (P : Plan) (n r cur i : ℕ) → arrive_on P n r cur ≡ Here i → OnNode P n r cur i
on_this_node P n r cur i e = let x = on_this_node_case P n (P.region r cur) i e in record { region = x.0; owner = x.1; readable = x.2 }

pub on_node_flat : (P : Plan) (n r cur i : ℕ) → OnNode P n r cur i → arrive P r cur ≡ Here i
on_node_flat P n r cur i o = ap (arrival P) o.region ∙ ap (λ b. if b then Here i else Barred) o.readable

pub on_node_starts : (P : Plan) (n r i : ℕ) (l : Leg) → OnNode P n r l.now.cur i → starts_on P n r (Some l) ≡ true
on_node_starts P n r i l o = ap (is_owner P n) o.region ∙ grind (arith, o.owner)

-- the newest leg, which waits
pub record IsNewest (P : Plan) (r : ℕ) (s : Spine) (l : Leg) : Type 0 where
  pub stand : s.stand ≡ Waiting
  pub number : l.number ≡ length s.past
  pub leg : l ≡ head P r s.past

-- Of all legs that were sent only the newest, waiting, is nowhere.
is_newest_case : (P : Plan) (r : ℕ) (past : List Hop) (stand : Stand) (l : Leg) → sent_leg P r past stand l.number ≡ Some l → became r past stand l.number ≡ Fresh → (stand ≡ Waiting) × (l.number ≡ length past)
is_newest_case P r past Held l e f =
    absurd (let low = older_low P r past l.number l e in
    let k = slot_kept r past l.number low in
    let c : Kept k.0 ≡ Fresh = sym k.1 ∙ sym (became_past r past Held l.number low) ∙ f in cc)
is_newest_case P r past Waiting l e f = by_cases (nat_eq l.number (length past))
    (λ q. (refl, grind (arith, q)))
    (λ q. absurd (let low0 = leg_low P r past l.number l e in
    let low : l.number < length past = grind (arith, low0, q) in
    let k = slot_kept r past l.number low in
    let c : Kept k.0 ≡ Fresh = sym k.1 ∙ sym (became_past r past Waiting l.number low) ∙ f in cc))
is_newest_case P r past (Live a) l e f = by_cases (nat_eq l.number (length past))
    (λ q. absurd (let c : Running a ≡ Fresh = grind (arith, q, f) in cc))
    (λ q. absurd (let low0 = leg_low P r past l.number l e in
    let low : l.number < length past = grind (arith, low0, q) in
    let k = slot_kept r past l.number low in
    let c : Kept k.0 ≡ Fresh = sym k.1 ∙ sym (became_past r past (Live a) l.number low) ∙ f in cc))
is_newest_case P r past (Ended x) l e f = by_cases (nat_eq l.number (length past))
    (λ q. absurd (let c : stand_slot r (length past) (Ended x) ≡ Fresh = grind (arith, q, f) in cc))
    (λ q. absurd (let low0 = leg_low P r past l.number l e in
    let low : l.number < length past = grind (arith, low0, q) in
    let k = slot_kept r past l.number low in
    let c : Kept k.0 ≡ Fresh = sym k.1 ∙ sym (became_past r past (Ended x) l.number low) ∙ f in cc))

newest_leg : (P : Plan) (r : ℕ) (past : List Hop) (l : Leg) → leg_at P r past l.number ≡ Some l → l.number ≡ length past → l ≡ head P r past
newest_leg P r past l e q = let h = at_head P r past l.number q in let c : Some l ≡ Some (head P r past) = sym e ∙ h in cc

pub is_newest : (P : Plan) (r n i : ℕ) (v : RequestView) (s : Spine) (l : Leg) → Fits P r v s → sent_leg P r s.past s.stand l.number ≡ Some l → v.slot n l.number ≡ Fresh → OnNode P n r l.now.cur i → IsNewest P r s l
is_newest P r n i v s l f e fresh o =
    let leg = sent_leg_is P r s.past s.stand l.number l e in
    let st : became r s.past s.stand l.number ≡ Fresh =
    sym (ap (λ x. if starts_on P n r x then became r s.past s.stand l.number else Fresh) leg ∙ ap (λ b. if b then became r s.past s.stand l.number else Fresh) (on_node_starts P n r i l o))
    ∙ sym (f.slots n l.number) ∙ fresh in
    let c = is_newest_case P r s.past s.stand l e st in
    record { stand = c.0; number = c.1; leg = newest_leg P r s.past l leg c.1 }
