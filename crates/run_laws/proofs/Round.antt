-- The round that a client is in: its leg was sent, and its older legs were rerouted.
use Rattle.std.proofs.Common.{◌≡◌, ℕ, suc, ◌<◌, ◌≤◌, List, [], ◌∷◌, length, Some, refl, sym, ap, ◌∙◌, subst, arith, nat_eq, eqb-true}
use Rattle.std.proofs.lemmas.Bool.{eqb-false}
use Rattle.run_laws.specs.Plan.{Leg, Reroute, Back, back_of, Plan, Arrival, Here, Barred, Nowhere, arrive}
use Rattle.run_laws.specs.Node.{Fresh, Kept}
use Rattle.run_laws.specs.Spines.Spine.{Hop, Rerouted, Resumed, Stand, Held, Waiting, Live, Ended, entry, head, leg_at, sent_leg, past_slot, round_start}
use Rattle.run_laws.specs.Spines.Fits.{IsHere, Ran, StandFits, InRound, blocked}
use Rattle.run_laws.proofs.LegNumbers.{at_head, below, leg_low, older_low, slot_past, by_cases, sent_leg_is}

-- The round begins with the leg of that number.
pub round_at : (P : Plan) (r : ℕ) (past : List Hop) → leg_at P r past (round_start P r past).number ≡ Some (round_start P r past)
round_at P r [] = refl
round_at P r (Rerouted a ∷ past) = let low = leg_low P r past (round_start P r past).number (round_start P r past) (round_at P r past) in
    below P r (Rerouted a) past (round_start P r past).number (omega (arith, low)) ∙ round_at P r past
round_at P r (Resumed a ∷ past) = at_head P r (Resumed a ∷ past) (suc (length past)) refl

-- The leg that a client repeats was sent.
pub current_sent : (P : Plan) (r : ℕ) (past : List Hop) (x : Stand) (l : Leg) (accepted : ℕ) → InRound P r past x l accepted → sent_leg P r past x l.number ≡ Some l
current_sent P r [] Held l c f = absurd f
current_sent P r (h ∷ past) Held l c f = (λ i. leg_at P r past (f.0 i).number) ∙ round_at P r past ∙ ap Some (sym f.0)
current_sent P r past Waiting l c f = (λ i. leg_at P r past (f.0 i).number) ∙ round_at P r past ∙ ap Some (sym f.0)
current_sent P r past (Live a) l c f = (λ i. leg_at P r past (f.0 i).number) ∙ round_at P r past ∙ ap Some (sym f.0)
current_sent P r past (Ended e) l c f = (λ i. leg_at P r past (f.0 i).number) ∙ round_at P r past ∙ ap Some (sym f.0)

-- Of the legs of a round that ended, all but the newest were rerouted.
pub round_tail : (P : Plan) (r : ℕ) (past : List Hop) (k : ℕ) (b : Back) → (round_start P r past).number ≤ k → past_slot r past k ≡ Kept b → b.ending ≡ Reroute
round_tail P r [] k b h e = absurd (cc)
round_tail P r (Rerouted a ∷ past) k b h e = by_cases (nat_eq k (length past))
    (λ q. let c : back_of r (length past) a Reroute ≡ b = grind (arith, q, e) in ap (λ (x : Back). x.ending) (sym c))
    (λ q. round_tail P r past k b h (grind (arith, q, e)))
round_tail P r (Resumed a ∷ past) k b h e = absurd (let c : Fresh ≡ Kept b = sym (slot_past r (Resumed a ∷ past) k (omega (arith, h))) ∙ e in cc)

ran_here : (P : Plan) (r : ℕ) (past : List Hop) (k : ℕ) (l : Leg) → Ran P r past → leg_at P r past k ≡ Some l → k < length past → IsHere (arrive P r l.now.cur)
ran_here P r [] k l w e h = absurd (omega (arith, h))
ran_here P r (g ∷ past) k l w e h =
    let e2 : leg_at P r past k ≡ Some l = sym (below P r g past k (omega (arith, h))) ∙ e in
    by_cases (nat_eq k (length past))
    (λ q. let c : head P r past ≡ l = let d : Some (head P r past) ≡ Some l = sym (at_head P r past k (eqb-true k (length past) q)) ∙ e2 in cc in
    subst (λ (x : Leg). IsHere (arrive P r x.now.cur)) c w.0)
    (λ q. ran_here P r past k l w.1 e2 (let ne = eqb-false k (length past) q in omega (arith, h, ne)))

here_not_early : (l : Leg) (x : Arrival) (b : Back) → IsHere x → blocked l x ≡ Some b → ⊥
here_not_early l (Here i) b h e = cc
here_not_early l Barred b h e = h
here_not_early l Nowhere b h e = h

-- An early back is of the newest leg, which waits.
pub early_newest : (P : Plan) (r : ℕ) (past : List Hop) (x : Stand) (l : Leg) (b : Back) (k : ℕ) → l.request ≡ r → Ran P r past → StandFits P r past x → sent_leg P r past x k ≡ Some l → blocked l (arrive P r l.now.cur) ≡ Some b → (x ≡ Waiting) × (k ≡ length past)
early_newest P r past x l b k rq ran fits e f = by_cases (nat_eq k (length past))
    (λ q. let d : k ≡ length past = eqb-true k (length past) q in (waits x fits e d, d))
    (λ q. absurd (let at_k = sent_leg_is P r past x k l e in
    let low = leg_low P r past k l at_k in let ne = eqb-false k (length past) q in
    here_not_early l (arrive P r l.now.cur) b (ran_here P r past k l ran at_k (omega (arith, low, ne))) f))
  where
    at_place : leg_at P r past k ≡ Some l → k ≡ length past → IsHere (arrive P r (entry P r past).cur) → ⊥
    at_place e d h = let c : head P r past ≡ l = let s : Some (head P r past) ≡ Some l = sym (at_head P r past k d) ∙ e in cc in
        here_not_early l (arrive P r l.now.cur) b (subst (λ (x : Leg). IsHere (arrive P r x.now.cur)) c h) f

    waits : (x : Stand) → StandFits P r past x → sent_leg P r past x k ≡ Some l → k ≡ length past → x ≡ Waiting
    waits Held g e d = absurd (let low = older_low P r past k l e in omega (arith, low, d))
    waits Waiting g e d = refl
    waits (Live a) g e d = absurd (at_place e d g.0)
    waits (Ended y) g e d = absurd (at_place e d g.0)
