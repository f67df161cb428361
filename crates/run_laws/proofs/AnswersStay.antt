-- An answer that was given stays.
use Rattle.std.proofs.Common.{◌≡◌, ℕ, inl, inr, Option, Some, None, refl, sym, ap, ◌∙◌, nat_eq, eqb-true}
use Rattle.std.specs.Prelude.{slice_get}
use Rattle.run_laws.specs.Plan.{Frame, AsLeg, AsBack, Plan, put}
use Rattle.run_laws.specs.Flat.{Answer}
use Rattle.run_laws.specs.Client.{Asking, Answered, hears, heard_asking, asks_asking, ticks_asking}
use Rattle.run_laws.specs.World.{To, ToSwitch, ToNode, ToClient, Letter, World, Ask, Tick, Resend, Deliver, TurnOf, Delivered, DeliveredAt, TurnedAt}
use Rattle.run_laws.specs.Laws.{AnswersStay}
use Rattle.run_laws.proofs.LegNumbers.{by_cases}
use Rattle.run_laws.proofs.Events.{put_here, put_there}

-- a change of one request that keeps an answer
put_stays : (asking : ℕ → Asking) (q : ℕ) (f : Asking → Asking) (r : ℕ) (a : Answer) → f (Answered a) ≡ Answered a → asking r ≡ Answered a → put asking q (f (asking q)) r ≡ Answered a
put_stays asking q f r a k e = by_cases (nat_eq r q)
    (λ t. put_here asking q (f (asking q)) r t ∙ ap (λ z. f (asking z)) (sym (eqb-true r q t)) ∙ ap f e ∙ k)
    (λ t. put_there asking q (f (asking q)) r t ∙ e)

delivered : (P : Plan) (w v : World) (to : To) (f : Frame) (r : ℕ) (a : Answer) → Delivered P w v to f → w.asking r ≡ Answered a → v.asking r ≡ Answered a
delivered P w v ToSwitch f r a d e = ap (λ (x : World). x.asking r) d ∙ e
delivered P w v (ToNode n) (AsLeg l) r a (new, x, y, d) e = ap (λ (x : World). x.asking r) d ∙ e
delivered P w v (ToNode n) (AsBack b) r a d e = ap (λ (x : World). x.asking r) d ∙ e
delivered P w v ToClient (AsLeg l) r a d e = ap (λ (x : World). x.asking r) d ∙ e
delivered P w v ToClient (AsBack b) r a d e = ap (λ (x : World). x.asking r) d ∙ put_stays w.asking b.request (λ g. heard_asking g (hears P b g)) r a refl e

delivered_at : (P : Plan) (w v : World) (m : Option Letter) (r : ℕ) (a : Answer) → DeliveredAt P w v m → w.asking r ≡ Answered a → v.asking r ≡ Answered a
delivered_at P w v None r a d e = ap (λ (x : World). x.asking r) d ∙ e
delivered_at P w v (Some m) r a d e = delivered P w v m.to m.frame r a d e

turned_at : (P : Plan) (w v : World) (n r : ℕ) (a : Answer) → TurnedAt P w v n → w.asking r ≡ Answered a → v.asking r ≡ Answered a
turned_at P w v n r a (inl d) e = ap (λ (x : World). x.asking r) d ∙ e
turned_at P w v n r a (inr (new, q, k, t, x, d)) e = ap (λ (x : World). x.asking r) d ∙ e

-- each event keeps each answer
pub answers_stay : AnswersStay
answers_stay P tries w v (Ask q) r a h e = ap (λ (x : World). x.asking r) h ∙ put_stays w.asking q (asks_asking P q) r a refl e
answers_stay P tries w v (Tick q) r a h e = ap (λ (x : World). x.asking r) h ∙ put_stays w.asking q (ticks_asking tries) r a refl e
answers_stay P tries w v (Resend q) r a h e = ap (λ (x : World). x.asking r) h ∙ e
answers_stay P tries w v (Deliver k) r a h e = delivered_at P w v (slice_get w.letters k) r a h e
answers_stay P tries w v (TurnOf n) r a h e = turned_at P w v n r a h e
