-- Sentences of Sound that follow from the spines.
use Rattle.std.proofs.Common.{◌≡◌, ℕ, inl, inr, true, length, Option, Some, None, sym, ap, ◌∙◌, subst, if◌then◌else◌, eqb-true}
use Rattle.run_laws.specs.Plan.{Leg, Back, AsBack, Plan, arrive}
use Rattle.run_laws.specs.Flat.{flat_run}
use Rattle.run_laws.specs.Node.{Fresh, Kept}
use Rattle.run_laws.specs.World.{Letter}
use Rattle.run_laws.specs.Spines.Spine.{Waiting, Spine, leg_at, sent_leg, became, is_owner, starts_on, slot_of}
use Rattle.run_laws.specs.Spines.Fits.{IsSpine, blocked, early, BackFits, FrameFits, RequestView, Fits}
use Rattle.run_laws.specs.Spines.Sound.{view, SoundSays}
use Rattle.run_laws.proofs.LegNumbers.{by_cases, became_head}
use Rattle.run_laws.proofs.FewLegs.{frame_few}
use Rattle.run_laws.proofs.LiveLeg.{live}
use Rattle.run_laws.proofs.Backs.{kept_is, early_names}
use Rattle.run_laws.proofs.Round.{early_newest}
use Rattle.run_laws.proofs.Events.{each_get}

region_owner : (P : Plan) (n m : ℕ) (o : Option ℕ) → is_owner P n o ≡ true → is_owner P m o ≡ true → n ≡ m
region_owner P n m None a b = absurd (cc)
region_owner P n m (Some i) a b = sym (eqb-true (P.owner i) n a) ∙ eqb-true (P.owner i) m b

-- A leg starts on one node.
one_owner : (P : Plan) (n m r : ℕ) (o : Option Leg) → starts_on P n r o ≡ true → starts_on P m r o ≡ true → n ≡ m
one_owner P n m r None a b = absurd (cc)
one_owner P n m r (Some l) a b = region_owner P n m (P.region r l.now.cur) a b

kept_starts : (P : Plan) (r n k : ℕ) (v : RequestView) (s : Spine) (b : Back) → Fits P r v s → v.slot n k ≡ Kept b → starts_on P n r (leg_at P r s.past k) ≡ true
kept_starts P r n k v s b f e =
    let e2 : slot_of P r s.past s.stand n k ≡ Kept b = sym (f.slots n k) ∙ e in
    by_cases (starts_on P n r (leg_at P r s.past k)) (λ h. h)
    (λ h. absurd (let c : Fresh ≡ Kept b = sym (ap (λ t. if t then became r s.past s.stand k else Fresh) h) ∙ e2 in cc))

kept_same : (r : ℕ) (s : Spine) (k : ℕ) (b c : Back) → became r s.past s.stand k ≡ Kept b → became r s.past s.stand k ≡ Kept c → b ≡ c
kept_same r s k b c e f = let g : Kept b ≡ Kept c = sym e ∙ f in cc

early_waits : (P : Plan) (s : Spine) (b : Back) (l : Leg) → IsSpine P b.request s → sent_leg P b.request s.past s.stand b.number ≡ Some l → early P l ≡ Some b → (s.stand ≡ Waiting) × (b.number ≡ length s.past)
early_waits P s b l w e g =
    let names = early_names P l b g in
    early_newest P b.request s.past s.stand l b b.number (sym names.1) w.ran w.stands e ((λ j. blocked l (arrive P (names.1 j) l.now.cur)) ∙ g)

not_both : (r : ℕ) (s : Spine) (k : ℕ) (c : Back) → s.stand ≡ Waiting → k ≡ length s.past → became r s.past s.stand k ≡ Kept c → ⊥
not_both r s k c e f h = let g : Fresh ≡ Kept c = sym (ap (λ x. became r s.past x k) e ∙ became_head r s.past Waiting k f) ∙ h in cc

-- Backs of one leg that may be among the letters are equal.
backs_by : (P : Plan) (s : Spine) (b c : Back) → IsSpine P b.request s → b.request ≡ c.request → b.number ≡ c.number → BackFits P s b → BackFits P s c → b ≡ c
backs_by P s b c w q n (inl e) (inl f) = kept_same b.request s b.number b c e ((λ i. became (q i) s.past s.stand (n i)) ∙ f)
backs_by P s b c w q n (inr (l, e, g)) (inl f) = let x = early_waits P s b l w e g in absurd (not_both b.request s b.number c x.0 x.1 ((λ i. became (q i) s.past s.stand (n i)) ∙ f))
backs_by P s b c w q n (inl e) (inr (l, f, g)) = let x = early_waits P s c l (subst (λ (r : ℕ). IsSpine P r s) q w) f g in absurd (not_both b.request s b.number b x.0 (n ∙ x.1) e)
backs_by P s b c w q n (inr (l, e, g)) (inr (k, f, h)) =
    let same : l ≡ k = (let d : Some l ≡ Some k = sym e ∙ (λ i. sent_leg P (q i) s.past s.stand (n i)) ∙ f in cc) in
    let d : Some b ≡ Some c = sym g ∙ ap (early P) same ∙ h in cc

frame_fits : (P : Plan) (s : ℕ → Spine) (x : Letter) (b : Back) → x.frame ≡ AsBack b → FrameFits P s x.frame → BackFits P (s b.request) b
frame_fits P s x b e f = subst (FrameFits P s) e f

pub says_all : SoundSays
says_all P start w s = record {
  one_live = λ n m r k j x y e f.
      let a = live P r n k (view w (flat_run P start w.order) r) (s.spines r) x (s.fits r) e in
      let b = live P r m j (view w (flat_run P start w.order) r) (s.spines r) y (s.fits r) f in
      let same : k ≡ j = a.number ∙ sym b.number in
      (one_owner P n m r (leg_at P r (s.spines r).past j) (subst (λ (z : ℕ). starts_on P n r (leg_at P r (s.spines r).past z) ≡ true) same a.here) b.here, same);
  kept_alone = λ n m r k b c e f.
      let v = view w (flat_run P start w.order) r in (
        one_owner P n m r (leg_at P r (s.spines r).past k) (kept_starts P r n k v (s.spines r) b (s.fits r) e) (kept_starts P r m k v (s.spines r) c (s.fits r) f),
        kept_same r (s.spines r) k b c (kept_is P r n k v (s.spines r) b (s.fits r) e) (kept_is P r m k v (s.spines r) c (s.fits r) f),
      );
  backs_equal = λ i j x y b c e f g h q n.
      let fb = frame_fits P s.spines x b g (each_get _ w.letters i x e s.letters) in
      let fc = frame_fits P s.spines y c h (each_get _ w.letters j y f s.letters) in
      backs_by P (s.spines b.request) b c (s.fits b.request).spine q n fb (subst (λ (r : ℕ). BackFits P (s.spines r) c) (sym q) fc);
  numbers_low = λ k m e. frame_few P s.spines m.frame (λ r. (s.fits r).spine) (each_get (λ m. FrameFits P s.spines m.frame) w.letters k m e s.letters);
}
