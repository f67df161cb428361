-- The first world is sound, and a sound world is explained.
use Rattle.std.proofs.Common.{◌≡◌, ℕ, ◌+◌, ◌-◌, ◌*◌, inl, inr, List, [], refl, sym, ap, ◌∙◌, subst, arith, nat_eq}
use Rattle.run_laws.specs.Plan.{Begun, Begins, Finished, Faulted, Plan, first_progress}
use Rattle.run_laws.specs.Flat.{Ready, Flat, begun_flat, flat_run, due}
use Rattle.run_laws.specs.Node.{Fresh}
use Rattle.run_laws.specs.Client.{Asking, NotAsked, Asked, Answered}
use Rattle.run_laws.specs.World.{World}
use Rattle.run_laws.specs.Laws.{IsFirst, AnswerFits, Explained, FlatRunExplains}
use Rattle.run_laws.specs.Spines.Spine.{Held, Spine, fresh, leg_at, starts_on, slot_of, flat_begun, flat_of}
use Rattle.run_laws.specs.Spines.Fits.{Within, BegunFits, AskingFits}
use Rattle.run_laws.specs.Spines.Sound.{Each, IsSound}
use Rattle.run_laws.proofs.LegNumbers.{by_cases}
use Rattle.run_laws.proofs.Events.{run_keeps}

first_within : (P : Plan) (g : Begun) → Within P (first_progress P.budget g)
first_within P (Begins c p) = record { some = P.some_budget; most = omega arith }
first_within P (Finished p) = record { some = P.some_budget; most = omega arith }
first_within P Faulted = record { some = P.some_budget; most = omega arith }

first_begun : (g : Begun) → BegunFits g fresh
first_begun (Begins c p) = tt
first_begun (Finished p) = refl
first_begun Faulted = refl

none_made : (b : ℕ) → 0 ≡ 0 * b + (b - b)
none_made b = omega arith

first_flat : (P : Plan) (g : Begun) → begun_flat g ≡ flat_begun g (Ready (first_progress P.budget g).cur (first_progress P.budget g).pad (0 * P.budget + (P.budget - (first_progress P.budget g).left)))
first_flat P (Begins c p) = ap (Ready c p) (none_made P.budget)
first_flat P (Finished p) = refl
first_flat P Faulted = refl

first_slot : (P : Plan) (r n k : ℕ) → Fresh ≡ slot_of P r [] Held n k
first_slot P r n k = by_cases (starts_on P n r (leg_at P r [] k))
    (λ t. by_cases (nat_eq k 0) (λ q. grind (arith, t, q)) (λ q. grind (arith, t, q)))
    (λ t. grind (arith, t))

first_sound : (P : Plan) (start : Flat) (w : World) → IsFirst P start w → (order : List ℕ) → order ≡ [] → w ≡ record w { order = order } → IsSound P start (record w { order = [] })
first_sound P start w b order e d = record {
  spines = λ r. fresh;
  fits = λ r. record {
    spine = record { rounds = P.some_rounds; entered = first_within P (P.first r); many = omega arith; ran = tt; stands = tt; begun = first_begun (P.first r) };
    flat = b.requests r ∙ first_flat P (P.first r);
    slots = λ n k. b.slots n r k ∙ first_slot P r n k;
    asking = subst (AskingFits P r fresh) (sym (b.asking r)) refl;
  };
  letters = subst (Each _) (sym b.letters) tt;
  memory = b.memory;
  legal = refl;
}

-- Before the first event every spine is fresh.
pub begins_sound : (P : Plan) (start : Flat) (w : World) → IsFirst P start w → IsSound P start w
begins_sound P start w b = subst (IsSound P start) (λ i. record w { order = sym b.order i }) (first_sound P start w b w.order b.order refl)

answer_case : (P : Plan) (r : ℕ) (f : Flat) (s : Spine) (g : Asking) → f.requests r ≡ flat_of P r s → AskingFits P r s g → AnswerFits P r f g
answer_case P r f s NotAsked e h = tt
answer_case P r f s (Asked l c t) e h = tt
answer_case P r f s (Answered a) e (inl h) = inl h
answer_case P r f s (Answered a) e (inr h) = inr (ap (due P r) e ∙ h)

-- Sound gives order, memory and answers.
pub is_explained : (P : Plan) (start : Flat) (w : World) → IsSound P start w → Explained P start w
is_explained P start w s = record { legal = s.legal; memory = s.memory; answers = λ r. answer_case P r (flat_run P start w.order) (s.spines r) (w.asking r) (s.fits r).flat (s.fits r).asking }

pub flat_run_explains : FlatRunExplains
flat_run_explains P tries start w v es b r = is_explained P start v (run_keeps P tries start w v es (begins_sound P start w b) r)
