-- A walk that is due an answer can't go on, so that it comes to one answer, and has one report.
use Rattle.std.proofs.Common.{◌≡◌, ℕ, zero, suc, ◌≤◌, true, List, [], ◌∷◌, map, replicate, Option, Some, None, refl, sym, ap, subst, ◌∙◌, arith}
use Rattle.std.proofs.lemmas.Bool.{and_parts}
use Rattle.std.specs.Prelude.{slice_get}
use Rattle.pulse_base.specs.declared.answer.Answer.{Answer}
use Rattle.iter_check.specs.Iteration.{Begun, Ready, Ended, DivZero, begin}
use Rattle.flat_run.specs.declared.state.FlatRequest.{FlatRequest}
use Rattle.flat_run.specs.declared.state.FlatState.{FlatState}
use Rattle.flat_run.specs.Walk.{Walk}
use Rattle.flat_run.specs.Region.{spans}
use Rattle.flat_run.specs.Request as q
use Rattle.flat_run.specs.Step.{can_step, flat_step}
use Rattle.flat_run.specs.Run.{flat_run, is_legal}
use Rattle.flat_run.specs.Due.{due, due_from}
use Rattle.flat_run.specs.Laws.{WithinLimit, count_of}
use Rattle.flat_run.proofs.DueLaws.{due_where_stuck}
use Rattle.flat_run.proofs.LimitLaws.{limits_stay}
use Rattle.report_text.specs.Report as text
use Rattle.scenario_flat.specs.Runs.{walks_of, limit_of, first_of, after}
use Rattle.flat_walk.specs.Report.{outcome}
use Rattle.flat_walk.specs.Laws.{OneReportLaw}

due_and_able : (walks : List Walk) (limit : ℕ) (s : FlatState) (a : Answer) (v : Option Walk) (p : Option FlatRequest)
    → slice_get walks 0 ≡ v → slice_get s.requests 0 ≡ p → WithinLimit limit s → due_from (spans s.regions) limit v p ≡ Some a → due walks limit s 0 ≡ Some a → can_step walks limit s 0 ≡ true → ⊥
due_and_able walks limit s a (Some w) (Some r) v p within there is able =
    let law = due_where_stuck walks limit s 0 w r v p (within 0 r p) in
    let none : due walks limit s 0 ≡ None = law.1 able in
    let e : Some a ≡ None = sym is ∙ none in
    cc
due_and_able walks limit s a (Some w) None v p within there is able = absurd (cc)
due_and_able walks limit s a None (Some r) v p within there is able = absurd (cc)
due_and_able walks limit s a None None v p within there is able = absurd (cc)

stuck : (walks : List Walk) (limit : ℕ) (s : FlatState) (a : Answer) → WithinLimit limit s → due walks limit s 0 ≡ Some a → can_step walks limit s 0 ≡ true → ⊥
stuck walks limit s a within is able = due_and_able walks limit s a (slice_get walks 0) (slice_get s.requests 0) refl refl within is is able

one_turns : (walks : List Walk) (limit : ℕ) (s : FlatState) (m n : ℕ) (a b : Answer) → WithinLimit limit s
    → is_legal walks limit s (replicate m 0) ≡ true → is_legal walks limit s (replicate n 0) ≡ true
    → due walks limit (flat_run walks limit s (replicate m 0)) 0 ≡ Some a → due walks limit (flat_run walks limit s (replicate n 0)) 0 ≡ Some b → m ≡ n
one_turns walks limit s zero zero a b within h k d e = refl
one_turns walks limit s zero (suc n) a b within h k d e = absurd (stuck walks limit s a within d (and_parts _ _ k).0)
one_turns walks limit s (suc m) zero a b within h k d e = absurd (stuck walks limit s b within e (and_parts _ _ h).0)
one_turns walks limit s (suc m) (suc n) a b within h k d e =
    ap suc (one_turns walks limit (flat_step walks limit s 0) m n a b (limits_stay walks limit s (0 ∷ []) within) (and_parts _ _ h).1 (and_parts _ _ k).1 d e)

begins_low : (limit : ℕ) (b : Begun) → count_of (q.first_of b) ≤ limit
begins_low limit (Ready cur pad) = omega arith
begins_low limit (Ended pad) = omega arith
begins_low limit DivZero = omega arith

first_low : (limit : ℕ) (walks : List Walk) (r : ℕ) (x : FlatRequest) → slice_get (map q.asked walks) r ≡ Some x → count_of x ≤ limit
first_low limit [] r x e = absurd (cc)
first_low limit (w ∷ walks) zero x e = let same : q.asked w ≡ x = cc in subst (λ y. count_of y ≤ limit) same (begins_low limit (begin w.iter w.args))
first_low limit (w ∷ walks) (suc r) x e = first_low limit walks r x e

pub one_report : OneReportLaw
one_report s a b h k =
    let turns : h.turns ≡ k.turns = one_turns (walks_of s) (limit_of s.plan) (first_of s) h.turns k.turns h.answer k.answer (first_low (limit_of s.plan) (walks_of s)) h.legal k.legal h.due k.due in
    let e : Some h.answer ≡ Some k.answer = sym h.due ∙ ap (λ n. due (walks_of s) (limit_of s.plan) (after s (replicate n 0)) 0) turns ∙ k.due in
    let same : h.answer ≡ k.answer = cc in
    h.report ∙ ap (λ n. text.report (outcome s n h.answer)) turns ∙ ap (λ x. text.report (outcome s k.turns x)) same ∙ sym k.report
