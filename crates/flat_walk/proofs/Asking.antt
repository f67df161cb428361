-- What the ask of a world's one request does, and what the drain leaves of it.
use Rattle.std.proofs.Common.{◌≡◌, ◌≢◌, List, [], ◌∷◌, length, Some, None, refl, sym, ap, ◌∙◌}
use Rattle.std.specs.Prelude.{slice_get, slice_set}
use Rattle.pulse_base.specs.declared.answer.Answer.{Answer}
use Rattle.pulse_base.specs.declared.answer.Answer.TheVariants.{Silent}
use Rattle.pulse_base.specs.declared.event.Event.TheVariants.{Ask}
use Rattle.pulse_base.specs.declared.event.Trace.TheVariants as trace
use Rattle.iter_check.specs.Iteration.{Begun}
use Rattle.iter_check.specs.Iteration as i
use Rattle.run_rules.specs.declared.client.Asking.{Asking}
use Rattle.run_rules.specs.declared.client.Asking.TheVariants.{NotAsked, Waiting, Answered}
use Rattle.run_rules.specs.declared.client.Asked.{Asked}
use Rattle.run_rules.specs.Client.{asked_by}
use Rattle.run_views.specs.Setting.{Setting}
use Rattle.run_views.specs.Clients.{terms_of}
use Rattle.event_run.specs.World.{WorldState, asks, asks_at, event, told_asked}
use Rattle.drain_run.specs.Drain.{does_wait}
use Rattle.drain_run.specs.Laws.{Drained}
use Rattle.scenario_run.specs.Setting.{begun_of}
use Rattle.flat_walk.specs.Report.{trace_of}

-- ---- the ask

-- the request after its ask, and what is told of that
abbrev after_ask : Setting → Begun → Asking × Asked
after_ask u g = asked_by (terms_of u 0) 0 (u.program 0) (begun_of g)

ask_is : (u : Setting) (w : WorldState) (g : Begun) → w.asking ≡ NotAsked ∷ [] → u.begin 0 ≡ begun_of g → event u w (Ask 0) ≡ asks w 0 (after_ask u g)
ask_is u w g new begins =
    ap (λ xs. asks_at u w 0 (slice_get xs 0)) new
    ∙ ap (λ b. asks w 0 (asked_by (terms_of u 0) 0 (u.program 0) b)) begins

told_is : (u : Setting) (w : WorldState) (g : Begun) → w.letters ≡ [] → told_asked w (after_ask u g).1 ≡ trace_of g
told_is u w (i.Ready cur pad) none = ap (λ ls. trace.Sent (length ls)) none
told_is u w (i.Ended pad) none = refl
told_is u w i.DivZero none = refl

-- it waits, or has an answer, and is not given up
abbrev pub IsUnderWay : Asking → Type 0
IsUnderWay NotAsked = ⊥
IsUnderWay (Waiting leg accepted ticks) = Unit {0}
IsUnderWay (Answered a) = a ≢ Silent

goes : (u : Setting) (g : Begun) → IsUnderWay (after_ask u g).0
goes u (i.Ready cur pad) = tt
goes u (i.Ended pad) = λ same. absurd (cc)
goes u i.DivZero = λ same. absurd (cc)

-- the ask is told as the walk begins, and its request is under way
pub record IsAsk (u : Setting) (w : WorldState) (g : Begun) : Type 0 where
  pub told : (event u w (Ask 0)).1 ≡ trace_of g
  pub asking : Asking
  pub only : (event u w (Ask 0)).0.asking ≡ asking ∷ []
  pub goes : IsUnderWay asking

pub is_ask : (u : Setting) (w : WorldState) (g : Begun) → w.asking ≡ NotAsked ∷ [] → w.letters ≡ [] → u.begin 0 ≡ begun_of g → IsAsk u w g
is_ask u w g new none begins =
    let is = ask_is u w g new begins in
    record {
      told = ap (λ x. x.1) is ∙ told_is u w g none;
      asking = (after_ask u g).0;
      only = ap (λ x. x.0.asking) is ∙ ap (λ xs. slice_set xs 0 (after_ask u g).0) new;
      goes = goes u g;
    }

-- ---- the drain

only_one : {A : Type 0} (xs : List A) (x : A) → slice_get xs 0 ≡ Some x → slice_get xs 1 ≡ None → xs ≡ x ∷ []
only_one [] x first past = absurd (cc)
only_one (y ∷ []) x first past = let same : y ≡ x = cc in ap (λ z. z ∷ []) same
only_one (y ∷ z ∷ ys) x first past = let there : Some z ≡ None = past in absurd (cc)

-- the one request has an answer that is not Silent
pub record IsDone (v : WorldState) : Type 0 where
  pub answer : Answer
  pub only : v.asking ≡ Answered answer ∷ []
  pub told : answer ≢ Silent

-- no other request comes
stays_one : (w v : WorldState) (a : Asking) (y : Asking) → Drained w v → w.asking ≡ a ∷ [] → slice_get v.asking 0 ≡ Some y → v.asking ≡ y ∷ []
stays_one w v a y d only first =
    let past : slice_get w.asking 1 ≡ None = ap (λ xs. slice_get xs 1) only in
    only_one v.asking y first (d.stands 1 (ap does_wait past) ∙ past)

pub is_done : (w v : WorldState) (a : Asking) → Drained w v → w.asking ≡ a ∷ [] → IsUnderWay a → IsDone v
is_done w v NotAsked d only goes = absurd goes
is_done w v (Waiting leg accepted ticks) d only goes =
    let was : slice_get w.asking 0 ≡ Some (Waiting leg accepted ticks) = ap (λ xs. slice_get xs 0) only in
    let x = d.answered 0 (ap does_wait was) in
    record {
      answer = x.0;
      only = stays_one w v _ _ d only x.1;
      told = λ same. (let e : Some (Waiting leg accepted ticks) ≡ Some (Answered Silent) = sym was ∙ d.silent 0 (x.1 ∙ ap (λ z. Some (Answered z)) same) in absurd (cc));
    }
is_done w v (Answered a) d only goes =
    let was : slice_get w.asking 0 ≡ Some (Answered a) = ap (λ xs. slice_get xs 0) only in
    record {
      answer = a;
      only = stays_one w v _ _ d only (d.stands 0 (ap does_wait was) ∙ was);
      told = goes;
    }
