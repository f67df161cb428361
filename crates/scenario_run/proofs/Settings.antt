-- The setting of a scenario is one, and leaves leg numbers enough.
use Rattle.std.proofs.Common.{◌≡◌, ℕ, zero, suc, ◌*◌, ◌<◌, ◌≤◌, Bool, List, length, sym, ◌∙◌, subst, arith}
use Rattle.std.specs.Prelude.{slice_get}
use Rattle.std.proofs.lemmas.List.{length-map}
use Rattle.pulse_base.specs.declared.plan.RequestPlan.{RequestPlan}
use Rattle.iter_check.specs.FaultList.{record_fields}
use Rattle.iter_check.specs.Iteration.{Iterated, iteration, Begun, begin}
use Rattle.iter_check.specs.Iteration as i
use Rattle.iter_check.specs.Laws.{Leaves, LeavesPad}
use Rattle.iter_check.proofs.LengthLaws.{iteration_leaves, begin_leaves}
use Rattle.iter_check.proofs.AcceptedLaws.{accepted_iter}
use Rattle.run_views.specs.Setting.{record_size, pad_size, OutcomeKeeps, BeginKeeps}
use Rattle.scenario_text.specs.declared.scenario.Scenario.{Scenario}
use Rattle.scenario_text.specs.Accepted.{IsRunnable}
use Rattle.scenario_run.specs.Setting.{outcome_of, begun_of, iterate_by, begin_by, begin_in, client_in, iter_in, setting_of}
use Rattle.scenario_run.specs.Laws.{SettingIs, HasNumbersLaw}
use Rattle.scenario_run.proofs.Lists.{all_at}
use Rattle.scenario_run.proofs.Walks.{IsWalk, walk, record_is, pad_is}

outcome_keeps : (n m : ℕ) (x : Iterated) → Leaves n m x → OutcomeKeeps n m (outcome_of x)
outcome_keeps n m (i.Done bytes pad) h = h
outcome_keeps n m (i.Goes to bytes pad) h = h
outcome_keeps n m (i.Fault c) h = tt

begun_keeps : (m : ℕ) (x : Begun) → LeavesPad m x → BeginKeeps m (begun_of x)
begun_keeps m (i.Ready cur pad) h = h
begun_keeps m (i.Ended pad) h = h
begun_keeps m i.DivZero h = tt

begins : (s : Scenario) (h : IsRunnable s) (r : ℕ) (w : IsWalk s r) → BeginKeeps (pad_size (setting_of s h) r) ((setting_of s h).begin r)
begins s h r w =
    let is : (setting_of s h).begin r ≡ begun_of (begin w.iter (w.request).args.items) =
    (λ j. begin_in s.checked (w.named j)) ∙ (λ j. begin_by (w.program j) (w.request).args.items) in
    subst (λ b. BeginKeeps (pad_size (setting_of s h) r) b) (sym is)
    (subst (λ z. BeginKeeps z (begun_of (begin w.iter (w.request).args.items))) (sym (pad_is s h r w)) (begun_keeps _ _ (begin_leaves w.iter (w.request).args.items)))

iterates : (s : Scenario) (h : IsRunnable s) (r : ℕ) (w : IsWalk s r) (bytes : List ℕ) (cur : ℕ) (pad : List ℕ) (writable : Bool) → length bytes ≡ record_size (setting_of s h) r → length pad ≡ pad_size (setting_of s h) r
    → OutcomeKeeps (record_size (setting_of s h) r) (pad_size (setting_of s h) r) ((setting_of s h).iterate ((setting_of s h).program r) bytes cur pad writable)
iterates s h r w bytes cur pad writable long full =
    let fields = record_fields (s.checked).records w.iter in
    let o = outcome_of (iteration fields w.iter bytes cur pad writable) in
    let is : (setting_of s h).iterate ((setting_of s h).program r) bytes cur pad writable ≡ o =
    (λ j. iterate_by s.checked (slice_get (s.checked).iters (iter_in (w.named j))) bytes cur pad writable) ∙ (λ j. iterate_by s.checked (w.program j) bytes cur pad writable) in
    subst (OutcomeKeeps (record_size (setting_of s h) r) (pad_size (setting_of s h) r)) (sym is)
    (subst (λ z. OutcomeKeeps z (pad_size (setting_of s h) r) o) long
    (subst (λ z. OutcomeKeeps (length bytes) z o) full (outcome_keeps _ _ (iteration fields w.iter bytes cur pad writable) (iteration_leaves fields w.iter bytes cur pad writable))))

pub setting_is : SettingIs
setting_is s h = record {
  table = h.regions.table;
  programs = λ r. (let w = walk s r h in
      let low : (w.request).iter < length (s.checked).iters = all_at (λ (q : RequestPlan). q.iter < length (s.checked).iters) (s.plan).requests w.place w.request h.requests.iters w.stands in
      subst (λ z. iter_in z < length (setting_of s h).sizes) (sym w.named) (subst (λ z. (w.request).iter < z) (sym (length-map (s.checked).iters _)) low));
  clients = λ r. (let w = walk s r h in
      subst (λ z. client_in z < (s.plan).clients) (sym w.named) (all_at (λ (q : RequestPlan). q.client < (s.plan).clients) (s.plan).requests w.place w.request h.requests.asked w.stands));
  sized = λ r. (let w = walk s r h in subst (λ z. 1 ≤ z) (sym (record_is s h r w)) (accepted_iter s.checked (w.request).iter w.iter h.accepted w.program).record_size.0);
  begins = λ r. begins s h r (walk s r h);
  iterates = λ r. iterates s h r (walk s r h);
}

-- a product with a number that is not 0
at_most : (x n : ℕ) → 1 ≤ n → x ≤ x * n
at_most x zero h = absurd (omega (arith, h))
at_most x (suc n) h = grind arith

pub has_numbers : HasNumbersLaw
has_numbers s h =
    let most = at_most ((s.plan).rounds * (s.plan).budget) (length (s.plan).requests) h.requests.some in
    let work = h.work in
    omega (arith, most, work)
