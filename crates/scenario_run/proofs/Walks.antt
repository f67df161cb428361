-- The request of each number, with its iterator.
use Rattle.std.proofs.Common.{◌≡◌, ℕ, ◌<◌, length, Option, Some, None, refl, ap, ◌∙◌}
use Rattle.std.specs.Prelude.{slice_get, option_map}
use Rattle.std.specs.Option.{option_or}
use Rattle.std.proofs.lemmas.Option.{slice_get-map}
use Rattle.pulse_base.specs.declared.plan.RequestPlan.{RequestPlan}
use Rattle.iter_syntax.specs.declared.tree.Iter.{Iter}
use Rattle.run_views.specs.Setting.{record_size, pad_size, pad_in}
use Rattle.run_rules.specs.Node.{size_in}
use Rattle.iter_check.specs.Layout.{size_of}
use Rattle.iter_check.specs.FaultList.{record_fields}
use Rattle.event_run.proofs.Lists.{get_low}
use Rattle.scenario_text.specs.declared.scenario.Scenario.{Scenario}
use Rattle.scenario_text.specs.Accepted.{IsRunnable}
use Rattle.scenario_run.specs.Setting.{sizes_of, request_of, iter_in, setting_of}
use Rattle.scenario_run.proofs.Lists.{all_at}

-- the request that has a number, and its iterator
pub record IsWalk (s : Scenario) (r : ℕ) : Type 0 where
  pub request : RequestPlan
  pub place : ℕ
  pub iter : Iter
  pub named : request_of (s.plan).requests r ≡ Some request
  pub stands : slice_get (s.plan).requests place ≡ Some request
  pub program : slice_get (s.checked).iters request.iter ≡ Some iter

walk_at : (s : Scenario) (r place : ℕ) (q : RequestPlan) → IsRunnable s → request_of (s.plan).requests r ≡ Some q → slice_get (s.plan).requests place ≡ Some q → IsWalk s r
walk_at s r place q h named stands =
    let x = get_low (s.checked).iters q.iter (all_at (λ (q : RequestPlan). q.iter < length (s.checked).iters) (s.plan).requests place q h.requests.iters stands) in
    record { request = q; place = place; iter = x.0; named = named; stands = stands; program = x.1 }

pub walk : (s : Scenario) (r : ℕ) → IsRunnable s → IsWalk s r
walk s r h = by_request (slice_get (s.plan).requests r) refl
  where
    by_request : (o : Option RequestPlan) → slice_get (s.plan).requests r ≡ o → IsWalk s r
    by_request (Some q) e = walk_at s r r q h (λ i. option_or (e i) (slice_get (s.plan).requests 0)) e
    by_request None e =
        let x = get_low (s.plan).requests 0 h.requests.some in
        walk_at s r 0 x.0 h (λ i. option_or (e i) (x.1 i)) x.1

-- the sizes of its record and its pad
pub sizes : (s : Scenario) (h : IsRunnable s) (r : ℕ) (w : IsWalk s r) → slice_get (setting_of s h).sizes ((setting_of s h).program r) ≡ Some (sizes_of s.checked w.iter)
sizes s h r w =
    (λ i. slice_get (setting_of s h).sizes (iter_in (w.named i)))
    ∙ slice_get-map (sizes_of s.checked) (s.checked).iters (w.request).iter
    ∙ ap (option_map (sizes_of s.checked)) w.program

pub record_is : (s : Scenario) (h : IsRunnable s) (r : ℕ) (w : IsWalk s r) → record_size (setting_of s h) r ≡ size_of (record_fields (s.checked).records w.iter)
record_is s h r w = ap size_in (sizes s h r w)

pub pad_is : (s : Scenario) (h : IsRunnable s) (r : ℕ) (w : IsWalk s r) → pad_size (setting_of s h) r ≡ size_of (w.iter).pad
pad_is s h r w = ap pad_in (sizes s h r w)
