-- What is known of a scenario that asks for one walk: its region and its request; and that the ask of its request can be run.
use Rattle.std.proofs.Common.{◌≡◌, ℕ, ◌<◌, true, nat_eq, List, [], ◌∷◌, length, All, filter_map, option_map, refl, ap, subst, ◌∙◌, arith}
use Rattle.std.proofs.lemmas.Bool.{and_parts}
use Rattle.std.proofs.lemmas.List.Elements.{All-cons, All-nil}
use Rattle.pulse_base.specs.declared.event.Event.TheVariants.{Ask}
use Rattle.pulse_base.specs.declared.plan.RequestPlan.{RequestPlan}
use Rattle.iter_check.specs.FaultList.{record_fields}
use Rattle.iter_check.specs.Iteration.{begin}
use Rattle.scenario_text.specs.declared.plan.Plan.{Plan}
use Rattle.scenario_text.specs.declared.plan.PlanRegion.{PlanRegion}
use Rattle.scenario_text.specs.declared.scenario.Scenario.{Scenario}
use Rattle.scenario_text.specs.Accepted.{IsRunnable, IsEventOf}
use Rattle.flat_run.specs.Walk.{Walk}
use Rattle.event_run.proofs.Lists.{get_low}
use Rattle.scenario_flat.specs.Runs.{walk_of, walks_of}
use Rattle.scenario_run.specs.Setting.{begun_of, begin_by, begin_in, request_of, setting_of}
use Rattle.flat_walk.specs.Form.{asked, asks_for_one_walk}

is_one : (n : ℕ) → nat_eq n 1 ≡ true → n ≡ 1
is_one n h = grind arith

only_item : {A : Type 0} (xs : List A) → length xs ≡ 1 → (x : A) × (xs ≡ x ∷ [])
only_item [] h = absurd (omega (arith, h))
only_item (x ∷ []) h = (x, refl)
only_item (x ∷ y ∷ ys) h = absurd (omega (arith, h))

pub one_region : (plan : Plan) → asks_for_one_walk plan ≡ true → (p : PlanRegion) × (plan.regions ≡ p ∷ [])
one_region plan h = only_item plan.regions (is_one (length plan.regions) (and_parts _ _ (and_parts _ _ h).0).0)

pub one_request : (plan : Plan) → asks_for_one_walk plan ≡ true → (q : RequestPlan) × (plan.requests ≡ q ∷ [])
one_request plan h = only_item plan.requests (is_one (length plan.requests) (and_parts _ _ (and_parts _ _ h).0).1)

-- there is a request to ask
pub asked_runs : (s : Scenario) → IsRunnable s → IsRunnable (asked s)
asked_runs s h =
    let some = h.requests.some in
    let there : 0 < length (s.plan).requests = omega (arith, some) in
    record {
      accepted = h.accepted;
      nodes = h.nodes;
      slots = h.slots;
      budget = h.budget;
      rounds = h.rounds;
      tries = h.tries;
      clients = h.clients;
      port = h.port;
      regions = h.regions;
      requests = record {
        some = h.requests.some;
        few = h.requests.few;
        numbered = h.requests.numbered;
        asked = h.requests.asked;
        iters = h.requests.iters;
        args = h.requests.args;
      };
      work = h.work;
      few_events = omega arith;
      events = All-cons (IsEventOf (length (s.plan).requests) (s.plan).nodes) (Ask 0) [] there (All-nil (IsEventOf (length (s.plan).requests) (s.plan).nodes));
    }

-- the walk of the one request, which begins in the scenario's setting as its iterator says
pub record IsOneWalk (s : Scenario) (h : IsRunnable s) (w : Walk) : Type 0 where
  pub walks : walks_of s ≡ w ∷ []
  pub begins : (setting_of s h).begin 0 ≡ begun_of (begin w.iter w.args)

pub one_walk : (s : Scenario) (h : IsRunnable s) (q : RequestPlan) → (s.plan).requests ≡ q ∷ [] → (w : Walk) × IsOneWalk s h w
one_walk s h q only =
    let p = s.checked in
    let first : 0 < 1 = omega arith in
    let low : q.iter < length p.iters = (subst (All (λ (r : RequestPlan). r.iter < length p.iters)) only h.requests.iters) 0 q first in
    let it = get_low p.iters q.iter low in (
      record { fields = record_fields p.records it.0; iter = it.0; args = q.args.items },
      record {
        walks = ap (filter_map (walk_of p)) only
            ∙ ap (λ o. filter_map (λ x. x) (option_map (λ i. record { fields = record_fields p.records i; iter = i; args = q.args.items }) o ∷ [])) it.1;
        begins = ap (λ rs. begin_in p (request_of rs 0)) only ∙ ap (λ o. begin_by o q.args.items) it.1;
      },
    )
