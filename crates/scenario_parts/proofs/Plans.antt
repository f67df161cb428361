-- The requests of each client are what a client may have.
use Rattle.std.proofs.Common.{◌≡◌, ◌≢◌, ℕ, zero, suc, ◌+◌, ◌<◌, ◌≤◌, Bool, true, false, List, [], ◌∷◌, length, nat_eq, Some, refl, sym, ◌∙◌, arith, eqb-true, if◌then◌else◌}
use Rattle.std.specs.Prelude.{slice_get, All, AllPairs}
use Rattle.std.proofs.lemmas.List.Elements.{All-cons, All-nil}
use Rattle.std.proofs.lemmas.List.Kept.{AllPairs-cons}
use Rattle.std.proofs.lemmas.Bool.Decides.{Decides-eqb}
use Rattle.std.proofs.lemmas.Map.Made.{IsDistinct-from_AllPairs}
use Rattle.pulse_base.specs.declared.plan.RequestPlan.{RequestPlan}
use Rattle.iter_syntax.specs.declared.tree.Iter.{Iter}
use Rattle.iter_syntax.specs.declared.tree.Program.{Program}
use Rattle.code_image.specs.declared.image.Image.{Image}
use Rattle.client_core.specs.Requests.{IsPlan, ArePlans, numbers}
use Rattle.pulse_codegen.specs.Compiled.{CompilesAll}
use Rattle.scenario_text.specs.declared.scenario.Scenario.{Scenario}
use Rattle.scenario_text.specs.OfProgram.{arg_count}
use Rattle.scenario_text.specs.Accepted.{AreRequests}
use Rattle.event_run.proofs.Lists.{get_low}
use Rattle.scenario_parts.specs.Clients.{requests_by}
use Rattle.scenario_parts.proofs.Lists.{found, all_head, all_tail, pairs_nil}

-- a request of a program names an image with as many arguments
one_plan : (p : Program) (images : List Image) (c : ℕ) (q : RequestPlan) → CompilesAll p images → q.iter < length p.iters → arg_count p q.iter ≡ Some (length q.args.items) → q.client ≡ c → IsPlan c images q
one_plan p images c q h low e own =
    let image = get_low images q.iter (let all = h.all in omega (arith, low, all)) in
    let it = found (λ (it : Iter). length it.args) (slice_get p.iters q.iter) (length q.args.items) e in
    record { own = own; image = image.0; program = image.1; args = sym it.2 ∙ sym (h.each q.iter image.0 image.1 it.0 it.1).means.args }

-- what is asked of each request, from a list of which the first has this number
record Fits (p : Program) (k : ℕ) (requests : List RequestPlan) : Type 0 where
  pub numbered : (i : ℕ) (q : RequestPlan) → slice_get requests i ≡ Some q → q.number ≡ k + i
  pub iters : All (λ (q : RequestPlan). q.iter < length p.iters) requests
  pub args : All (λ (q : RequestPlan). arg_count p q.iter ≡ Some (length q.args.items)) requests

fits_tail : (p : Program) (k : ℕ) (q : RequestPlan) (requests : List RequestPlan) → Fits p k (q ∷ requests) → Fits p (suc k) requests
fits_tail p k q requests f = record {
  numbered = λ i x e. (let h = f.numbered (suc i) x e in omega (arith, h));
  iters = all_tail (λ (q : RequestPlan). q.iter < length p.iters) q requests f.iters;
  args = all_tail (λ (q : RequestPlan). arg_count p q.iter ≡ Some (length q.args.items)) q requests f.args;
}

-- a request at the front is the client's, or it is not
pick : (Q : List RequestPlan → Type 0) (b : Bool) (q : RequestPlan) (qs : List RequestPlan) → (b ≡ true → Q (q ∷ qs)) → Q qs → Q (if b then q ∷ qs else qs)
pick Q true q qs a b = a refl
pick Q false q qs a b = b

-- of which none has a number below
low_by : (p : Program) (c k j : ℕ) (requests : List RequestPlan) → Fits p k requests → j ≤ k → All (λ m. j ≤ m) (numbers (requests_by c requests))
low_by p c k j [] f h = All-nil (λ m. j ≤ m)
low_by p c k j (q ∷ requests) f h =
    let rest = low_by p c (suc k) j requests (fits_tail p k q requests f) (omega (arith, h)) in
    let is = f.numbered zero q refl in
    pick (λ qs. All (λ m. j ≤ m) (numbers qs)) (nat_eq q.client c) q (requests_by c requests)
    (λ t. All-cons (λ m. j ≤ m) q.number (numbers (requests_by c requests)) (omega (arith, is, h)) rest) rest

differ_by : (p : Program) (c k : ℕ) (requests : List RequestPlan) → Fits p k requests → AllPairs ◌≢◌ (numbers (requests_by c requests))
differ_by p c k [] f = pairs_nil ◌≢◌
differ_by p c k (q ∷ requests) f =
    let rest = differ_by p c (suc k) requests (fits_tail p k q requests f) in
    let is = f.numbered zero q refl in
    let qs = requests_by c requests in
    pick (λ qs. AllPairs ◌≢◌ (numbers qs)) (nat_eq q.client c) q qs
    (λ t. AllPairs-cons ◌≢◌ q.number (numbers qs) (λ i d low e. let above = low_by p c (suc k) (suc k) requests (fits_tail p k q requests f) (omega arith) i d low in omega (arith, above, e, is)) rest) rest

each_by : (p : Program) (images : List Image) (c k : ℕ) (requests : List RequestPlan) → CompilesAll p images → Fits p k requests → All (IsPlan c images) (requests_by c requests)
each_by p images c k [] h f = All-nil (IsPlan c images)
each_by p images c k (q ∷ requests) h f =
    let rest = each_by p images c (suc k) requests h (fits_tail p k q requests f) in
    pick (λ qs. All (IsPlan c images) qs) (nat_eq q.client c) q (requests_by c requests)
    (λ t. All-cons (IsPlan c images) q (requests_by c requests) (one_plan p images c q h (all_head (λ (q : RequestPlan). q.iter < length p.iters) q requests f.iters) (all_head (λ (q : RequestPlan). arg_count p q.iter ≡ Some (length q.args.items)) q requests f.args) (eqb-true q.client c t)) rest) rest

pub plans_are : (s : Scenario) (images : List Image) → CompilesAll s.checked images → AreRequests s (s.plan).requests → (c : ℕ) → ArePlans c images (requests_by c (s.plan).requests)
plans_are s images h r c =
    let f : Fits s.checked 0 (s.plan).requests = record { numbered = λ i q e. r.numbered i q e ∙ omega arith; iters = r.iters; args = r.args } in
    record {
      each = each_by s.checked images c 0 (s.plan).requests h f;
      differ = IsDistinct-from_AllPairs Decides-eqb (numbers (requests_by c (s.plan).requests)) (differ_by s.checked c 0 (s.plan).requests f);
    }
