-- Whole orders of a flat run, and the answers that are due after them, seen by functions.
use Rattle.std.proofs.Common.{◌≡◌, ℕ, ◌<◌, Bool, true, false, ◌&&◌, List, [], ◌∷◌, length, map, Option, Some, None, refl, sym, ap, ◌∙◌, nat_eq, if◌then◌else◌, arith}
use Rattle.std.specs.Prelude.{slice_get, option_map}
use Rattle.pulse_base.specs.declared.answer.Answer.{Answer}
use Rattle.pulse_base.specs.declared.answer.Answer.TheVariants as answer
use Rattle.range_table.specs.declared.region.RegionSpan.{RegionSpan}
use Rattle.range_table.specs.Memory.{Here, NotReadable, arrive, arrival_in, region_of, may_read}
use Rattle.iter_check.specs.Iteration.{Iterated}
use Rattle.iter_check.specs.Iteration as i
use Rattle.flat_run.specs.declared.state.FlatRegion.{FlatRegion}
use Rattle.flat_run.specs.declared.state.FlatRequest.{FlatRequest}
use Rattle.flat_run.specs.declared.state.FlatRequest.TheVariants as request
use Rattle.flat_run.specs.declared.state.FlatState.{FlatState}
use Rattle.flat_run.specs.Walk.{Walk, record_size}
use Rattle.flat_run.specs.Region.{spans, shape}
use Rattle.flat_run.specs.Step.{Next, next_of, can_step, settled, iterates, settled_next, flat_step}
use Rattle.flat_run.specs.Run.{flat_run, is_legal}
use Rattle.flat_run.specs.Due.{due_at, due_from, due}
use Rattle.flat_run.proofs.ShapeLaws.{shapes_stay}
use Rattle.run_laws.specs.Plan as p
use Rattle.run_laws.specs.Flat as f
use Rattle.run_laws.specs.Spines.Sound.{Each}
use Rattle.run_views.specs.Setting.{Setting, plan_of}
use Rattle.event_run.proofs.Lists.{get_low, many_set}
use Rattle.run_explained.specs.View.{request_view, begins_in, flat_view, answer_view}
use Rattle.run_explained.proofs.Steps.{AreWalksOf, IsStateOf, most, arrives_alike, same_step}

-- ---- a step leaves a state of the same run

spans_in : (regions : List FlatRegion) → map (λ (z : RegionSpan × ℕ). z.0) (map shape regions) ≡ spans regions
spans_in [] = refl
spans_in (r ∷ regions) = ap (λ l. r.span ∷ l) (spans_in regions)

settled_many : (x : FlatState) (r : ℕ) (t : Next) (o : Iterated) → length (settled x r t o).requests ≡ length x.requests
settled_many x r t (i.Done b pad) = many_set x.requests r _
settled_many x r t (i.Goes to b pad) = many_set x.requests r _
settled_many x r t (i.Fault c) = many_set x.requests r _

next_many : (x : FlatState) (r : ℕ) (o : Option Next) → length (settled_next x r o).requests ≡ length x.requests
next_many x r None = refl
next_many x r (Some t) = settled_many x r t (iterates x t)

step_stays : (u : Setting) (walks : List Walk) (x : FlatState) (r : ℕ) → IsStateOf u walks x → IsStateOf u walks (flat_step walks (most u) x r)
step_stays u walks x r st = record {
  table = sym (spans_in (flat_step walks (most u) x r).regions) ∙ ap (map (λ (z : RegionSpan × ℕ). z.0)) (shapes_stay walks (most u) x (r ∷ [])) ∙ spans_in x.regions ∙ st.table;
  many = next_many x r (next_of walks (most u) x r) ∙ st.many;
}

pub run_stays : (u : Setting) (walks : List Walk) (x : FlatState) (order : List ℕ) → IsStateOf u walks x → IsStateOf u walks (flat_run walks (most u) x order)
run_stays u walks x [] st = st
run_stays u walks x (r ∷ order) st = run_stays u walks (flat_step walks (most u) x r) order (step_stays u walks x r st)

-- ---- orders

pub same_run : (u : Setting) (walks : List Walk) (x : FlatState) (order : List ℕ) → AreWalksOf u walks → IsStateOf u walks x → Each (λ r. r < length walks) order
    → (f.is_legal (plan_of u) (flat_view u x) order ≡ is_legal walks (most u) x order)
    × (f.flat_run (plan_of u) (flat_view u x) order ≡ flat_view u (flat_run walks (most u) x order))
same_run u walks x [] of st low = (refl, refl)
same_run u walks x (r ∷ order) of st low =
    let step = same_step u walks x r of st low.0 in
    let rest = same_run u walks (flat_step walks (most u) x r) order of (step_stays u walks x r st) low.1 in (
      (λ j. step.0 j && f.is_legal (plan_of u) (step.1 j) order) ∙ ap (λ b. can_step walks (most u) x r && b) rest.0,
      ap (λ z. f.flat_run (plan_of u) z order) step.1 ∙ rest.1,
    )

-- ---- what is due

due_read : (cur n k : ℕ) (b : Bool) → option_map answer_view (due_at cur n (if b then Here k else NotReadable)) ≡ f.due_at cur n (if b then p.Here k else p.Barred)
due_read cur n k true = refl
due_read cur n k false = refl

due_region : (u : Setting) (walks : List Walk) (x : FlatState) (cur n : ℕ) (o : Option ℕ) → IsStateOf u walks x
    → option_map answer_view (due_at cur n (arrival_in (spans x.regions) o)) ≡ f.due_at cur n (p.arrival (plan_of u) o)
due_region u walks x cur n None st = refl
due_region u walks x cur n (Some k) st =
    due_read cur n k (may_read (spans x.regions) k) ∙ ap (λ z. f.due_at cur n (if may_read z k then p.Here k else p.Barred)) st.table

due_count : (n : ℕ) (b : Bool) (a : Option Answer) (c : Option f.Answer) → option_map answer_view a ≡ c
    → option_map answer_view (if b then Some (answer.Spent n) else a) ≡ (if b then Some (f.Spent n) else c)
due_count n true a c e = refl
due_count n false a c e = e

due_request : (u : Setting) (walks : List Walk) (x : FlatState) (r : ℕ) (w : Walk) (q : FlatRequest) → AreWalksOf u walks → IsStateOf u walks x → slice_get walks r ≡ Some w
    → option_map answer_view (due_from (spans x.regions) (most u) (Some w) (Some q)) ≡ f.due (plan_of u) r (request_view (begins_in u r) (Some q))
due_request u walks x r w (request.Done pad n) of st e = refl
due_request u walks x r w (request.Fault kind cur n) of st e = refl
due_request u walks x r w (request.Ready cur pad n) of st e =
    due_count n (nat_eq n (most u)) (due_at cur n (arrive (spans x.regions) cur (record_size w))) (f.due_at cur n (p.arrive (plan_of u) r cur))
    (due_region u walks x cur n (region_of (spans x.regions) cur (record_size w)) st ∙ ap (f.due_at cur n) (sym (arrives_alike u walks x r w cur of st e)))

pub same_due : (u : Setting) (walks : List Walk) (x : FlatState) (r : ℕ) → AreWalksOf u walks → IsStateOf u walks x → r < length walks
    → option_map answer_view (due walks (most u) x r) ≡ f.due (plan_of u) r ((flat_view u x).requests r)
same_due u walks x r of st low =
    let w = get_low walks r low in
    let q = get_low x.requests r (let same = st.many in omega (arith, low, same)) in
    (λ j. option_map answer_view (due_from (spans x.regions) (most u) (w.1 j) (q.1 j)))
    ∙ due_request u walks x r w.0 q.0 of st w.1
    ∙ (λ j. f.due (plan_of u) r (request_view (begins_in u r) (sym q.1 j)))
