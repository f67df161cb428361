-- The flat run of the laws of runs over a scenario's setting is the scenario's flat run.
use Rattle.std.proofs.Common.{◌≡◌, ℕ, zero, suc, ◌+◌, ◌<◌, ◌≤◌, inl, inr, Bool, true, false, List, [], ◌∷◌, length, map, filter_map, Option, Some, None, refl, sym, ap, ◌∙◌, subst, nat_eq, if◌then◌else◌, arith}
use Rattle.std.proofs.lemmas.Bool.{cases_lt}
use Rattle.std.proofs.lemmas.List.{length-map}
use Rattle.std.proofs.lemmas.Option.{slice_get-map, get_or_from_slice_get, slice_get_past}
use Rattle.std.specs.Prelude.{slice_get, slice_index_or, option_map}
use Rattle.std.specs.List.{cons_option}
use Rattle.std.specs.Option.{option_or}
use Rattle.pulse_base.specs.declared.plan.RequestPlan.{RequestPlan}
use Rattle.iter_syntax.specs.declared.tree.Iter.{Iter}
use Rattle.iter_syntax.specs.declared.tree.Program.{Program}
use Rattle.iter_check.specs.FaultList.{record_fields}
use Rattle.iter_check.specs.Iteration.{Begun, begin, iteration}
use Rattle.iter_check.specs.Iteration as i
use Rattle.scenario_text.specs.declared.plan.PlanRegion.{PlanRegion}
use Rattle.scenario_text.specs.declared.scenario.Scenario.{Scenario}
use Rattle.scenario_text.specs.Accepted.{IsRunnable}
use Rattle.flat_run.specs.Walk.{Walk, record_size}
use Rattle.flat_run.specs.Request.{asked}
use Rattle.flat_run.specs.Request as request
use Rattle.flat_run.specs.Region.{spans}
use Rattle.run_rules.specs.declared.node.NodeRegion.{NodeRegion}
use Rattle.run_rules.specs.Node.{size_in}
use Rattle.run_laws.specs.Flat as f
use Rattle.run_laws.specs.Spines.Sound.{Each}
use Rattle.run_views.specs.Setting.{Setting, begun_view, owner_of}
use Rattle.run_views.specs.Setting as setting
use Rattle.run_views.specs.Nodes.{bytes_numbered}
use Rattle.event_run.specs.Always.{node_at}
use Rattle.event_run.specs.Laws.{flat_start}
use Rattle.event_run.proofs.Lists.{get_low, low_get}
use Rattle.scenario_flat.specs.Runs.{flat_region, walk_of, walks_of, first_of, after}
use Rattle.scenario_run.specs.Setting.{outcome_of, begun_of, iterate_by, begin_by, sizes_of, request_of, iter_in, begin_in, setting_of}
use Rattle.scenario_run.specs.Start.{regions_on, first_node, first_nodes, start_of}
use Rattle.run_explained.specs.View.{region_bytes, request_view, begins_in, flat_view}
use Rattle.run_explained.specs.Laws.{FlatStartIs, FlatIs, DueIs, NamesRequests}
use Rattle.run_explained.proofs.Steps.{AreWalksOf, IsStateOf}
use Rattle.run_explained.proofs.Orders.{run_stays, same_run, same_due}

-- ---- the walks

abbrev IterIsThere : Program → List RequestPlan → Type 0
IterIsThere p qs = (k : ℕ) (q : RequestPlan) → slice_get qs k ≡ Some q → q.iter < length p.iters

abbrev walk_by : Program → RequestPlan → Iter → Walk
walk_by p q it = record { fields = record_fields p.records it; iter = it; args = q.args.items }

-- the request and the iterator of a walk
record IsWalkOf (p : Program) (qs : List RequestPlan) (r : ℕ) (w : Walk) : Type 0 where
  request : RequestPlan
  iter : Iter
  at : slice_get qs r ≡ Some request
  there : slice_get p.iters request.iter ≡ Some iter
  same : walk_by p request iter ≡ w

first_walk : (p : Program) (q : RequestPlan) (qs : List RequestPlan) (it : Iter) → slice_get p.iters q.iter ≡ Some it
    → filter_map (walk_of p) (q ∷ qs) ≡ walk_by p q it ∷ filter_map (walk_of p) qs
first_walk p q qs it e = ap (λ z. cons_option (option_map (λ i. walk_by p q i) z) (filter_map (walk_of p) qs)) e

walk_there : (p : Program) (qs : List RequestPlan) (r : ℕ) (w : Walk) → IterIsThere p qs → slice_get (filter_map (walk_of p) qs) r ≡ Some w → IsWalkOf p qs r w
walk_there p [] r w h e = absurd (cc)
walk_there p (q ∷ qs) r w h e =
    let it = get_low p.iters q.iter (h 0 q refl) in
    walk_in p q qs it.0 r w it.1 (walk_there p qs) (λ k y d. h (suc k) y d) (ap (λ z. slice_get z r) (sym (first_walk p q qs it.0 it.1)) ∙ e)
  where
    walk_in : (p : Program) (q : RequestPlan) (qs : List RequestPlan) (it : Iter) (r : ℕ) (w : Walk) → slice_get p.iters q.iter ≡ Some it
        → ((r : ℕ) (w : Walk) → IterIsThere p qs → slice_get (filter_map (walk_of p) qs) r ≡ Some w → IsWalkOf p qs r w)
        → IterIsThere p qs → slice_get (walk_by p q it ∷ filter_map (walk_of p) qs) r ≡ Some w → IsWalkOf p (q ∷ qs) r w
    walk_in p q qs it zero w at more h e = record { request = q; iter = it; at = refl; there = at; same = cc }
    walk_in p q qs it (suc r) w at more h e = let x = more r w h e in record { request = x.request; iter = x.iter; at = x.at; there = x.there; same = x.same }

many_walks : (p : Program) (qs : List RequestPlan) → IterIsThere p qs → length (filter_map (walk_of p) qs) ≡ length qs
many_walks p [] h = refl
many_walks p (q ∷ qs) h =
    let it = get_low p.iters q.iter (h 0 q refl) in
    ap length (first_walk p q qs it.0 it.1) ∙ ap suc (many_walks p qs (λ k y d. h (suc k) y d))

iters_there : (s : Scenario) → IsRunnable s → IterIsThere s.checked (s.plan).requests
iters_there s h k q e =
    let low = low_get (s.plan).requests k q e in
    subst (λ (z : RequestPlan). z.iter < length (s.checked).iters) (get_or_from_slice_get (s.plan).requests k q q e) (h.requests.iters k q low)

pub walks_many : (s : Scenario) → IsRunnable s → length (walks_of s) ≡ length (s.plan).requests
walks_many s h = many_walks s.checked (s.plan).requests (iters_there s h)

-- they are those of the setting
pub walks_are : (s : Scenario) (h : IsRunnable s) → AreWalksOf (setting_of s h) (walks_of s)
walks_are s h = record { sizes = sizes; begins = begins; iterates = iterates }
  where
    found : (r : ℕ) (w : Walk) → slice_get (walks_of s) r ≡ Some w → IsWalkOf s.checked (s.plan).requests r w
    found r w e = walk_there s.checked (s.plan).requests r w (iters_there s h) e

    request_is : (r : ℕ) (w : Walk) (x : IsWalkOf s.checked (s.plan).requests r w) → request_of (s.plan).requests r ≡ Some x.request
    request_is r w x = ap (λ o. option_or o (slice_get (s.plan).requests 0)) x.at

    sizes : (r : ℕ) (w : Walk) → slice_get (walks_of s) r ≡ Some w → setting.record_size (setting_of s h) r ≡ record_size w
    sizes r w e =
        let x = found r w e in
        ap (λ o. size_in (slice_get (map (sizes_of s.checked) (s.checked).iters) (iter_in o))) (request_is r w x)
        ∙ ap size_in (slice_get-map (sizes_of s.checked) (s.checked).iters x.request.iter ∙ ap (option_map (sizes_of s.checked)) x.there)
        ∙ ap record_size x.same

    begins : (r : ℕ) (w : Walk) → slice_get (walks_of s) r ≡ Some w → (setting_of s h).begin r ≡ begun_of (begin w.iter w.args)
    begins r w e =
        let x = found r w e in
        ap (begin_in s.checked) (request_is r w x) ∙ ap (λ o. begin_by o x.request.args.items) x.there ∙ ap (λ (z : Walk). begun_of (begin z.iter z.args)) x.same

    iterates : (r : ℕ) (w : Walk) (bytes : List ℕ) (cur : ℕ) (pad : List ℕ) (writable : Bool) → slice_get (walks_of s) r ≡ Some w
        → (setting_of s h).iterate ((setting_of s h).program r) bytes cur pad writable ≡ outcome_of (iteration w.fields w.iter bytes cur pad writable)
    iterates r w bytes cur pad writable e =
        let x = found r w e in
        ap (λ o. iterate_by s.checked (slice_get (s.checked).iters (iter_in o)) bytes cur pad writable) (request_is r w x)
        ∙ ap (λ o. iterate_by s.checked o bytes cur pad writable) x.there
        ∙ ap (λ (z : Walk). outcome_of (iteration z.fields z.iter bytes cur pad writable)) x.same

-- ---- the state at the start

spans_of : (regions : List PlanRegion) → spans (map flat_region regions) ≡ map (λ (r : PlanRegion). r.span) regions
spans_of [] = refl
spans_of (r ∷ regions) = ap (λ l. r.span ∷ l) (spans_of regions)

pub first_is : (s : Scenario) (h : IsRunnable s) → IsStateOf (setting_of s h) (walks_of s) (first_of s)
first_is s h = record { table = spans_of (s.plan).regions; many = length-map (walks_of s) asked }

-- the bytes of a region, on its owner alone
abbrev bytes_if : ℕ → Option PlanRegion → List ℕ
bytes_if n None = []
bytes_if n (Some r) = if nat_eq r.node n then r.bytes else []

-- a region that may be first
abbrev numbered : ℕ → PlanRegion → NodeRegion
numbered k r = record { number = k; span = r.span; bytes = r.bytes }

first_other : (b : Bool) (g : NodeRegion) (regions : List NodeRegion) (j : ℕ) (bytes : List ℕ) → nat_eq g.number j ≡ false → bytes_numbered regions j ≡ bytes
    → bytes_numbered (if b then g ∷ regions else regions) j ≡ bytes
first_other true g regions j bytes e h = ap (λ b. if b then g.bytes else bytes_numbered regions j) e ∙ h
first_other false g regions j bytes e h = h

first_own : (b : Bool) (g : NodeRegion) (regions : List NodeRegion) (j : ℕ) → nat_eq g.number j ≡ true → bytes_numbered regions j ≡ []
    → bytes_numbered (if b then g ∷ regions else regions) j ≡ (if b then g.bytes else [])
first_own true g regions j e h = ap (λ b. if b then g.bytes else bytes_numbered regions j) e
first_own false g regions j e h = h

lower_on : (n k : ℕ) (regions : List PlanRegion) (j : ℕ) → j < k → bytes_numbered (regions_on n k regions) j ≡ []
lower_on n k [] j low = refl
lower_on n k (r ∷ regions) j low =
    let other : nat_eq k j ≡ false = grind arith in
    first_other (nat_eq r.node n) (numbered k r) (regions_on n (suc k) regions) j [] other (lower_on n (suc k) regions j (omega (arith, low)))

bytes_on : (n k : ℕ) (regions : List PlanRegion) (i j : ℕ) → j ≡ k + i → bytes_numbered (regions_on n k regions) j ≡ bytes_if n (slice_get regions i)
bytes_on n k [] i j e = refl
bytes_on n k (r ∷ regions) zero j e =
    let own : nat_eq k j ≡ true = grind arith in
    first_own (nat_eq r.node n) (numbered k r) (regions_on n (suc k) regions) j own (lower_on n (suc k) regions j (omega (arith, e)))
bytes_on n k (r ∷ regions) (suc i) j e =
    let other : nat_eq k j ≡ false = grind arith in
    first_other (nat_eq r.node n) (numbered k r) (regions_on n (suc k) regions) j (bytes_if n (slice_get regions i)) other (bytes_on n (suc k) regions i j (omega (arith, e)))

node_first : (s : Scenario) (n count k : ℕ) → k < count → slice_get (first_nodes s n count) k ≡ Some (first_node s (n + k))
node_first s n zero k low = absurd (omega (arith, low))
node_first s n (suc count) zero low = let e : n ≡ n + 0 = omega arith in ap (λ m. Some (first_node s m)) e
node_first s n (suc count) (suc k) low =
    let e : suc n + k ≡ n + suc k = omega arith in
    node_first s (suc n) count k (omega (arith, low)) ∙ ap (λ m. Some (first_node s m)) e

past_end : (xs : List ℕ) (k : ℕ) → length xs ≤ k → slice_index_or xs k 0 ≡ 0
past_end [] k h = refl
past_end (x ∷ xs) zero h = absurd (omega (arith, h))
past_end (x ∷ xs) (suc k) h = past_end xs k (omega (arith, h))

-- the owner of a region of the plan
pub owner_is : (s : Scenario) (h : IsRunnable s) (i : ℕ) (g : PlanRegion) → slice_get (s.plan).regions i ≡ Some g → owner_of (setting_of s h) i ≡ g.node
owner_is s h i g e =
    get_or_from_slice_get (map (λ (r : PlanRegion). r.node) (s.plan).regions) i g.node 0
    (slice_get-map (λ (r : PlanRegion). r.node) (s.plan).regions i ∙ ap (option_map (λ (r : PlanRegion). r.node)) e)

owner_low : (s : Scenario) (h : IsRunnable s) (i : ℕ) → owner_of (setting_of s h) i < (s.plan).nodes
owner_low s h i = elim (cases_lt i (length (s.plan).regions)) [
  | inl low ↦
      let g = get_low (s.plan).regions i low in
      let is = owner_is s h i g.0 g.1 in
      let placed = subst (λ (z : PlanRegion). z.node < (s.plan).nodes) (get_or_from_slice_get (s.plan).regions i g.0 g.0 g.1) (h.regions.placed i g.0 low) in
      omega (arith, is, placed)
  | inr past ↦
      let many = length-map (s.plan).regions (λ (r : PlanRegion). r.node) in
      let is = past_end (map (λ (r : PlanRegion). r.node) (s.plan).regions) i (omega (arith, past, many)) in
      let some = h.nodes.0 in
      omega (arith, is, some)
]

owned_bytes : (s : Scenario) (h : IsRunnable s) (i : ℕ) (o : Option PlanRegion) → slice_get (s.plan).regions i ≡ o
    → bytes_if (owner_of (setting_of s h) i) o ≡ region_bytes (option_map flat_region o)
owned_bytes s h i None e = refl
owned_bytes s h i (Some g) e =
    let is = owner_is s h i g e in
    let own : nat_eq g.node (owner_of (setting_of s h) i) ≡ true = grind arith in
    ap (λ b. if b then g.bytes else []) own

start_bytes : (s : Scenario) (h : IsRunnable s) (i : ℕ) → (flat_start (setting_of s h) (start_of s)).regions i ≡ (flat_view (setting_of s h) (first_of s)).regions i
start_bytes s h i =
    let u = setting_of s h in
    let own : 0 + owner_of u i ≡ owner_of u i = omega arith in
    ap (λ o. (node_at u o).bytes i) (node_first s 0 (s.plan).nodes (owner_of u i) (owner_low s h i) ∙ ap (λ n. Some (first_node s n)) own)
    ∙ bytes_on (owner_of u i) 0 (s.plan).regions i i (omega arith)
    ∙ owned_bytes s h i (slice_get (s.plan).regions i) refl
    ∙ sym (ap region_bytes (slice_get-map flat_region (s.plan).regions i))

begun_same : (begins : f.FlatRequest) (b : Begun) → f.begun_flat (begun_view (begun_of b)) ≡ request_view begins (Some (request.first_of b))
begun_same begins (i.Ready cur pad) = refl
begun_same begins (i.Ended pad) = refl
begun_same begins i.DivZero = refl

start_request : (s : Scenario) (h : IsRunnable s) (r : ℕ) → (flat_start (setting_of s h) (start_of s)).requests r ≡ (flat_view (setting_of s h) (first_of s)).requests r
start_request s h r =
    let u = setting_of s h in
    let seen = ap (request_view (begins_in u r)) (slice_get-map asked (walks_of s) r) in
    elim (cases_lt r (length (walks_of s))) [
      | inl low ↦
          let w = get_low (walks_of s) r low in
          ap (λ z. f.begun_flat (begun_view z)) ((walks_are s h).begins r w.0 w.1)
          ∙ begun_same (begins_in u r) (begin w.0.iter w.0.args)
          ∙ sym (seen ∙ ap (λ z. request_view (begins_in u r) (option_map asked z)) w.1)
      | inr past ↦ sym (seen ∙ ap (λ z. request_view (begins_in u r) (option_map asked z)) (slice_get_past (walks_of s) r past))
    ]

pub flat_start_is : FlatStartIs
flat_start_is s h = λ j. record { regions = λ i. start_bytes s h i j; requests = λ r. start_request s h r j }

-- ---- the laws

in_walks : (s : Scenario) (h : IsRunnable s) (order : List ℕ) → NamesRequests s order → Each (λ r. r < length (walks_of s)) order
in_walks s h order names = subst (λ n. Each (λ r. r < n) order) (sym (walks_many s h)) names

pub flat_is : FlatIs
flat_is s h order names = same_run (setting_of s h) (walks_of s) (first_of s) order (walks_are s h) (first_is s h) (in_walks s h order names)

pub due_is : DueIs
due_is s h order r low =
    let many = walks_many s h in
    same_due (setting_of s h) (walks_of s) (after s order) r (walks_are s h) (run_stays (setting_of s h) (walks_of s) (first_of s) order (first_is s h)) (omega (arith, low, many))
