-- One step of a flat run, seen by functions.
use Rattle.std.proofs.Common.{◌≡◌, ℕ, ◌+◌, ◌-◌, ◌*◌, ◌<◌, Bool, true, false, ◌&&◌, List, length, take, drop, Option, Some, None, refl, sym, ap, ◌∙◌, subst, arith, nat_eq, nat_lt, if◌then◌else◌, eqb-true}
use Rattle.std.specs.Prelude.{slice_get, slice_set, is_some, option_map}
use Rattle.std.proofs.lemmas.Option.{slice_get-map, get_or_from_slice_get, slice_get_within}
use Rattle.std.proofs.lemmas.List.{length-map}
use Rattle.std.proofs.lemmas.List.Quantifiers.{position-Some}
use Rattle.pulse_base.specs.Cause.{kind_of}
use Rattle.range_table.specs.Memory.{Arrival, Here, NotReadable, arrive, arrival_in, region_of, region_at, may_read, may_write, holds}
use Rattle.iter_check.specs.Iteration.{Iterated, iteration, begin}
use Rattle.iter_check.specs.Iteration as i
use Rattle.flat_run.specs.declared.state.FlatRegion.{FlatRegion}
use Rattle.flat_run.specs.declared.state.FlatRequest.{FlatRequest}
use Rattle.flat_run.specs.declared.state.FlatRequest.TheVariants as request
use Rattle.flat_run.specs.declared.state.FlatState.{FlatState}
use Rattle.flat_run.specs.Walk.{Walk, record_size}
use Rattle.flat_run.specs.Region.{spans, spliced, bytes_at, with_bytes, put_record}
use Rattle.flat_run.specs.Step.{Next, next_at, next_from, can_step, settled, iterates, settled_next, flat_step}
use Rattle.run_laws.specs.Plan as p
use Rattle.run_laws.specs.Flat as f
use Rattle.run_views.specs.Setting.{Setting, plan_of, outcome_view, offset_in}
use Rattle.run_views.specs.Setting as setting
use Rattle.event_run.proofs.Lists.{get_set, get_low}
use Rattle.scenario_run.specs.Setting.{outcome_of, begun_of}
use Rattle.run_explained.specs.View.{region_bytes, request_view, begins_in, flat_view}

pub by_bool : {A : Type 0} (b : Bool) → (b ≡ true → A) → (b ≡ false → A) → A
by_bool true f g = f refl
by_bool false f g = g refl

-- the requests of a setting are these walks
pub record AreWalksOf (u : Setting) (walks : List Walk) : Type 0 where
  pub sizes : (r : ℕ) (w : Walk) → slice_get walks r ≡ Some w → setting.record_size u r ≡ record_size w
  pub begins : (r : ℕ) (w : Walk) → slice_get walks r ≡ Some w → u.begin r ≡ begun_of (begin w.iter w.args)
  pub iterates : (r : ℕ) (w : Walk) (bytes : List ℕ) (cur : ℕ) (pad : List ℕ) (writable : Bool)
      → slice_get walks r ≡ Some w → u.iterate (u.program r) bytes cur pad writable ≡ outcome_of (iteration w.fields w.iter bytes cur pad writable)

-- a state of its flat run
pub record IsStateOf (u : Setting) (walks : List Walk) (x : FlatState) : Type 0 where
  pub table : spans x.regions ≡ u.table
  pub many : length x.requests ≡ length walks

abbrev pub most : Setting → ℕ
most u = u.rounds * u.budget

-- an item that was put, seen by a function of number and item
put_seen : {A B : Type 0} (v : ℕ → Option A → B) (xs : List A) (k : ℕ) (y : A) (q : ℕ) → k < length xs
    → v q (slice_get (slice_set xs k y) q) ≡ p.put (λ j. v j (slice_get xs j)) k (v k (Some y)) q
put_seen v xs k y q h = by_bool (nat_eq q k)
    (λ t. ap (v q) (get_set xs k y q h) ∙ ap (λ b. v q (if b then Some y else slice_get xs q)) t ∙ ap (λ j. v j (Some y)) (eqb-true q k t)
    ∙ sym (ap (λ b. if b then v k (Some y) else v q (slice_get xs q)) t))
    (λ t. ap (v q) (get_set xs k y q h) ∙ ap (λ b. v q (if b then Some y else slice_get xs q)) t
    ∙ sym (ap (λ b. if b then v k (Some y) else v q (slice_get xs q)) t))

put_own : {B : Type 0} (g : ℕ → B) (k q : ℕ) → g q ≡ p.put g k (g k) q
put_own g k q = by_bool (nat_eq q k)
    (λ t. ap g (eqb-true q k t) ∙ sym (ap (λ b. if b then g k else g q) t))
    (λ t. sym (ap (λ b. if b then g k else g q) t))

-- the regions after a record was written
regions_seen : (regions : List FlatRegion) (k cur : ℕ) (new : List ℕ) (g : FlatRegion) (q : ℕ) → slice_get regions k ≡ Some g
    → region_bytes (slice_get (put_record regions k cur new) q) ≡ p.put (λ j. region_bytes (slice_get regions j)) k (spliced g.bytes (cur - g.span.base) new) q
regions_seen regions k cur new g q e =
    ap (λ o. region_bytes (slice_get (with_bytes regions k cur new o) q)) e
    ∙ put_seen (λ n. region_bytes) regions k (record g { bytes = spliced g.bytes (cur - g.span.base) new }) q (slice_get_within regions k g e)

-- what an iteration leaves
settled_seen : (u : Setting) (x : FlatState) (r : ℕ) (t : Next) (g : FlatRegion) (o : Iterated) → slice_get x.regions t.region ≡ Some g → r < length x.requests
    → flat_view u (settled x r t o) ≡ f.settled (flat_view u x) r t.region t.cur t.count (outcome_view g.bytes (t.cur - g.span.base) (outcome_of o))
settled_seen u x r t g (i.Done b pad) e h = λ j. record {
  regions = λ q. regions_seen x.regions t.region t.cur b g q e j;
  requests = λ q. put_seen (λ n. request_view (begins_in u n)) x.requests r (request.Done pad (t.count + 1)) q h j;
}
settled_seen u x r t g (i.Goes to b pad) e h = λ j. record {
  regions = λ q. regions_seen x.regions t.region t.cur b g q e j;
  requests = λ q. put_seen (λ n. request_view (begins_in u n)) x.requests r (request.Ready to pad (t.count + 1)) q h j;
}
settled_seen u x r t g (i.Fault c) e h = λ j. record {
  regions = λ q. put_own (λ n. region_bytes (slice_get x.regions n)) t.region q j;
  requests = λ q. put_seen (λ n. request_view (begins_in u n)) x.requests r (request.Fault (kind_of c) t.cur t.count) q h j;
}

span_is : (regions : List FlatRegion) (k : ℕ) (g : FlatRegion) → slice_get regions k ≡ Some g → region_at (spans regions) k ≡ g.span
span_is regions k g e = get_or_from_slice_get (spans regions) k g.span _ (slice_get-map (λ (z : FlatRegion). z.span) regions k ∙ ap (option_map (λ (z : FlatRegion). z.span)) e)

-- a request that is ready, and what it meets: both sides alike
abbrev Alike : Setting → FlatState → ℕ → Walk → ℕ → List ℕ → ℕ → p.Arrival → Arrival → Type 0
Alike u x r w cur pad n a b = (f.is_here a ≡ is_some (next_at w cur pad n b))
    × (f.flat_at (plan_of u) (flat_view u x) r cur pad n a ≡ flat_view u (settled_next x r (next_at w cur pad n b)))

here : (u : Setting) (walks : List Walk) (x : FlatState) (r : ℕ) (w : Walk) (cur : ℕ) (pad : List ℕ) (n k : ℕ)
    → AreWalksOf u walks → IsStateOf u walks x → slice_get walks r ≡ Some w → region_of (spans x.regions) cur (record_size w) ≡ Some k
    → Alike u x r w cur pad n (p.Here k) (Here k)
here u walks x r w cur pad n k of st e at =
    let t : Next = record { walk = w; region = k; cur = cur; pad = pad; count = n } in
    let inside = (position-Some (λ z. holds z cur (record_size w)) (spans x.regions) k (record { base = 0; len = 0; read = false; write = false }) at).0 in
    let many = length-map x.regions (λ (z : FlatRegion). z.span) in
    let g = get_low x.regions k (omega (arith, inside, many)) in
    let low = slice_get_within walks r w e in
    let h : r < length x.requests = (let same = st.many in omega (arith, low, same)) in
    let span : region_at u.table k ≡ g.0.span = ap (λ z. region_at z k) (sym st.table) ∙ span_is x.regions k g.0 g.1 in
    let outcome : (plan_of u).iterate r k ((flat_view u x).regions k) cur pad ≡ outcome_view g.0.bytes (cur - g.0.span.base) (outcome_of (iterates x t)) =
    (λ j. outcome_view (region_bytes (g.1 j)) (cur - (span j).base)
    (u.iterate (u.program r) (take (of.sizes r w e j) (drop (cur - (span j).base) (region_bytes (g.1 j)))) cur pad (may_write (sym st.table j) k)))
    ∙ ap (outcome_view g.0.bytes (cur - g.0.span.base)) (of.iterates r w (take (record_size w) (drop (cur - g.0.span.base) g.0.bytes)) cur pad (may_write (spans x.regions) k) e)
    ∙ (λ j. outcome_view g.0.bytes (cur - g.0.span.base) (outcome_of (iteration w.fields w.iter (bytes_at (sym g.1 j) cur (record_size w)) cur pad (may_write (spans x.regions) k)))) in
    (refl, ap (f.settled (flat_view u x) r k cur n) outcome ∙ sym (settled_seen u x r t g.0 (iterates x t) g.1 h))

at_read : (u : Setting) (walks : List Walk) (x : FlatState) (r : ℕ) (w : Walk) (cur : ℕ) (pad : List ℕ) (n k : ℕ) (b : Bool)
    → AreWalksOf u walks → IsStateOf u walks x → slice_get walks r ≡ Some w → region_of (spans x.regions) cur (record_size w) ≡ Some k
    → Alike u x r w cur pad n (if b then p.Here k else p.Barred) (if b then Here k else NotReadable)
at_read u walks x r w cur pad n k true of st e at = here u walks x r w cur pad n k of st e at
at_read u walks x r w cur pad n k false of st e at = (refl, refl)

at_region : (u : Setting) (walks : List Walk) (x : FlatState) (r : ℕ) (w : Walk) (cur : ℕ) (pad : List ℕ) (n : ℕ) (o : Option ℕ)
    → AreWalksOf u walks → IsStateOf u walks x → slice_get walks r ≡ Some w → region_of (spans x.regions) cur (record_size w) ≡ o
    → Alike u x r w cur pad n (p.arrival (plan_of u) o) (arrival_in (spans x.regions) o)
at_region u walks x r w cur pad n None of st e at = (refl, refl)
at_region u walks x r w cur pad n (Some k) of st e at =
    subst (λ z. Alike u x r w cur pad n (if may_read z k then p.Here k else p.Barred) (if may_read (spans x.regions) k then Here k else NotReadable)) st.table
    (at_read u walks x r w cur pad n k (may_read (spans x.regions) k) of st e at)

pub arrives_alike : (u : Setting) (walks : List Walk) (x : FlatState) (r : ℕ) (w : Walk) (cur : ℕ)
    → AreWalksOf u walks → IsStateOf u walks x → slice_get walks r ≡ Some w
    → p.arrive (plan_of u) r cur ≡ p.arrival (plan_of u) (region_of (spans x.regions) cur (record_size w))
arrives_alike u walks x r w cur of st e = λ j. p.arrival (plan_of u) (region_of (sym st.table j) cur (of.sizes r w e j))

-- a request, whatever it is
abbrev SameTurn : Setting → FlatState → ℕ → f.FlatRequest → Option Next → Type 0
SameTurn u x r q o = (f.can_turn (plan_of u) r q ≡ is_some o) × (f.flat_turn (plan_of u) (flat_view u x) r q ≡ flat_view u (settled_next x r o))

at_count : (u : Setting) (x : FlatState) (r : ℕ) (w : Walk) (cur : ℕ) (pad : List ℕ) (n : ℕ) (a : p.Arrival) (c : Arrival) (b : Bool)
    → Alike u x r w cur pad n a c
    → ((b && f.is_here a) ≡ is_some (if b then next_at w cur pad n c else None))
    × ((if b then f.flat_at (plan_of u) (flat_view u x) r cur pad n a else flat_view u x) ≡ flat_view u (settled_next x r (if b then next_at w cur pad n c else None)))
at_count u x r w cur pad n a c true h = h
at_count u x r w cur pad n a c false h = (refl, refl)

at_request : (u : Setting) (walks : List Walk) (x : FlatState) (r : ℕ) (w : Walk) (q : FlatRequest) → AreWalksOf u walks → IsStateOf u walks x → slice_get walks r ≡ Some w
    → SameTurn u x r (request_view (begins_in u r) (Some q)) (next_from (spans x.regions) (most u) (Some w) (Some q))
at_request u walks x r w (request.Done pad n) of st e = (refl, refl)
at_request u walks x r w (request.Fault kind cur n) of st e = (refl, refl)
at_request u walks x r w (request.Ready cur pad n) of st e =
    at_count u x r w cur pad n (p.arrive (plan_of u) r cur) (arrive (spans x.regions) cur (record_size w)) (nat_lt n (most u))
    (subst (λ a. Alike u x r w cur pad n a (arrive (spans x.regions) cur (record_size w))) (sym (arrives_alike u walks x r w cur of st e))
    (at_region u walks x r w cur pad n (region_of (spans x.regions) cur (record_size w)) of st e refl))

pub same_step : (u : Setting) (walks : List Walk) (x : FlatState) (r : ℕ) → AreWalksOf u walks → IsStateOf u walks x → r < length walks
    → (f.can_turn (plan_of u) r ((flat_view u x).requests r) ≡ can_step walks (most u) x r)
    × (f.flat_step (plan_of u) (flat_view u x) r ≡ flat_view u (flat_step walks (most u) x r))
same_step u walks x r of st low =
    let w = get_low walks r low in
    let q = get_low x.requests r (let same = st.many in omega (arith, low, same)) in
    subst (λ z. SameTurn u x r (request_view (begins_in u r) z) (next_from (spans x.regions) (most u) (slice_get walks r) z)) (sym q.1)
    (subst (λ z. SameTurn u x r (request_view (begins_in u r) (Some q.0)) (next_from (spans x.regions) (most u) z (Some q.0))) (sym w.1)
    (at_request u walks x r w.0 q.0 of st w.1))
