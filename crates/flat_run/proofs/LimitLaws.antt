-- Counts stay at most the limit, and pads keep their length.
use Rattle.std.proofs.Common.{◌≡◌, ◌≢◌, ℕ, zero, suc, ◌+◌, ◌<◌, ◌≤◌, Bool, true, false, nat_eq, nat_lt, List, [], ◌∷◌, length, set, Option, Some, None, if◌then◌else◌, refl, sym, ap, subst, ◌∙◌, arith}
use Rattle.std.specs.Prelude.{slice_get}
use Rattle.range_table.specs.declared.region.RegionSpan.{RegionSpan}
use Rattle.range_table.specs.Memory.{Arrival, Here, NotReadable, Unmapped, arrive, may_write}
use Rattle.iter_check.specs.Iteration.{Iterated, Done, Goes, Fault}
use Rattle.iter_check.specs.Laws.{Leaves}
use Rattle.iter_check.proofs.LengthLaws.{iteration_leaves}
use Rattle.flat_run.specs.declared.state.FlatRequest.{FlatRequest}
use Rattle.flat_run.specs.declared.state.FlatRequest.TheVariants as request
use Rattle.flat_run.specs.declared.state.FlatState.{FlatState}
use Rattle.flat_run.specs.Walk.{Walk, record_size}
use Rattle.flat_run.specs.Region.{spans, record_at}
use Rattle.flat_run.specs.Step.{Next, next_at, next_from, next_of, iterates, settled, settled_next, flat_step}
use Rattle.flat_run.specs.Laws.{LimitLaw, WithinLimit, count_of, PadLaw, PadHas}
use Rattle.flat_run.proofs.RunLaws.{others_stay}

-- what the next iteration of a request that is ready has of it
pub record Fresh (limit n : ℕ) (pad : List ℕ) (t : Next) : Type 0 where
  pub below : t.count < limit
  pub pad_is : t.pad ≡ pad

fresh_at : (limit : ℕ) (w : Walk) (cur : ℕ) (pad : List ℕ) (n : ℕ) (a : Arrival) (t : Next) → n < limit → next_at w cur pad n a ≡ Some t → Fresh limit n pad t
fresh_at limit w cur pad n (Here i) t h e =
    let q : record { walk = w; region = i; cur = cur; pad = pad; count = n } ≡ t = cc in
    subst (Fresh limit n pad) q (record { below = h; pad_is = refl })
fresh_at limit w cur pad n NotReadable t h e = absurd (cc)
fresh_at limit w cur pad n Unmapped t h e = absurd (cc)

fresh_if : (b : Bool) (limit : ℕ) (w : Walk) (cur : ℕ) (pad : List ℕ) (n : ℕ) (a : Arrival) (t : Next) → nat_lt n limit ≡ b → (if b then next_at w cur pad n a else None) ≡ Some t → Fresh limit n pad t
fresh_if true limit w cur pad n a t b e = let lt : n < limit = grind arith in fresh_at limit w cur pad n a t lt e
fresh_if false limit w cur pad n a t b e = absurd (cc)

next_below : (rs : List RegionSpan) (limit : ℕ) (w : Option Walk) (o : Option FlatRequest) (t : Next) → next_from rs limit w o ≡ Some t → t.count < limit
next_below rs limit (Some w) (Some (request.Ready cur pad n)) t e = (fresh_if (nat_lt n limit) limit w cur pad n (arrive rs cur (record_size w)) t refl e).below
next_below rs limit (Some w) (Some (request.Done pad n)) t e = absurd (cc)
next_below rs limit (Some w) (Some (request.Fault k cur n)) t e = absurd (cc)
next_below rs limit (Some w) None t e = absurd (cc)
next_below rs limit None o t e = absurd (cc)

next_pad : (rs : List RegionSpan) (limit m : ℕ) (w : Option Walk) (o : Option FlatRequest) (t : Next) → next_from rs limit w o ≡ Some t → PadHas m o → length t.pad ≡ m
next_pad rs limit m (Some w) (Some (request.Ready cur pad n)) t e h = ap length (fresh_if (nat_lt n limit) limit w cur pad n (arrive rs cur (record_size w)) t refl e).pad_is ∙ h
next_pad rs limit m (Some w) (Some (request.Done pad n)) t e h = absurd (cc)
next_pad rs limit m (Some w) (Some (request.Fault k cur n)) t e h = absurd (cc)
next_pad rs limit m (Some w) None t e h = absurd (cc)
next_pad rs limit m None o t e h = absurd (cc)

-- what is read where it was written
written : {A : Type 0} (xs : List A) (i : ℕ) (x y : A) → slice_get (set xs i x) i ≡ Some y → x ≡ y
written [] i x y e = absurd (cc)
written (z ∷ xs) zero x y e = cc
written (z ∷ xs) (suc i) x y e = written xs i x y e

settled_within : (limit : ℕ) (s : FlatState) (r : ℕ) (t : Next) (x : Iterated) (q : FlatRequest) → t.count < limit → slice_get (settled s r t x).requests r ≡ Some q → count_of q ≤ limit
settled_within limit s r t (Done bytes pad) q h e = subst (λ y. count_of y ≤ limit) (written s.requests r (request.Done pad (t.count + 1)) q e) (omega (arith, h))
settled_within limit s r t (Goes to bytes pad) q h e = subst (λ y. count_of y ≤ limit) (written s.requests r (request.Ready to pad (t.count + 1)) q e) (omega (arith, h))
settled_within limit s r t (Fault k) q h e = subst (λ y. count_of y ≤ limit) (written s.requests r _ q e) (omega (arith, h))

own_within : (limit : ℕ) (s : FlatState) (r : ℕ) (o : Option Next) (q : FlatRequest) → ((t : Next) → o ≡ Some t → t.count < limit) → WithinLimit limit s → slice_get (settled_next s r o).requests r ≡ Some q → count_of q ≤ limit
own_within limit s r None q f h e = h r q e
own_within limit s r (Some t) q f h e = settled_within limit s r t (iterates s t) q (f t refl) e

step_within : (walks : List Walk) (limit : ℕ) (s : FlatState) (r i : ℕ) (q : FlatRequest) (b : Bool) → nat_eq i r ≡ b → WithinLimit limit s → slice_get (flat_step walks limit s r).requests i ≡ Some q → count_of q ≤ limit
step_within walks limit s r i q true e h f =
    let same : i ≡ r = grind arith in
    own_within limit s r (next_of walks limit s r) q (λ t g. next_below (spans s.regions) limit (slice_get walks r) (slice_get s.requests r) t g) h
    (ap (slice_get (flat_step walks limit s r).requests) (sym same) ∙ f)
step_within walks limit s r i q false e h f =
    let other : i ≢ r = λ g. absurd (let k : i ≡ r = g in grind arith) in
    h i q (sym (others_stay walks limit s r i other) ∙ f)

pub limits_stay : LimitLaw
limits_stay walks limit s [] h = h
limits_stay walks limit s (r ∷ order) h = limits_stay walks limit (flat_step walks limit s r) order (λ i q e. step_within walks limit s r i q (nat_eq i r) refl h e)

put_pad : (m : ℕ) (rs : List FlatRequest) (i : ℕ) (x : FlatRequest) → PadHas m (Some x) → PadHas m (slice_get (set rs i x) i)
put_pad m [] i x h = tt
put_pad m (z ∷ rs) zero x h = h
put_pad m (z ∷ rs) (suc i) x h = put_pad m rs i x h

settled_pad : (m : ℕ) (s : FlatState) (r : ℕ) (t : Next) (x : Iterated) → length t.pad ≡ m → Leaves (length (record_at s.regions t.region t.cur (record_size t.walk))) (length t.pad) x → PadHas m (slice_get (settled s r t x).requests r)
settled_pad m s r t (Done bytes pad) h l = put_pad m s.requests r (request.Done pad (t.count + 1)) (l.1 ∙ h)
settled_pad m s r t (Goes to bytes pad) h l = put_pad m s.requests r (request.Ready to pad (t.count + 1)) (l.1 ∙ h)
settled_pad m s r t (Fault k) h l = put_pad m s.requests r _ tt

own_pad : (m : ℕ) (s : FlatState) (r : ℕ) (o : Option Next) → ((t : Next) → o ≡ Some t → length t.pad ≡ m) → PadHas m (slice_get s.requests r) → PadHas m (slice_get (settled_next s r o).requests r)
own_pad m s r None f h = h
own_pad m s r (Some t) f h =
    settled_pad m s r t (iterates s t) (f t refl)
    (iteration_leaves t.walk.fields t.walk.iter (record_at s.regions t.region t.cur (record_size t.walk)) t.cur t.pad (may_write (spans s.regions) t.region))

step_pad : (walks : List Walk) (limit : ℕ) (s : FlatState) (r i m : ℕ) (b : Bool) → nat_eq i r ≡ b → PadHas m (slice_get s.requests i) → PadHas m (slice_get (flat_step walks limit s r).requests i)
step_pad walks limit s r i m true e h =
    let same : i ≡ r = grind arith in
    subst (λ k. PadHas m (slice_get (flat_step walks limit s r).requests k)) (sym same)
    (own_pad m s r (next_of walks limit s r) (λ t g. next_pad (spans s.regions) limit m (slice_get walks r) (slice_get s.requests r) t g (subst (λ k. PadHas m (slice_get s.requests k)) same h))
    (subst (λ k. PadHas m (slice_get s.requests k)) same h))
step_pad walks limit s r i m false e h =
    let other : i ≢ r = λ g. absurd (let k : i ≡ r = g in grind arith) in
    subst (PadHas m) (sym (others_stay walks limit s r i other)) h

pub pads_stay : PadLaw
pads_stay walks limit s [] r m h = h
pads_stay walks limit s (q ∷ order) r m h = pads_stay walks limit (flat_step walks limit s q) order r m (step_pad walks limit s q r m (nat_eq r q) refl h)
