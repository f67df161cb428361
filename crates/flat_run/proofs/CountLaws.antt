-- In a legal order each request counts its places.
use Rattle.std.proofs.Common.{◌≡◌, ◌≢◌, ℕ, ◌+◌, Bool, true, false, nat_eq, nat_lt, List, [], ◌∷◌, is_some, cond, ◌==◌, Option, Some, None, if◌then◌else◌, refl, sym, ap, subst, ◌∙◌, arith}
use Rattle.std.specs.Prelude.{slice_get}
use Rattle.std.proofs.lemmas.Bool.{and_parts}
use Rattle.std.proofs.lemmas.List.Recursion.{is_count_by}
use Rattle.range_table.specs.declared.region.RegionSpan.{RegionSpan}
use Rattle.range_table.specs.Memory.{Arrival, Here, NotReadable, Unmapped, arrive}
use Rattle.iter_check.specs.Iteration.{Iterated, Done, Goes, Fault}
use Rattle.flat_run.specs.declared.state.FlatRequest.{FlatRequest}
use Rattle.flat_run.specs.declared.state.FlatRequest.TheVariants as request
use Rattle.flat_run.specs.declared.state.FlatState.{FlatState}
use Rattle.flat_run.specs.Walk.{Walk, record_size}
use Rattle.flat_run.specs.Region.{spans}
use Rattle.flat_run.specs.Step.{Next, next_at, next_from, next_of, can_step, iterates, settled, settled_next, flat_step}
use Rattle.flat_run.specs.Run.{flat_run, is_legal}
use Rattle.flat_run.specs.Laws.{CountLaw, iterations_made}
use Rattle.flat_run.proofs.RecordLaws.{get_same}
use Rattle.flat_run.proofs.RunLaws.{others_stay}

-- a turn is of a request that is there, and has its count
pub record Stands (o : Option FlatRequest) (t : Next) : Type 0 where
  pub it : FlatRequest
  pub is : o ≡ Some it
  pub made : iterations_made o ≡ t.count

next_at_counts : (w : Walk) (cur : ℕ) (pad : List ℕ) (n : ℕ) (a : Arrival) (t : Next) → next_at w cur pad n a ≡ Some t → n ≡ t.count
next_at_counts w cur pad n (Here i) t e = let q : t ≡ record { walk = w; region = i; cur = cur; pad = pad; count = n } = cc in sym (ap (λ (x : Next). x.count) q)
next_at_counts w cur pad n NotReadable t e = absurd (cc)
next_at_counts w cur pad n Unmapped t e = absurd (cc)

below_limit : (b : Bool) (w : Walk) (cur : ℕ) (pad : List ℕ) (n : ℕ) (a : Arrival) (t : Next) → (if b then next_at w cur pad n a else None) ≡ Some t → n ≡ t.count
below_limit true w cur pad n a t e = next_at_counts w cur pad n a t e
below_limit false w cur pad n a t e = absurd (cc)

next_stands : (rs : List RegionSpan) (limit : ℕ) (w : Option Walk) (o : Option FlatRequest) (t : Next) → next_from rs limit w o ≡ Some t → Stands o t
next_stands rs limit (Some w) (Some (request.Ready cur pad n)) t e = record {
  it = request.Ready cur pad n;
  is = refl;
  made = below_limit (nat_lt n limit) w cur pad n (arrive rs cur (record_size w)) t e;
}
next_stands rs limit (Some w) (Some (request.Done pad n)) t e = absurd (cc)
next_stands rs limit (Some w) (Some (request.Fault k cur n)) t e = absurd (cc)
next_stands rs limit (Some w) None t e = absurd (cc)
next_stands rs limit None o t e = absurd (cc)

settled_counts : (s : FlatState) (r : ℕ) (t : Next) (x : Iterated) → Stands (slice_get s.requests r) t → iterations_made (slice_get (settled s r t x).requests r) ≡ iterations_made (slice_get s.requests r) + 1
settled_counts s r t (Done bytes pad) h = ap iterations_made (get_same s.requests r _ h.it h.is) ∙ ap (λ n. n + 1) (sym h.made)
settled_counts s r t (Goes to bytes pad) h = ap iterations_made (get_same s.requests r _ h.it h.is) ∙ ap (λ n. n + 1) (sym h.made)
settled_counts s r t (Fault k) h = ap iterations_made (get_same s.requests r _ h.it h.is) ∙ ap (λ n. n + 1) (sym h.made)

stepped : (s : FlatState) (r : ℕ) (o : Option Next) → is_some o ≡ true → ((t : Next) → o ≡ Some t → Stands (slice_get s.requests r) t) → iterations_made (slice_get (settled_next s r o).requests r) ≡ iterations_made (slice_get s.requests r) + 1
stepped s r None h f = absurd (cc)
stepped s r (Some t) h f = settled_counts s r t (iterates s t) (f t refl)

step_counts : (walks : List Walk) (limit : ℕ) (s : FlatState) (q r : ℕ) (b : Bool) → nat_eq q r ≡ b → can_step walks limit s q ≡ true → iterations_made (slice_get (flat_step walks limit s q).requests r) ≡ iterations_made (slice_get s.requests r) + (if b then 1 else 0)
step_counts walks limit s q r true e h =
    let same : q ≡ r = grind arith in
    let own = stepped s q (next_of walks limit s q) h (λ t f. next_stands (spans s.regions) limit (slice_get walks q) (slice_get s.requests q) t f) in
    subst (λ k. iterations_made (slice_get (flat_step walks limit s q).requests k) ≡ iterations_made (slice_get s.requests k) + 1) same own
step_counts walks limit s q r false e h =
    let other : r ≢ q = λ f. absurd (let g : q ≡ r = sym f in grind arith) in
    ap iterations_made (others_stay walks limit s q r other) ∙ omega arith

abbrev places : ℕ → List ℕ → ℕ
places r [] = 0
places r (q ∷ order) = cond (q == r) (1 + places r order) (places r order)

joined : (b : Bool) (after between before rest : ℕ) → after ≡ between + rest → between ≡ before + (if b then 1 else 0) → after ≡ before + cond b (1 + rest) rest
joined true after between before rest e f = omega arith
joined false after between before rest e f = omega arith

counts : (walks : List Walk) (limit : ℕ) (s : FlatState) (order : List ℕ) (r : ℕ) → is_legal walks limit s order ≡ true → iterations_made (slice_get (flat_run walks limit s order).requests r) ≡ iterations_made (slice_get s.requests r) + places r order
counts walks limit s [] r h = omega arith
counts walks limit s (q ∷ order) r h =
    let parts = and_parts (can_step walks limit s q) (is_legal walks limit (flat_step walks limit s q) order) h in
    joined (q == r) _ (iterations_made (slice_get (flat_step walks limit s q).requests r)) (iterations_made (slice_get s.requests r)) (places r order)
    (counts walks limit (flat_step walks limit s q) order r parts.1)
    (step_counts walks limit s q r (q == r) refl parts.0)

pub counts_are : CountLaw
counts_are walks limit s order r h =
    counts walks limit s order r h ∙ ap (λ n. iterations_made (slice_get s.requests r) + n) (is_count_by (places r) (λ q. q == r) refl (λ x xs. refl) order)
