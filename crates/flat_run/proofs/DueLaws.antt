-- Nothing is due exactly where a request can step.
use Rattle.std.proofs.Common.{◌≡◌, ℕ, ◌<◌, ◌≤◌, ◌↔◌, Bool, true, false, nat_eq, nat_lt, List, Option, Some, None, is_some, if◌then◌else◌, refl, subst, arith}
use Rattle.pulse_base.specs.declared.answer.Answer.TheVariants as answer
use Rattle.range_table.specs.declared.region.RegionSpan.{RegionSpan}
use Rattle.range_table.specs.Memory.{Arrival, Here, NotReadable, Unmapped, arrive}
use Rattle.flat_run.specs.declared.state.FlatRequest.{FlatRequest}
use Rattle.flat_run.specs.declared.state.FlatRequest.TheVariants as request
use Rattle.std.specs.Prelude.{slice_get}
use Rattle.flat_run.specs.Walk.{Walk, record_size}
use Rattle.flat_run.specs.Region.{spans}
use Rattle.flat_run.specs.Step.{next_at, next_from}
use Rattle.flat_run.specs.Due.{due_at, due_answer, due_from}
use Rattle.flat_run.specs.Laws.{DueLaw, count_of}

at_arrival : (w : Walk) (cur : ℕ) (pad : List ℕ) (n : ℕ) (a : Arrival) → (due_at cur n a ≡ None) ↔ (is_some (next_at w cur pad n a) ≡ true)
at_arrival w cur pad n (Here i) = (λ e. refl, λ e. refl)
at_arrival w cur pad n NotReadable = (λ e. absurd (cc), λ e. absurd (cc))
at_arrival w cur pad n Unmapped = (λ e. absurd (cc), λ e. absurd (cc))

at_count : (b l : Bool) (limit : ℕ) (w : Walk) (cur : ℕ) (pad : List ℕ) (n : ℕ) (a : Arrival) → nat_eq n limit ≡ b → nat_lt n limit ≡ l → n ≤ limit → ((if b then Some (answer.Spent n) else due_at cur n a) ≡ None) ↔ (is_some (if l then next_at w cur pad n a else None) ≡ true)
at_count true true limit w cur pad n a e f h = absurd (let same : n ≡ limit = grind arith in let less : n < limit = grind arith in omega (arith, same, less))
at_count true false limit w cur pad n a e f h = (λ g. absurd (cc), λ g. absurd (cc))
at_count false true limit w cur pad n a e f h = at_arrival w cur pad n a
at_count false false limit w cur pad n a e f h = absurd (grind arith)

due_steps : (rs : List RegionSpan) (limit : ℕ) (w : Walk) (q : FlatRequest) → count_of q ≤ limit → (due_answer rs limit w q ≡ None) ↔ (is_some (next_from rs limit (Some w) (Some q)) ≡ true)
due_steps rs limit w (request.Ready cur pad n) h = at_count (nat_eq n limit) (nat_lt n limit) limit w cur pad n (arrive rs cur (record_size w)) refl refl h
due_steps rs limit w (request.Done pad n) h = (λ e. absurd (cc), λ e. absurd (cc))
due_steps rs limit w (request.Fault k cur n) h = (λ e. absurd (cc), λ e. absurd (cc))

due_there : (rs : List RegionSpan) (limit : ℕ) (v : Option Walk) (p : Option FlatRequest) (w : Walk) (q : FlatRequest) → v ≡ Some w → p ≡ Some q → count_of q ≤ limit → (due_from rs limit v p ≡ None) ↔ (is_some (next_from rs limit v p) ≡ true)
due_there rs limit (Some v) (Some p) w q e f h =
    let same : q ≡ p = cc in
    due_steps rs limit v p (subst (λ x. count_of x ≤ limit) same h)
due_there rs limit (Some v) None w q e f h = absurd (cc)
due_there rs limit None p w q e f h = absurd (cc)

pub due_where_stuck : DueLaw
due_where_stuck walks limit s r w q e f h = due_there (spans s.regions) limit (slice_get walks r) (slice_get s.requests r) w q e f h
