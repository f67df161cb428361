-- What holds of each step and of each run, whatever the iterators.
use Rattle.std.specs.Prelude.{◌≡◌, ◌≢◌, ◌+◌, ◌-◌, ◌≤◌, ◌==◌, ◌↔◌, ℕ, true, false, List, ◌++◌, length, map, take, drop, count_by, Option, Some, None, slice_get}
use Rattle.pulse_base.specs.declared.answer.Cause.{Cause}
use Rattle.iter_check.specs.Iteration.{Fault}
use Rattle.flat_run.specs.declared.state.FlatRegion.{FlatRegion}
use Rattle.flat_run.specs.declared.state.FlatRequest.{FlatRequest}
use Rattle.flat_run.specs.declared.state.FlatRequest.TheVariants as request
use Rattle.flat_run.specs.declared.state.FlatState.{FlatState}
use Rattle.flat_run.specs.Walk.{Walk, record_size}
use Rattle.flat_run.specs.Step.{Next, next_of, can_step, iterates, flat_step}
use Rattle.flat_run.specs.Run.{flat_run, Legal}
use Rattle.flat_run.specs.Region.{IsMemory, shape}
use Rattle.flat_run.specs.Due.{due}

-- a run of a concatenation is the run of the second part from where the first ends
abbrev pub RunLaw : Type 0
RunLaw =
    (walks : List Walk) (limit : ℕ) (s : FlatState) (first second : List ℕ)
    → flat_run walks limit s (first ++ second) ≡ flat_run walks limit (flat_run walks limit s first) second

-- a concatenation is legal where its first part is, and its second from where the first ends
abbrev pub LegalLaw : Type 0
LegalLaw =
    (walks : List Walk) (limit : ℕ) (s : FlatState) (first second : List ℕ)
    → Legal walks limit s (first ++ second) ↔ (Legal walks limit s first × Legal walks limit (flat_run walks limit s first) second)

-- a step of one request leaves every other request as it was
abbrev pub OthersLaw : Type 0
OthersLaw =
    (walks : List Walk) (limit : ℕ) (s : FlatState) (r q : ℕ)
    → q ≢ r → slice_get (flat_step walks limit s r).requests q ≡ slice_get s.requests q

-- a step leaves every region but that of its record as it was
abbrev pub RegionsLaw : Type 0
RegionsLaw =
    (walks : List Walk) (limit : ℕ) (s : FlatState) (r : ℕ) (t : Next) (i : ℕ)
    → next_of walks limit s r ≡ Some t → i ≢ t.region → slice_get (flat_step walks limit s r).regions i ≡ slice_get s.regions i

-- an iteration that faults leaves the memory as it was
abbrev pub FaultLaw : Type 0
FaultLaw =
    (walks : List Walk) (limit : ℕ) (s : FlatState) (r : ℕ) (t : Next) (k : Cause)
    → next_of walks limit s r ≡ Some t → iterates s t ≡ Fault k → (flat_step walks limit s r).regions ≡ s.regions

-- where a request can't step, nothing changes
abbrev pub StuckLaw : Type 0
StuckLaw =
    (walks : List Walk) (limit : ℕ) (s : FlatState) (r : ℕ) → can_step walks limit s r ≡ false → flat_step walks limit s r ≡ s

-- a region with other bytes in the `size` bytes from an offset on, and all else as it was
pub record ChangesWithin (old new : FlatRegion) (offset size : ℕ) : Type 0 where
  pub span : new.span ≡ old.span
  pub length : length new.bytes ≡ length old.bytes
  pub front : take offset new.bytes ≡ take offset old.bytes
  pub back : drop (offset + size) new.bytes ≡ drop (offset + size) old.bytes

-- a step leaves each byte of its region outside its record as it was
abbrev pub RecordLaw : Type 0
RecordLaw =
    (walks : List Walk) (limit : ℕ) (s : FlatState) (r : ℕ) (t : Next) (old new : FlatRegion)
    → next_of walks limit s r ≡ Some t → slice_get s.regions t.region ≡ Some old
    → slice_get (flat_step walks limit s r).regions t.region ≡ Some new
    → ChangesWithin old new (t.cur - old.span.base) (record_size t.walk)

-- the count of a request, and one more where it faulted: the iteration that faulted does not count
abbrev pub iterations_made : Option FlatRequest → ℕ
iterations_made None = 0
iterations_made (Some (request.Ready cur pad n)) = n
iterations_made (Some (request.Done pad n)) = n
iterations_made (Some (request.Fault kind cur n)) = n + 1

abbrev pub places_of : ℕ → List ℕ → ℕ
places_of r order = count_by (λ q. q == r) order

-- in a legal order each request's count grows by the number of its places, but for one that faulted
abbrev pub CountLaw : Type 0
CountLaw =
    (walks : List Walk) (limit : ℕ) (s : FlatState) (order : List ℕ) (r : ℕ)
    → Legal walks limit s order
    → iterations_made (slice_get (flat_run walks limit s order).requests r) ≡ iterations_made (slice_get s.requests r) + places_of r order

-- no span and no length of a region ever changes
abbrev pub ShapeLaw : Type 0
ShapeLaw =
    (walks : List Walk) (limit : ℕ) (s : FlatState) (order : List ℕ)
    → map shape (flat_run walks limit s order).regions ≡ map shape s.regions

-- what is a memory stays one
abbrev pub MemoryLaw : Type 0
MemoryLaw =
    (walks : List Walk) (limit : ℕ) (s : FlatState) (order : List ℕ)
    → IsMemory s.regions → IsMemory (flat_run walks limit s order).regions

abbrev pub count_of : FlatRequest → ℕ
count_of (request.Ready cur pad n) = n
count_of (request.Done pad n) = n
count_of (request.Fault kind cur n) = n

abbrev pub WithinLimit : ℕ → FlatState → Type 0
WithinLimit limit s = (r : ℕ) (q : FlatRequest) → slice_get s.requests r ≡ Some q → count_of q ≤ limit

-- counts that are at most the limit stay so
abbrev pub LimitLaw : Type 0
LimitLaw =
    (walks : List Walk) (limit : ℕ) (s : FlatState) (order : List ℕ)
    → WithinLimit limit s → WithinLimit limit (flat_run walks limit s order)

-- a request's pad has `m` bytes; one that faulted has none
abbrev pub PadHas : ℕ → Option FlatRequest → Type 0
PadHas m None = Unit {0}
PadHas m (Some (request.Ready cur pad n)) = length pad ≡ m
PadHas m (Some (request.Done pad n)) = length pad ≡ m
PadHas m (Some (request.Fault kind cur n)) = Unit {0}

-- a pad keeps its length
abbrev pub PadLaw : Type 0
PadLaw =
    (walks : List Walk) (limit : ℕ) (s : FlatState) (order : List ℕ) (r m : ℕ)
    → PadHas m (slice_get s.requests r) → PadHas m (slice_get (flat_run walks limit s order).requests r)

-- a request that is there, with a count of at most the limit, is due nothing exactly where it can step
abbrev pub DueLaw : Type 0
DueLaw =
    (walks : List Walk) (limit : ℕ) (s : FlatState) (r : ℕ) (w : Walk) (q : FlatRequest)
    → slice_get walks r ≡ Some w → slice_get s.requests r ≡ Some q → count_of q ≤ limit
    → (due walks limit s r ≡ None) ↔ (can_step walks limit s r ≡ true)
