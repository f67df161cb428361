-- One step of a flat run: which request can step, and what its step changes.
use Rattle.std.specs.Prelude.{ℕ, ◌+◌, Bool, List, Option, Some, None, is_some, nat_lt, slice_get, slice_set, if◌then◌else◌}
use Rattle.pulse_base.specs.Cause.{kind_of}
use Rattle.range_table.specs.declared.region.RegionSpan.{RegionSpan}
use Rattle.range_table.specs.Memory.{Arrival, Here, NotReadable, Unmapped, arrive, may_write}
use Rattle.iter_check.specs.Iteration.{Iterated, iteration}
use Rattle.iter_check.specs.Iteration as i
use Rattle.flat_run.specs.declared.state.FlatRequest.{FlatRequest}
use Rattle.flat_run.specs.declared.state.FlatRequest.TheVariants as request
use Rattle.flat_run.specs.declared.state.FlatState.{FlatState}
use Rattle.flat_run.specs.Walk.{Walk, record_size}
use Rattle.flat_run.specs.Region.{spans, record_at, put_record}

-- the iteration that a request can make: of which walk, in which region, and from where
pub record Next : Type 0 where
  pub walk : Walk
  pub region : ℕ
  pub cur : ℕ
  pub pad : List ℕ
  pub count : ℕ

abbrev pub next_at : Walk → ℕ → List ℕ → ℕ → Arrival → Option Next
next_at w cur pad count (Here i) = Some (record { walk = w; region = i; cur = cur; pad = pad; count = count })
next_at w cur pad count NotReadable = None
next_at w cur pad count Unmapped = None

-- a request that is ready can step where its record is here and its count is below the limit, which is
-- rounds times budget
abbrev pub next_from : List RegionSpan → ℕ → Option Walk → Option FlatRequest → Option Next
next_from regions limit (Some w) (Some (request.Ready cur pad n)) =
    if nat_lt n limit then next_at w cur pad n (arrive regions cur (record_size w)) else None
next_from regions limit w r = None

abbrev pub next_of : List Walk → ℕ → FlatState → ℕ → Option Next
next_of walks limit s r = next_from (spans s.regions) limit (slice_get walks r) (slice_get s.requests r)

abbrev pub can_step : List Walk → ℕ → FlatState → ℕ → Bool
can_step walks limit s r = is_some (next_of walks limit s r)

-- what an iteration of request `r` leaves: done and go write the record and count, a fault leaves memory and count
abbrev pub settled : FlatState → ℕ → Next → Iterated → FlatState
settled s r t (i.Done bytes pad) =
    record { regions = put_record s.regions t.region t.cur bytes; requests = slice_set s.requests r (request.Done pad (t.count + 1)) }
settled s r t (i.Goes to bytes pad) =
    record { regions = put_record s.regions t.region t.cur bytes; requests = slice_set s.requests r (request.Ready to pad (t.count + 1)) }
settled s r t (i.Fault cause) = record s { requests = slice_set s.requests r (request.Fault (kind_of cause) t.cur t.count) }

-- the next iteration
abbrev pub iterates : FlatState → Next → Iterated
iterates s t =
    iteration t.walk.fields t.walk.iter (record_at s.regions t.region t.cur (record_size t.walk)) t.cur t.pad (may_write (spans s.regions) t.region)

abbrev pub settled_next : FlatState → ℕ → Option Next → FlatState
settled_next s r None = s
settled_next s r (Some t) = settled s r t (iterates s t)

-- one whole iteration of request `r`; where it can't step, nothing changes
abbrev pub flat_step : List Walk → ℕ → FlatState → ℕ → FlatState
flat_step walks limit s r = settled_next s r (next_of walks limit s r)
