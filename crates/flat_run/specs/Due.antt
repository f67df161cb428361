-- The answer that a request is due: that of its end, and of one that can't step the reason; none where it can step.
use Rattle.std.specs.Prelude.{ℕ, List, Option, Some, None, slice_get, nat_eq, if◌then◌else◌}
use Rattle.pulse_base.specs.declared.answer.Answer.{Answer}
use Rattle.pulse_base.specs.declared.answer.Answer.TheVariants as answer
use Rattle.pulse_base.specs.declared.answer.FaultKind.TheVariants as fault
use Rattle.range_table.specs.declared.region.RegionSpan.{RegionSpan}
use Rattle.range_table.specs.Memory.{Arrival, Here, NotReadable, Unmapped, arrive}
use Rattle.flat_run.specs.declared.state.FlatRequest.{FlatRequest}
use Rattle.flat_run.specs.declared.state.FlatRequest.TheVariants as request
use Rattle.flat_run.specs.declared.state.FlatState.{FlatState}
use Rattle.flat_run.specs.Region.{spans}
use Rattle.flat_run.specs.Walk.{Walk, record_size}

abbrev pub due_at : ℕ → ℕ → Arrival → Option Answer
due_at cur n (Here i) = None
due_at cur n NotReadable = Some (answer.Fault fault.NotReadable cur n)
due_at cur n Unmapped = Some (answer.Fault fault.Unmapped cur n)

abbrev pub due_answer : List RegionSpan → ℕ → Walk → FlatRequest → Option Answer
due_answer regions limit w (request.Done pad n) = Some (answer.Done pad n)
due_answer regions limit w (request.Fault kind cur n) = Some (answer.Fault kind cur n)
due_answer regions limit w (request.Ready cur pad n) =
    if nat_eq n limit then Some (answer.Spent n) else due_at cur n (arrive regions cur (record_size w))

abbrev pub due_from : List RegionSpan → ℕ → Option Walk → Option FlatRequest → Option Answer
due_from regions limit (Some w) (Some r) = due_answer regions limit w r
due_from regions limit w r = None

-- the answer that request `r` is due; none where there is no such request
abbrev pub due : List Walk → ℕ → FlatState → ℕ → Option Answer
due walks limit s r = due_from (spans s.regions) limit (slice_get walks r) (slice_get s.requests r)
