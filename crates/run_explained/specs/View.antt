-- A state of the flat run of a scenario, as the laws of runs have it: the bytes of each region and each request by its number.
use Rattle.std.specs.Prelude.{ℕ, List, [], Option, Some, None, slice_get}
use Rattle.pulse_base.specs.declared.answer.Answer.{Answer}
use Rattle.pulse_base.specs.declared.answer.Answer.TheVariants as answer
use Rattle.flat_run.specs.declared.state.FlatRegion.{FlatRegion}
use Rattle.flat_run.specs.declared.state.FlatRequest.{FlatRequest}
use Rattle.flat_run.specs.declared.state.FlatRequest.TheVariants as request
use Rattle.flat_run.specs.declared.state.FlatState.{FlatState}
use Rattle.run_laws.specs.Flat as f
use Rattle.run_views.specs.Frames.{kind_view}
use Rattle.run_views.specs.Setting.{Setting, begun_view}

-- past the last region there are no bytes
abbrev pub region_bytes : Option FlatRegion → List ℕ
region_bytes None = []
region_bytes (Some r) = r.bytes

-- a request that is not there is as it begins
abbrev pub request_view : f.FlatRequest → Option FlatRequest → f.FlatRequest
request_view begins None = begins
request_view begins (Some (request.Ready cur pad n)) = f.Ready cur pad n
request_view begins (Some (request.Done pad n)) = f.Completed pad n
request_view begins (Some (request.Fault kind cur n)) = f.Failed (kind_view kind) cur n

-- as each request begins in the setting
abbrev pub begins_in : Setting → ℕ → f.FlatRequest
begins_in u r = f.begun_flat (begun_view (u.begin r))

abbrev pub flat_view : Setting → FlatState → f.Flat
flat_view u s = record { regions = λ i. region_bytes (slice_get s.regions i); requests = λ r. request_view (begins_in u r) (slice_get s.requests r) }

-- no request is due Unasked or Waiting
abbrev pub answer_view : Answer → f.Answer
answer_view (answer.Done pad n) = f.DoneWith pad n
answer_view (answer.Fault kind cur n) = f.FaultAt (kind_view kind) cur n
answer_view (answer.Spent n) = f.Spent n
answer_view answer.Silent = f.Silent
answer_view answer.Unasked = f.Silent
answer_view answer.Waiting = f.Silent
