-- A request in a flat run, and how it starts.
use Rattle.std.specs.Prelude.{List, map}
use Rattle.pulse_base.specs.declared.answer.FaultKind.TheVariants as fault
use Rattle.iter_check.specs.Iteration.{Begun, Ready, Ended, DivZero, begin}
use Rattle.flat_run.specs.declared.state.FlatRegion.{FlatRegion}
use Rattle.flat_run.specs.declared.state.FlatRequest.{FlatRequest}
use Rattle.flat_run.specs.declared.state.FlatRequest.TheVariants as request
use Rattle.flat_run.specs.declared.state.FlatState.{FlatState}
use Rattle.flat_run.specs.Walk.{Walk}

abbrev pub first_of : Begun → FlatRequest
first_of (Ready cur pad) = request.Ready cur pad 0
first_of (Ended pad) = request.Done pad 0
first_of DivZero = request.Fault fault.DivZero 0 0

-- a request when it was asked: its init has run
abbrev pub asked : Walk → FlatRequest
asked w = first_of (begin w.iter w.args)

-- the state when each request was asked
abbrev pub start : List FlatRegion → List Walk → FlatState
start regions walks = record { regions = regions; requests = map asked walks }
