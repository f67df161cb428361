use Rattle.std.proofs.Common.{◌-◌, ◌≤◌, length}
use Rattle.pulse_serve.specs.inner.Asking.{AnsweredBefore}
use Rattle.pulse_serve.proofs.client_loop.first_open.Given as goal

abbrev pub invariant-requests : goal.invariant-requests
invariant-requests l = record {
  inside : l.at ≤ length l.client.requests;
  before : AnsweredBefore l.client l.at;
}

abbrev pub decreases-requests : goal.decreases-requests
decreases-requests l = length l.client.requests - l.at
