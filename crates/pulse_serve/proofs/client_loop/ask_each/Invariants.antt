use Rattle.std.proofs.Common.{◌≡◌, ◌-◌, length}
use Rattle.pulse_serve.specs.ClientRun.{numbers, Asks}
use Rattle.pulse_serve.proofs.Sweeping.{Sweeps}
use Rattle.pulse_serve.proofs.client_loop.ask_each.Given as goal

abbrev pub invariant-requests : goal.invariant-requests
invariant-requests g l = record {
  run : Sweeps (Asks l.port) l.fn.client l.at l.client (g.L.Link.traffic l.fn.link) (g.L.Link.traffic l.link);
  same : numbers l.client ≡ numbers l.fn.client;
  kept : g.L.Link.faults l.link ≡ g.L.Link.faults l.fn.link;
}

abbrev pub decreases-requests : goal.decreases-requests
decreases-requests g l = length (numbers l.fn.client) - l.at
