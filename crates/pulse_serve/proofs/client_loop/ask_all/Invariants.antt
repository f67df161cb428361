use Rattle.std.proofs.Common.{◌≡◌, ◌-◌, ◌≤◌, ◌<◌, length}
use Rattle.pulse_serve.specs.ClientRun.{AllAnswered}
use Rattle.pulse_serve.specs.inner.Asking.{AnsweredBefore}
use Rattle.pulse_serve.proofs.ClientTurns.{Going}
use Rattle.pulse_serve.proofs.client_loop.ask_all.Given as goal

abbrev pub invariant-turns : goal.invariant-turns
invariant-turns g l = record {
  inside : l.made ≤ l.turns;
  run : Going l.switch_port l.fn.client l.made l.client (g.L.Link.traffic l.fn.link) (g.L.Link.traffic l.link);
  within : l.first ≤ length l.client.requests;
  before : AnsweredBefore l.client l.first;
  unfinished : l.first < length l.client.requests → AllAnswered l.client → ⊥;
  kept : g.L.Link.faults l.link ≡ g.L.Link.faults l.fn.link;
}

abbrev pub decreases-turns : goal.decreases-turns
decreases-turns g l = l.turns - l.made
