use Rattle.std.proofs.Common.{◌≡◌, ◌-◌, ◌≤◌}
use Rattle.pulse_serve.specs.Frames.{Over}
use Rattle.pulse_serve.specs.SwitchRun.{switch_loop}
use Rattle.pulse_serve.proofs.Running.{Made}
use Rattle.pulse_serve.proofs.switch_loop.serve_switch.Given as goal

abbrev pub invariant-turns : goal.invariant-turns
invariant-turns g l = record {
  inside : l.made ≤ l.turns;
  run : Over (g.L.Link.traffic l.fn.link) (g.L.Link.traffic l.link) (Made (switch_loop l.port) l.made l.switch l.switch);
  kept : g.L.Link.faults l.link ≡ g.L.Link.faults l.fn.link;
}

abbrev pub decreases-turns : goal.decreases-turns
decreases-turns g l = l.turns - l.made
