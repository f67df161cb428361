use Rattle.std.proofs.Common.{◌≡◌, ◌-◌, ◌≤◌}
use Rattle.pulse_serve.specs.Frames.{Over}
use Rattle.pulse_serve.specs.NodeRun.{node_loop}
use Rattle.pulse_serve.proofs.Running.{Made}
use Rattle.pulse_serve.proofs.node_loop.serve_node.Given as goal

abbrev pub invariant-turns : goal.invariant-turns
invariant-turns g l = record {
  inside : l.made ≤ l.turns;
  run : Over (g.L.Link.traffic l.fn.link) (g.L.Link.traffic l.link) (Made (node_loop (g.N.NodePart.plain l.fn.node) l.switch_port) l.made (g.N.NodePart.state l.fn.node) (g.N.NodePart.state l.node));
  kept : g.L.Link.faults l.link ≡ g.L.Link.faults l.fn.link;
  plain : g.N.NodePart.plain l.node ≡ g.N.NodePart.plain l.fn.node;
}

abbrev pub decreases-turns : goal.decreases-turns
decreases-turns g l = l.turns - l.made
