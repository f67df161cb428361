use Rattle.std.proofs.Common.{◌≡◌, ◌++◌, drop}
use Rattle.pulse_process.specs.inner.Held.{lines_here}
use Rattle.pulse_process.proofs.node.node_text.Given as goal

abbrev pub invariant-regions : goal.invariant-regions
invariant-regions g l = l.text ++ lines_here (g.N.NodePart.state l.part) l.k (drop l.k l.regions) ≡ lines_here (g.N.NodePart.state l.part) 0 l.regions
