use Rattle.std.proofs.Common.{◌≡◌, map}
use Rattle.node_core.specs.inner.View.{held_view}
use Rattle.node_core.proofs.node.making.held_of.Given as goal

abbrev pub invariant-loop-region : goal.invariant-loop-region
invariant-loop-region l = map held_view l.held.items ≡ l.yielded
