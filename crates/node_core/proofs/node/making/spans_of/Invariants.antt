use Rattle.std.proofs.Common.{◌≡◌, take}
use Rattle.run_rules.specs.Node.{spans_of}
use Rattle.node_core.proofs.node.making.spans_of.Given as goal

abbrev pub invariant-loop-region : goal.invariant-loop-region
invariant-loop-region l = l.spans ≡ spans_of (take l.region-index l.regions)
