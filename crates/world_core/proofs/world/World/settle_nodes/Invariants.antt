use Rattle.drain_run.specs.Drain.{NodesSettle}
use Rattle.world_core.specs.Drains.{Becomes, KeepsRuns, Lasts}
use Rattle.world_core.proofs.world.World.settle_nodes.Given as goal

abbrev pub invariant-nodes : goal.invariant-nodes
invariant-nodes g l = record {
  settles : Becomes (λ u start. NodesSettle u l.n) l.fn.self l.self;
  keeps : KeepsRuns l.fn.self l.self;
  stays : Lasts l.fn.self l.self;
}
