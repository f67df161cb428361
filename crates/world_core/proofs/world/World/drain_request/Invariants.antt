use Rattle.world_core.specs.Drains.{Becomes, KeepsRuns, Lasts}
use Rattle.world_core.specs.inner.Drains.{InRounds, to_come}
use Rattle.world_core.proofs.world.World.drain_request.Given as goal

abbrev pub invariant-rounds : goal.invariant-rounds
invariant-rounds g l = record {
  rounds : Becomes (InRounds l.r) l.fn.self l.self;
  keeps : KeepsRuns l.fn.self l.self;
  stays : Lasts l.fn.self l.self;
}

abbrev pub decreases-rounds : goal.decreases-rounds
decreases-rounds g l = to_come l.self l.r
