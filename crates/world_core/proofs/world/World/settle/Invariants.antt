use Rattle.world_core.specs.Runs.{rest_at}
use Rattle.world_core.specs.Drains.{Becomes, KeepsRuns, Lasts}
use Rattle.world_core.specs.inner.Drains.{Turns}
use Rattle.world_core.proofs.world.World.settle.Given as goal

abbrev pub invariant-turns : goal.invariant-turns
invariant-turns g l = record {
  turns : Becomes (Turns l.n) l.fn.self l.self;
  keeps : KeepsRuns l.fn.self l.self;
  stays : Lasts l.fn.self l.self;
}

abbrev pub decreases-turns : goal.decreases-turns
decreases-turns g l = rest_at l.self l.n
