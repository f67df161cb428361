use Rattle.drain_run.specs.Drain.{RequestsDrain}
use Rattle.drain_run.specs.Draining.{AllIdle}
use Rattle.world_core.specs.Scene.{world_of}
use Rattle.world_core.specs.Drains.{Becomes, KeepsRuns, Lasts}
use Rattle.world_core.proofs.world.World.drain_requests.Given as goal

abbrev pub invariant-requests : goal.invariant-requests
invariant-requests g l = record {
  drains : Becomes (λ u start. RequestsDrain u l.r) l.fn.self l.self;
  keeps : KeepsRuns l.fn.self l.self;
  stays : Lasts l.fn.self l.self;
  idle : AllIdle (world_of l.self);
}
