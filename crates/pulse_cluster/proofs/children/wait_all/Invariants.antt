use Rattle.std.proofs.Common.{◌≡◌, []}
use Rattle.pulse_cluster.specs.Cluster.{FamilyGrew}
use Rattle.pulse_cluster.proofs.children.wait_all.Given as goal

abbrev pub invariant-kids : goal.invariant-kids
invariant-kids g l = record {
  family : FamilyGrew (g.S.Spawner.family l.fn.kids) (g.S.Spawner.family l.kids) [] l.yielded;
  kept : g.S.Spawner.faults l.kids ≡ g.S.Spawner.faults l.fn.kids;
}
