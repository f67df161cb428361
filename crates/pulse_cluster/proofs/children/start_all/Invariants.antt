use Rattle.std.proofs.Common.{◌≡◌, [], length}
use Rattle.pulse_cluster.specs.Cluster.{FamilyGrew, child_words, starts}
use Rattle.pulse_cluster.proofs.children.start_all.Given as goal

abbrev pub invariant-nodes : goal.invariant-nodes
invariant-nodes g l = record {
  family : FamilyGrew (g.S.Spawner.family l.fn.kids) (g.S.Spawner.family l.kids) (starts l.text (child_words l.turns 0 l.nodes) l.started.items) [];
  all : length l.started.items ≡ l.n;
  kept : g.S.Spawner.faults l.kids ≡ g.S.Spawner.faults l.fn.kids;
}
