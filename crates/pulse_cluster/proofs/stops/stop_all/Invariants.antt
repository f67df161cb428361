use Rattle.std.proofs.Common.{◌≡◌, []}
use Rattle.pulse_serve.specs.Frames.{Grew}
use Rattle.pulse_cluster.specs.Cluster.{node_stops}
use Rattle.pulse_cluster.proofs.stops.stop_all.Given as goal

abbrev pub invariant-nodes : goal.invariant-nodes
invariant-nodes g l = record {
  sent : Grew (g.L.Link.traffic l.fn.net) (g.L.Link.traffic l.net) [] (node_stops l.port 0 l.n);
  kept : g.L.Link.faults l.net ≡ g.L.Link.faults l.fn.net;
}
