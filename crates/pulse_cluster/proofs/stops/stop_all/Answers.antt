use Rattle.std.proofs.Common.{◌∙◌}
use Rattle.pulse_cluster.proofs.Stopping.{next_stops}
use Rattle.pulse_cluster.proofs.stops.stop_all.Goals as goal

pub nodes-preserved : goal.nodes-preserved
nodes-preserved g c = record {
  sent = next_stops (g.L.Link.traffic c.args.net.now) (g.L.Link.traffic c.nodes.net) (g.L.Link.traffic c.stop_surely.new.net) c.args.port c.nodes.n c.nodes.invariant.sent c.in_ok-stop_surely.ensures.sent;
  kept = c.in_ok-stop_surely.ensures.cause.kept ∙ c.nodes.invariant.kept;
}
