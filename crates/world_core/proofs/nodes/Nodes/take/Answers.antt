use Rattle.world_core.proofs.OneNode.{takes_at, accepted_fits}
use Rattle.world_core.proofs.nodes.Nodes.take.Goals as goal

pub returns-clause-takes : goal.returns-clause-takes
returns-clause-takes g c = takes_at (λ n. record { part = g.N.NodePart.state n; rest = g.N.NodePart.rest n; plain = g.N.NodePart.plain n }) c.self.inside.nodes.items c.args.self.now c.args.n c.index_mut.result.now c.accept.new.self c.args.leg.now c.accept.result c.requires.here c.index_mut.ensures.value c.accept.ensures.accepts c.accept.ensures.plain c.self.view_is

pub returns-clause-fits : goal.returns-clause-fits
returns-clause-fits g c = accepted_fits c.accept.result (g.N.NodePart.state c.index_mut.result.now) (g.N.NodePart.state c.accept.new.self) c.args.leg.now c.requires.left c.accept.ensures.was c.accept.ensures.accepts
