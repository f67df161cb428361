use Rattle.world_core.proofs.OneNode.{makes_at, turned_fits}
use Rattle.world_core.proofs.nodes.Nodes.turn.Goals as goal

pub returns-clause-makes : goal.returns-clause-makes
returns-clause-makes g c = makes_at (λ n. record { part = g.N.NodePart.state n; rest = g.N.NodePart.rest n; plain = g.N.NodePart.plain n }) c.self.inside.nodes.items c.args.self.now c.args.n c.index_mut.result.now c.turn.new.self c.turn.result c.requires c.index_mut.ensures.value c.turn.ensures.turns c.turn.ensures.plain c.turn.ensures.first c.turn.ensures.is.apart c.turn.ensures.rest c.self.view_is

pub returns-clause-fits : goal.returns-clause-fits
returns-clause-fits g c = turned_fits c.turn.result (g.N.NodePart.state c.index_mut.result.now) (g.N.NodePart.state c.turn.new.self) c.turn.ensures.is c.turn.ensures.turns
