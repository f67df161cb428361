use Rattle.world_core.proofs.Resting.{idle_at}
use Rattle.world_core.proofs.nodes.Nodes.is_idle.Goals as goal

pub returns : goal.returns
returns g c = idle_at (λ n. record { part = g.N.NodePart.state n; rest = g.N.NodePart.rest n; plain = g.N.NodePart.plain n }) c.self.inside.nodes.items c.args.self.now c.args.n c.index.result.now c.is_idle.result c.requires c.index.ensures c.self.view_is c.is_idle.ensures.idle
