use Rattle.world_core.proofs.OneNode.{member_at, reads_at}
use Rattle.world_core.proofs.nodes.Nodes.read.Goals as goal

pub read_region-requires : goal.read_region-requires
read_region-requires g c = c.requires.holds _ (member_at (λ n. record { part = g.N.NodePart.state n; rest = g.N.NodePart.rest n; plain = g.N.NodePart.plain n }) c.self.inside.nodes.items c.args.self.now c.args.n c.index.result.now c.requires.here c.index.ensures c.self.view_is)

pub returns : goal.returns
returns g c = reads_at (λ n. record { part = g.N.NodePart.state n; rest = g.N.NodePart.rest n; plain = g.N.NodePart.plain n }) c.self.inside.nodes.items c.args.self.now c.args.n c.index.result.now c.args.region c.args.at c.read_region.new.out c.requires.here c.index.ensures c.self.view_is c.read_region.ensures.bytes
