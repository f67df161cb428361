use Rattle.pulse_process.proofs.Holding.{held_is}
use Rattle.pulse_process.proofs.node.put_region.Goals as goal

pub region_of-requires : goal.region_of-requires
region_of-requires g c = record { held = held_is (g.N.NodePart.state c.args.part.now) c.args.number c.args.region.now c.has_region.ensures.is c.requires.span c.requires.filled (c.has_region.ensures.here.0 c.if-not-has_region.false) }
