use Rattle.pulse_serve.proofs.NodeTurns.{back_fits}
use Rattle.pulse_serve.proofs.node_loop.step.Goals as goal

pub post-requires : goal.post-requires
post-requires g c = back_fits (g.N.NodePart.state c.args.node.now) (g.N.NodePart.state c.turn.new.self) c.in-Iterated.key c.in-Iterated.back c.in-Some.back c.in-Iterated.ensures.turns c.in-Some.is c.in-Iterated.ensures.is
