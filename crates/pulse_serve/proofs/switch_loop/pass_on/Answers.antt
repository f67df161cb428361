use Rattle.std.proofs.Common.{arith}
use Rattle.pulse_serve.proofs.Nodes64.{node_below}
use Rattle.pulse_serve.proofs.switch_loop.pass_on.Goals as goal

pub overflow_add-port-in-ToNode : goal.overflow_add-port-in-ToNode
overflow_add-port-in-ToNode g c =
    omega (arith, c.requires.port, node_below c.args.switch.now c.in-Frame.frame c.on.result c.in-ToNode.node c.in-ToNode.leg c.requires.nodes c.on.ensures c.in-ToNode.is)
