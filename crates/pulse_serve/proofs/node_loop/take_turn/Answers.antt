use Rattle.pulse_serve.proofs.NodeTurns.{went, lost}
use Rattle.pulse_serve.proofs.node_loop.take_turn.Goals as goal

pub returns-in-Ok-step-clause-turn : goal.returns-in-Ok-step-clause-turn
returns-in-Ok-step-clause-turn g c =
    went (g.L.Link.traffic c.args.link.now) (g.L.Link.traffic c.receive.new.link) (g.L.Link.traffic c.hear.new.link) (g.L.Link.traffic c.step.new.link)
    (g.N.NodePart.plain c.args.node.now) (g.N.NodePart.plain c.hear.new.node) c.args.port (g.N.NodePart.state c.args.node.now) (g.N.NodePart.state c.hear.new.node) (g.N.NodePart.state c.step.new.node)
    c.is_idle-wait.result c.in-Ok.item c.in-Ok.ensures.came c.is_idle-wait.ensures.idle (c.is_stop.ensures.other c.if-is_stop.false) c.in-None.ensures.heard.0 c.in-None.ensures.heard.1
    c.in-None.ensures.plain c.in-Ok-step.ensures.stepped

pub returns-in-Err-step-clause-turn : goal.returns-in-Err-step-clause-turn
returns-in-Err-step-clause-turn g c =
    lost (g.L.Link.traffic c.args.link.now) (g.L.Link.traffic c.receive.new.link) (g.L.Link.traffic c.hear.new.link) (g.L.Link.traffic c.step.new.link)
    (g.N.NodePart.plain c.args.node.now) (g.N.NodePart.plain c.hear.new.node) c.args.port (g.N.NodePart.state c.args.node.now) (g.N.NodePart.state c.hear.new.node) (g.N.NodePart.state c.step.new.node)
    c.is_idle-wait.result c.in-Ok.item c.in-Err-step.field-0 c.in-Ok.ensures.came c.is_idle-wait.ensures.idle (c.is_stop.ensures.other c.if-is_stop.false) c.in-None.ensures.heard.0 c.in-None.ensures.heard.1
    c.in-None.ensures.plain c.in-Err-step.ensures.stepped
