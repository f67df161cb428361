use Rattle.pulse_serve.proofs.SwitchTurns.{passed}
use Rattle.pulse_serve.proofs.switch_loop.take_turn.Goals as goal

pub returns-in-Ok-pass_on-clause-turn : goal.returns-in-Ok-pass_on-clause-turn
returns-in-Ok-pass_on-clause-turn g c =
    passed (g.L.Link.traffic c.args.link.now) (g.L.Link.traffic c.receive.new.link) (g.L.Link.traffic c.pass_on.new.link) c.args.port c.args.switch.now c.in-Ok.item c.in-Ok.ensures.came
    (c.is_stop.ensures.other c.if-is_stop.false) c.in-Ok-pass_on.ensures.sent
