use Rattle.pulse_serve.proofs.ClientTurns.{went, lost}
use Rattle.pulse_serve.proofs.client_loop.take_turn.Goals as goal

pub returns-in-Ok-hear-clause-turn : goal.returns-in-Ok-hear-clause-turn
returns-in-Ok-hear-clause-turn g c =
    went (g.L.Link.traffic c.args.link.now) (g.L.Link.traffic c.receive.new.link) (g.L.Link.traffic c.hear.new.link) c.args.port c.args.client.now c.hear.new.client c.in-Ok.item
    c.requires.unfinished c.in-Ok.ensures.came c.in-Ok-hear.ensures.hears

pub returns-in-Err-hear-clause-turn : goal.returns-in-Err-hear-clause-turn
returns-in-Err-hear-clause-turn g c =
    lost (g.L.Link.traffic c.args.link.now) (g.L.Link.traffic c.receive.new.link) (g.L.Link.traffic c.hear.new.link) c.args.port c.args.client.now c.hear.new.client c.in-Ok.item c.in-Err-hear.field-0
    c.requires.unfinished c.in-Ok.ensures.came c.in-Err-hear.ensures.hears
