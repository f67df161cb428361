use Rattle.std.proofs.Common.{◌∙◌, arith}
use Rattle.pulse_serve.proofs.Answering.{before_all, before_keeps}
use Rattle.pulse_serve.proofs.ClientTurns.{going_on, going_ends, going_stops, going_used}
use Rattle.pulse_serve.proofs.client_loop.ask_all.Goals as goal

pub returns-then-made-turns-clause-serves : goal.returns-then-made-turns-clause-serves
returns-then-made-turns-clause-serves g c =
    going_used c.args.switch_port c.turns.made c.args.turns c.args.client.now c.turns.client (g.L.Link.traffic c.args.link.now) (g.L.Link.traffic c.turns.link) (omega (arith, c.if-made-turns.true))
    c.turns.invariant.run (c.turns.invariant.unfinished (omega (arith, c.turns-test.true, c.len.ensures)))

pub returns-in-Some-clause-serves : goal.returns-in-Some-clause-serves
returns-in-Some-clause-serves g c =
    going_ends c.args.switch_port c.turns.made c.args.turns c.args.client.now c.turns.client c.take_turn.new.client (g.L.Link.traffic c.args.link.now) (g.L.Link.traffic c.turns.link) (g.L.Link.traffic c.take_turn.new.link)
    c.in-Some.served (omega (arith, c.if-made-turns.false, c.turns.invariant.inside)) c.turns.invariant.run c.in-Some.ensures.turn

pub first_open-first-requires-in-turns-clause-before : goal.first_open-first-requires-in-turns-clause-before
first_open-first-requires-in-turns-clause-before g c = before_keeps c.turns.client c.take_turn.new.client c.turns.first c.in-None.ensures.answers c.turns.invariant.before

pub turns-preserved : goal.turns-preserved
turns-preserved g c = record {
  inside = omega (arith, c.if-made-turns.false, c.turns.invariant.inside);
  run = going_on c.args.switch_port c.turns.made c.args.client.now c.turns.client c.take_turn.new.client (g.L.Link.traffic c.args.link.now) (g.L.Link.traffic c.turns.link) (g.L.Link.traffic c.take_turn.new.link)
      c.turns.invariant.run c.in-None.ensures.turn;
  within = c.first_open-first-in-turns.ensures.within;
  before = c.first_open-first-in-turns.ensures.before;
  unfinished = c.first_open-first-in-turns.ensures.unfinished;
  kept = c.in-None.ensures.kept (λ e. absurd (cc)) ∙ c.turns.invariant.kept;
}

pub returns-clause-serves : goal.returns-clause-serves
returns-clause-serves g c =
    going_stops c.args.switch_port c.turns.made c.args.turns c.args.client.now c.turns.client (g.L.Link.traffic c.args.link.now) (g.L.Link.traffic c.turns.link) c.turns.invariant.inside c.turns.invariant.run
    (before_all c.turns.client c.turns.first (omega (arith, c.turns-test.false, c.len.ensures)) c.turns.invariant.before)
