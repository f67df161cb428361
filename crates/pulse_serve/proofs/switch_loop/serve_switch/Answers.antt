use Rattle.std.proofs.Common.{◌∙◌, arith}
use Rattle.pulse_serve.specs.SwitchRun.{switch_loop}
use Rattle.pulse_serve.proofs.Running.{ends, goes_on}
use Rattle.pulse_serve.proofs.switch_loop.serve_switch.Goals as goal

pub returns-in-Some-clause-serves : goal.returns-in-Some-clause-serves
returns-in-Some-clause-serves g c =
    ends (switch_loop c.args.port) c.turns.made c.args.turns c.args.switch.now c.args.switch.now c.args.switch.now _ (g.L.Link.traffic c.turns.link) _ c.in-Some.served c.turns-test.true c.turns.invariant.run c.in-Some.ensures.turn

pub turns-preserved : goal.turns-preserved
turns-preserved g c = record {
  inside = omega (arith, c.turns-test.true);
  run = goes_on (switch_loop c.args.port) c.turns.made c.args.switch.now c.args.switch.now c.args.switch.now _ (g.L.Link.traffic c.turns.link) _ c.turns.invariant.run c.in-None.ensures.turn;
  kept = c.in-None.ensures.kept (λ e. absurd (cc)) ∙ c.turns.invariant.kept;
}
