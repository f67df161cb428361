use Rattle.std.proofs.Common.{◌∙◌, arith}
use Rattle.pulse_serve.specs.ClientRun.{Ticks}
use Rattle.pulse_serve.proofs.Answering.{ticks_keep, keeps_both}
use Rattle.pulse_serve.proofs.Sweeping.{sweeps_on, sweeps_lost}
use Rattle.pulse_serve.proofs.client_loop.tick_each.Goals as goal

pub requests-preserved : goal.requests-preserved
requests-preserved g c = record {
  run = sweeps_on (Ticks c.args.port) c.args.client.now c.requests.client c.tick_one.new.client c.requests.at c.number-number.result _ (g.L.Link.traffic c.requests.link) _
      c.requests.invariant.answers.0 (omega (arith, c.requests-test.true, c.len.ensures)) c.number-number.ensures.number c.requests.invariant.run c.in-Ok.ensures.does;
  answers = keeps_both c.args.client.now c.requests.client c.tick_one.new.client c.requests.invariant.answers (ticks_keep c.args.port c.requests.client c.number-number.result c.tick_one.new.client c.in-Ok.ensures.does.0 c.in-Ok.ensures.does.1);
  kept = c.in-Ok.ensures.cause.kept ∙ c.requests.invariant.kept;
}

pub returns-in-Err-clause-does : goal.returns-in-Err-clause-does
returns-in-Err-clause-does g c =
    sweeps_lost (Ticks c.args.port) c.args.client.now c.requests.client c.tick_one.new.client c.requests.at c.number-number.result _ (g.L.Link.traffic c.requests.link) _ c.in-Err.field-0
    c.requests.invariant.answers.0 (omega (arith, c.requests-test.true, c.len.ensures)) c.number-number.ensures.number c.requests.invariant.run c.in-Err.ensures.does

pub returns-in-Err-clause-answers : goal.returns-in-Err-clause-answers
returns-in-Err-clause-answers g c =
    keeps_both c.args.client.now c.requests.client c.tick_one.new.client c.requests.invariant.answers (ticks_keep c.args.port c.requests.client c.number-number.result c.tick_one.new.client c.in-Err.ensures.does.0 c.in-Err.ensures.does.1)
