use Rattle.std.proofs.Common.{◌∙◌, arith}
use Rattle.pulse_serve.specs.ClientRun.{Asks}
use Rattle.pulse_serve.proofs.Answering.{asks_numbers}
use Rattle.pulse_serve.proofs.Sweeping.{sweeps_on, sweeps_lost}
use Rattle.pulse_serve.proofs.client_loop.ask_each.Goals as goal

pub requests-preserved : goal.requests-preserved
requests-preserved g c = record {
  run = sweeps_on (Asks c.args.port) c.args.client.now c.requests.client c.ask_one.new.client c.requests.at c.number-number.result _ (g.L.Link.traffic c.requests.link) _
      c.requests.invariant.same (omega (arith, c.requests-test.true, c.len.ensures)) c.number-number.ensures.number c.requests.invariant.run c.in-Ok.ensures.does;
  same = asks_numbers c.args.port c.requests.client c.number-number.result c.ask_one.new.client c.in-Ok.ensures.does.0 c.in-Ok.ensures.does.1 ∙ c.requests.invariant.same;
  kept = c.in-Ok.ensures.cause.kept ∙ c.requests.invariant.kept;
}

pub returns-in-Err-clause-does : goal.returns-in-Err-clause-does
returns-in-Err-clause-does g c =
    sweeps_lost (Asks c.args.port) c.args.client.now c.requests.client c.ask_one.new.client c.requests.at c.number-number.result _ (g.L.Link.traffic c.requests.link) _ c.in-Err.field-0
    c.requests.invariant.same (omega (arith, c.requests-test.true, c.len.ensures)) c.number-number.ensures.number c.requests.invariant.run c.in-Err.ensures.does
