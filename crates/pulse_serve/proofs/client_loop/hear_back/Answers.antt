use Rattle.std.proofs.Common.{refl}
use Rattle.client_core.specs.Requests.{find}
use Rattle.pulse_serve.proofs.Answering.{hears_keep}
use Rattle.pulse_serve.proofs.client_loop.hear_back.Goals as goal

pub returns-in-Sent-clause-answers : goal.returns-in-Sent-clause-answers
returns-in-Sent-clause-answers g c = hears_keep c.args.client.now c.on.new.self c.args.back.now c.on.result (find c.args.client.now.requests c.args.back.now.request) refl c.on.ensures.rule

pub returns-in-Answered-clause-answers : goal.returns-in-Answered-clause-answers
returns-in-Answered-clause-answers g c = hears_keep c.args.client.now c.on.new.self c.args.back.now c.on.result (find c.args.client.now.requests c.args.back.now.request) refl c.on.ensures.rule

pub returns-in-Stale-clause-answers : goal.returns-in-Stale-clause-answers
returns-in-Stale-clause-answers g c = hears_keep c.args.client.now c.on.new.self c.args.back.now c.on.result (find c.args.client.now.requests c.args.back.now.request) refl c.on.ensures.rule
