use Rattle.std.proofs.Common.{◌+◌, ◌∙◌}
use Rattle.pulse_serve.specs.ClientRun.{ServesClient}
use Rattle.pulse_process.proofs.Asking.{serves_keep}
use Rattle.pulse_process.proofs.Answering.{bound, no_end, rose_after}
use Rattle.pulse_process.proofs.ask.ask_bound.Goals as goal

pub returns-in-Ok-clause-serves : goal.returns-in-Ok-clause-serves
returns-in-Ok-clause-serves g c = λ end e.
    bound (c.args.port + 65 + c.args.c) (g.L.Link.traffic c.args.net.now) (g.L.Link.traffic c.bind.new.self) (g.L.Link.traffic c.ask_all.new.link) c.ask_all.result end
    (λ x rs ss. ServesClient c.args.port c.args.turns x c.args.client.now rs c.ask_all.new.client ss) c.in-Ok.ensures.traffic e c.ask_all.ensures.serves

pub returns-in-Ok-clause-requests : goal.returns-in-Ok-clause-requests
returns-in-Ok-clause-requests g c = serves_keep c.args.port c.args.turns c.ask_all.result c.args.client.now c.ask_all.new.client _ _ c.ask_all.ensures.serves.3

pub returns-in-Ok-clause-link : goal.returns-in-Ok-clause-link
returns-in-Ok-clause-link g c = λ e. rose_after _ _ _ c.in-Ok.ensures.cause.kept (c.ask_all.ensures.fault e)

pub returns-in-Ok-clause-kept : goal.returns-in-Ok-clause-kept
returns-in-Ok-clause-kept g c = λ ne. c.ask_all.ensures.kept ne ∙ c.in-Ok.ensures.cause.kept

pub returns-in-Err-clause-serves : goal.returns-in-Err-clause-serves
returns-in-Err-clause-serves g c = λ end e. absurd (no_end end e)
