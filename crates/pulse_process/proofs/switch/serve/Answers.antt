use Rattle.std.proofs.Common.{◌∙◌}
use Rattle.pulse_serve.specs.Runs.{Serves}
use Rattle.pulse_serve.specs.SwitchRun.{switch_loop}
use Rattle.pulse_process.proofs.Answering.{bound, no_end, rose_after}
use Rattle.pulse_process.proofs.switch.serve.Goals as goal

pub returns-in-Ok-clause-serves : goal.returns-in-Ok-clause-serves
returns-in-Ok-clause-serves g c = λ end e.
    bound c.args.port (g.L.Link.traffic c.args.net.now) (g.L.Link.traffic c.bind.new.self) (g.L.Link.traffic c.serve_switch.new.link) c.serve_switch.result end
    (λ x rs ss. Serves (switch_loop c.args.port) c.args.turns x c.args.switch.now rs c.args.switch.now ss) c.in-Ok.ensures.traffic e c.serve_switch.ensures.serves

pub returns-in-Ok-clause-link : goal.returns-in-Ok-clause-link
returns-in-Ok-clause-link g c = λ e. rose_after _ _ _ c.in-Ok.ensures.cause.kept (c.serve_switch.ensures.fault e)

pub returns-in-Ok-clause-kept : goal.returns-in-Ok-clause-kept
returns-in-Ok-clause-kept g c = λ ne. c.serve_switch.ensures.kept ne ∙ c.in-Ok.ensures.cause.kept

pub returns-in-Err-clause-serves : goal.returns-in-Err-clause-serves
returns-in-Err-clause-serves g c = λ end e. absurd (no_end end e)
