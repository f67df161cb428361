use Rattle.std.proofs.Common.{◌+◌, refl, ◌∙◌}
use Rattle.pulse_serve.specs.Runs.{Serves}
use Rattle.pulse_serve.specs.NodeRun.{node_loop}
use Rattle.pulse_process.proofs.Serving.{same_is, serves_same}
use Rattle.pulse_process.proofs.Answering.{bound, no_end, rose_after}
use Rattle.pulse_process.proofs.node.serve.Goals as goal

pub returns-in-Ok-clause-serves : goal.returns-in-Ok-clause-serves
returns-in-Ok-clause-serves g c = λ end e.
    bound (c.args.port + 1 + c.args.node) (g.L.Link.traffic c.args.net.now) (g.L.Link.traffic c.bind.new.self) (g.L.Link.traffic c.serve_node.new.link) c.serve_node.result end
    (λ x rs ss. Serves (node_loop (g.N.NodePart.plain c.args.part.now) c.args.port) c.args.turns x (g.N.NodePart.state c.args.part.now) rs (g.N.NodePart.state c.serve_node.new.node) ss)
    c.in-Ok.ensures.traffic e c.serve_node.ensures.serves

pub returns-in-Ok-clause-same : goal.returns-in-Ok-clause-same
returns-in-Ok-clause-same g c =
    serves_same (g.N.NodePart.plain c.args.part.now) c.args.port c.args.turns c.serve_node.result (g.N.NodePart.state c.args.part.now) (g.N.NodePart.state c.serve_node.new.node) _ _ c.serve_node.ensures.serves.3

pub returns-in-Ok-clause-link : goal.returns-in-Ok-clause-link
returns-in-Ok-clause-link g c = λ e. rose_after _ _ _ c.in-Ok.ensures.cause.kept (c.serve_node.ensures.fault e)

pub returns-in-Ok-clause-kept : goal.returns-in-Ok-clause-kept
returns-in-Ok-clause-kept g c = λ ne. c.serve_node.ensures.kept ne ∙ c.in-Ok.ensures.cause.kept

pub returns-in-Err-clause-serves : goal.returns-in-Err-clause-serves
returns-in-Err-clause-serves g c = λ end e. absurd (no_end end e)

pub returns-in-Err-clause-same : goal.returns-in-Err-clause-same
returns-in-Err-clause-same g c = same_is (g.N.NodePart.state c.args.part.now) (g.N.NodePart.state c.args.part.now) refl
