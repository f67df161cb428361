use Rattle.std.proofs.Common.{◌∙◌, arith, subst, Some, None}
use Rattle.pulse_serve.specs.Frames.{Over}
use Rattle.pulse_serve.specs.NodeRun.{node_loop}
use Rattle.pulse_serve.specs.inner.Steps.{Goes}
use Rattle.pulse_serve.proofs.Running.{ends, goes_on}
use Rattle.pulse_serve.proofs.node_loop.serve_node.Goals as goal

pub returns-in-Some-clause-serves : goal.returns-in-Some-clause-serves
returns-in-Some-clause-serves g c =
    let loop = node_loop (g.N.NodePart.plain c.args.node.now) c.args.switch_port in
    let p = g.N.NodePart.state c.turns.node in let q = g.N.NodePart.state c.take_turn.new.node in
    let turn = subst (λ x. Over (g.L.Link.traffic c.turns.link) (g.L.Link.traffic c.take_turn.new.link) (Goes (node_loop x c.args.switch_port) (Some c.in-Some.served) p q)) c.turns.invariant.plain c.in-Some.ensures.turn in
    ends loop c.turns.made c.args.turns (g.N.NodePart.state c.args.node.now) p q _ (g.L.Link.traffic c.turns.link) _ c.in-Some.served c.turns-test.true c.turns.invariant.run turn

pub turns-preserved : goal.turns-preserved
turns-preserved g c =
    let loop = node_loop (g.N.NodePart.plain c.args.node.now) c.args.switch_port in
    let p = g.N.NodePart.state c.turns.node in let q = g.N.NodePart.state c.take_turn.new.node in
    let turn = subst (λ x. Over (g.L.Link.traffic c.turns.link) (g.L.Link.traffic c.take_turn.new.link) (Goes (node_loop x c.args.switch_port) None p q)) c.turns.invariant.plain c.in-None.ensures.turn in
    record {
      inside = omega (arith, c.turns-test.true);
      run = goes_on loop c.turns.made (g.N.NodePart.state c.args.node.now) p q _ (g.L.Link.traffic c.turns.link) _ c.turns.invariant.run turn;
      kept = c.in-None.ensures.kept (λ e. absurd (cc)) ∙ c.turns.invariant.kept;
      plain = c.in-None.ensures.plain ∙ c.turns.invariant.plain;
    }
