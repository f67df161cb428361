use Rattle.std.proofs.Common.{sym, ◌∙◌}
use Rattle.iter_check.proofs.Steps.{code_step, code_found}
use Rattle.iter_check.proofs.checker.first_code.Goals as goal

pub walk-preserved : goal.walk-preserved
walk-preserved c =
    c.walk.invariant
    ∙ code_step c.args.iters.now c.walk.it-index c.it-item.result c.walk-test.true c.it-item.is (sym c.too_many_nodes.ensures ∙ c.if-too_many_nodes.false)

pub returns-then-too_many_nodes : goal.returns-then-too_many_nodes
returns-then-too_many_nodes c =
    sym (c.walk.invariant ∙ code_found c.args.iters.now c.walk.it-index c.it-item.result c.walk-test.true c.it-item.is (sym c.too_many_nodes.ensures ∙ c.if-too_many_nodes.true))
