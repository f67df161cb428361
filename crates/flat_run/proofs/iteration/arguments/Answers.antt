use Rattle.std.proofs.Common.{sym, ◌∙◌, arith}
use Rattle.flat_run.proofs.StsLaws.{args_over, values_over}
use Rattle.flat_run.proofs.iteration.arguments.Goals as goal
use Rattle.flat_run.proofs.iteration.arguments.Goals.{then-each-test+else-at-values, else-each-test}

pub returns : goal.returns
returns c =
    elim c.each-test.branch [
      | then-each-test+else-at-values w ↦ sym (c.each.invariant ∙ values_over c.args.args.now c.args.values.now c.each.at c.each.names (omega arith))
      | else-each-test w ↦ sym (c.each.invariant ∙ args_over c.args.args.now c.args.values.now c.each.at c.each.names (omega arith))
    ]
