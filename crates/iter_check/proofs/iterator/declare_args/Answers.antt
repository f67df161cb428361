use Rattle.std.proofs.Common.{sym, ap, ◌∙◌, ◌+◌, drop, false, Some}
use Rattle.iter_check.specs.Scope.{bind}
use Rattle.iter_check.specs.FaultList.{with_args}
use Rattle.iter_check.proofs.Steps.{args_step}
use Rattle.iter_check.proofs.iterator.declare_args.Goals as goal

pub listed-preserved : goal.listed-preserved
listed-preserved c =
    let a = c.arg-item.result in
    let left = drop (c.listed.arg-index + 1) c.args.args.now in
    c.listed.invariant
    ∙ args_step c.args.args.now c.listed.arg-index a c.listed.scope.items c.listed-test.true c.arg-item.is
    ∙ ap (λ s. with_args left (bind a.name (Some s) false c.listed.scope.items)) (sym c.arg_sort.ensures)
    ∙ ap (with_args left) (sym c.in_ok-declare.ensures)
