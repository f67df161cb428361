use Rattle.std.proofs.Common.{sym, ap, ◌∙◌, ◌+◌, drop}
use Rattle.iter_check.specs.First.Least.{each}
use Rattle.iter_check.specs.First.Decl.{first_iter_indices}
use Rattle.iter_check.proofs.Steps.{each_step}
use Rattle.iter_check.proofs.checker.index_iters.Goals as goal

pub walk-preserved : goal.walk-preserved
walk-preserved c =
    let f = first_iter_indices c.args.records.now in
    c.walk.invariant
    ∙ each_step f c.args.iters.now c.walk.it-index c.it-item.result c.walk.best c.walk-test.true c.it-item.is
    ∙ ap (each f (drop (c.walk.it-index + 1) c.args.iters.now)) (sym c.in_ok-index_iter.ensures)
