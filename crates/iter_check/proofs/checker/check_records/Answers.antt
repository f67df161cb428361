use Rattle.std.proofs.Common.{sym, ap, ◌∙◌, ◌+◌, drop}
use Rattle.iter_check.specs.First.Least.{each}
use Rattle.iter_check.specs.First.Decl.{first_record}
use Rattle.iter_check.proofs.Steps.{each_step}
use Rattle.iter_check.proofs.checker.check_records.Goals as goal

pub walk-preserved : goal.walk-preserved
walk-preserved c =
    c.walk.invariant
    ∙ each_step first_record c.args.records.now c.walk.decl-index c.decl-item.result c.walk.best c.walk-test.true c.decl-item.is
    ∙ ap (each first_record (drop (c.walk.decl-index + 1) c.args.records.now)) (sym c.check_record.ensures)
