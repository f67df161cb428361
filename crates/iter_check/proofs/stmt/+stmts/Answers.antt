use Rattle.std.proofs.Common.{sym, ap, ◌∙◌, ◌+◌, drop}
use Rattle.iter_syntax.specs.Tree.{sts}
use Rattle.iter_syntax.proofs.FoldLaws.{block_is}
use Rattle.iter_check.specs.First.Expr.{ground_of}
use Rattle.iter_check.specs.First.Stmt.{first_scoping}
use Rattle.iter_check.proofs.ScopeLaws.{grows_more, sts_drop}
use Rattle.iter_check.proofs.stmt.+stmts.Goals as goal

pub check_block-returns-clause-faults : goal.check_block-returns-clause-faults
check_block-returns-clause-faults t c =
    c.in_ok-check_row.ensures.faults
    ∙ ap (λ ss. first_scoping (ground_of c.args.site.now) c.args.scope.now.items (sts ss) c.args.best.now) c.as_slice.ensures
    ∙ ap (λ ss. first_scoping (ground_of c.args.site.now) c.args.scope.now.items ss c.args.best.now) (sym (block_is c.args.body.now))

pub check_row-row-preserved : goal.check_row-row-preserved
check_row-row-preserved t c =
    let g = ground_of c.args.site.now in
    record {
      same =
          c.row.invariant.same
          ∙ ap (λ ss. first_scoping g c.row.scope.items ss c.row.best) (sts_drop c.args.stmts.now c.row.s-index c.s-item.result c.row-test.true c.s-item.is)
          ∙ c.in_ok-check_stmt.ensures.faults (sts (drop (c.row.s-index + 1) c.args.stmts.now));
      grows = grows_more c.args.scope.now.items c.row.scope.items c.check_stmt.new.scope.items c.row.invariant.grows c.in_ok-check_stmt.ensures.grows;
    }
