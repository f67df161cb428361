use Rattle.std.proofs.Common.{false, sym, ap, ◌∙◌, ◌+◌, drop}
use Rattle.iter_syntax.specs.Tree.{sts}
use Rattle.iter_syntax.proofs.FoldLaws.{block_is}
use Rattle.iter_check.specs.Paths.{ends, ends_after}
use Rattle.iter_check.specs.First.Path.{first_paths}
use Rattle.iter_check.proofs.ScopeLaws.{sts_drop}
use Rattle.iter_check.proofs.path.+paths.Goals as goal

pub path_block-returns-clause-ends : goal.path_block-returns-clause-ends
path_block-returns-clause-ends t c =
    c.path_row.ensures.ends ∙ ap (λ ss. ends (sts ss)) c.as_slice.ensures ∙ ap ends (sym (block_is c.args.body.now))

pub path_block-returns-clause-faults : goal.path_block-returns-clause-faults
path_block-returns-clause-faults t c =
    c.path_row.ensures.faults
    ∙ ap (λ ss. first_paths c.args.part false (sts ss) c.args.best.now) c.as_slice.ensures
    ∙ ap (λ ss. first_paths c.args.part false ss c.args.best.now) (sym (block_is c.args.body.now))

pub path_row-row-preserved : goal.path_row-row-preserved
path_row-row-preserved t c =
    let d = sts_drop c.args.stmts.now c.row.s-index c.s-item.result c.row-test.true c.s-item.is in
    let others = sts (drop (c.row.s-index + 1) c.args.stmts.now) in
    record {
      last_ends = c.row.invariant.last_ends ∙ ap (ends_after c.row.last) d ∙ c.path_stmt-last.ensures.ends c.row.last others;
      same = c.row.invariant.same ∙ ap (λ ss. first_paths c.args.part c.row.late ss c.row.best) d ∙ c.path_stmt-last.ensures.faults others
          ∙ ap (λ l. first_paths c.args.part l others c.path_stmt-last.new.best) (sym c.either-late.ensures);
    }
