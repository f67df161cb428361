use Rattle.std.proofs.Common.{◌≡◌, sym, ap, ◌∙◌, ◌+◌, take, drop, subst}
use Rattle.iter_syntax.specs.Tree.{st, sts}
use Rattle.iter_syntax.proofs.FoldLaws.{block_is}
use Rattle.iter_check.specs.First.Expr.{ground_of}
use Rattle.iter_check.specs.First.Index.{first_indices}
use Rattle.iter_check.specs.Indices.{loop_of}
use Rattle.iter_check.proofs.ScopeLaws.{sts_drop}
use Rattle.iter_check.proofs.IndexLaws.{back}
use Rattle.iter_check.proofs.index.+rows.Goals as goal

pub index_block-returns-clause-faults : goal.index_block-returns-clause-faults
index_block-returns-clause-faults t c =
    c.in_ok-index_row.ensures.faults
    ∙ ap (λ ss. first_indices (ground_of c.args.site.now) c.args.loops.now.items (sts ss) c.args.best.now) c.as_slice.ensures
    ∙ ap (λ ss. first_indices (ground_of c.args.site.now) c.args.loops.now.items ss c.args.best.now) (sym (block_is c.args.body.now))

pub index_loop-returns-clause-same : goal.index_loop-returns-clause-same
index_loop-returns-clause-same t c =
    c.truncate.ensures.items
    ∙ ap (λ l. take c.how_many-around.result l) c.in_ok-index_block.ensures.same
    ∙ ap (λ n. take n c.enter.new.loops.items) c.how_many-around.ensures
    ∙ back c.args.loops.now.items c.enter.new.loops.items (loop_of c.args.name.now c.args.first c.args.past) c.in_ok-enter.ensures

pub index_row-row-preserved : goal.index_row-row-preserved
index_row-row-preserved t c =
    let g = ground_of c.args.site.now in
    let old = c.args.loops.now.items in
    let others = sts (drop (c.row.s-index + 1) c.args.stmts.now) in
    record {
      faults =
          c.row.invariant.faults
          ∙ ap (λ ss. first_indices g old ss c.row.best) (sts_drop c.args.stmts.now c.row.s-index c.s-item.result c.row-test.true c.s-item.is)
          ∙ subst (λ ls. first_indices g ls (st c.s-item.result others) c.row.best ≡ first_indices g ls others c.index_stmt.new.best) c.row.invariant.same (c.in_ok-index_stmt.ensures.faults others);
      same = c.in_ok-index_stmt.ensures.same ∙ c.row.invariant.same;
    }
