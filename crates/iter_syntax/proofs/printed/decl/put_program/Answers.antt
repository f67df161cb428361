use Rattle.std.proofs.Common.{rules, ◌<◌, length, slice_range, sym, ap, ◌∙◌}
use Rattle.iter_syntax.proofs.Printing.{iter_added, record_added, add_decls}
use Rattle.iter_syntax.proofs.printed.decl.put_program.Goals as goal

pub row-preserved-then-iter_comes : goal.row-preserved-then-iter_comes
row-preserved-then-iter_comes c =
    let rest = slice_range c.row.iters.now 1 (length c.row.iters.now) in
    c.row.invariant ∙ iter_added c.row.records.now c.row.iters.now c.index-iters-0.result c.row.text c.index-iters-0.is (search rules)
    ∙ ap (add_decls c.row.records.now rest) (sym c.in_ok-put_iter.ensures)

pub row-preserved : goal.row-preserved
row-preserved c =
    let some : 0 < length c.row.records.now = search rules in
    let rest = slice_range c.row.records.now 1 (length c.row.records.now) in
    c.row.invariant ∙ record_added c.row.records.now c.row.iters.now c.index-records-0.result c.row.text c.index-records-0.is some (search rules)
    ∙ ap (add_decls rest c.row.iters.now) (sym c.in_ok-put_record.ensures)
