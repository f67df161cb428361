use Rattle.std.proofs.Common.{arith}
use Rattle.iter_unroll.proofs.unrolling.Spans.{first_less, other_less, if_wider}
use Rattle.iter_unroll.specs.unrolling.Bounds.{bounds_of}
use Rattle.iter_unroll.proofs.bounds.+span.Goals as goal

pub wider_stmt-wider_row-first-requires : goal.wider_stmt-wider_row-first-requires
wider_stmt-wider_row-first-requires t c =
    let less = first_less c.args.s.now c.in-If.test c.in-If.yes c.in-If.no c.as_slice.result.now c.in-If.is c.as_slice.ensures in
    (omega (arith, less), tt)

pub wider_stmt-wider_row-requires : goal.wider_stmt-wider_row-requires
wider_stmt-wider_row-requires t c =
    let less = other_less c.args.s.now c.in-If.test c.in-If.yes c.in-If.no c.as_slice-in-If.result.now c.in-If.is c.as_slice-in-If.ensures in
    (omega (arith, less), tt)

pub wider_stmt-returns-in-If : goal.wider_stmt-returns-in-If
wider_stmt-returns-in-If t c =
    if_wider c.args.s.now c.in-If.test c.in-If.yes c.in-If.no c.as_slice.result.now c.as_slice-in-If.result.now
    (bounds_of c.args.bounds) (bounds_of c.wider_expr-tested.result) (bounds_of c.wider_row-first.result) (bounds_of c.wider_row.result)
    c.in-If.is c.wider_expr-tested.ensures c.as_slice.ensures c.wider_row-first.ensures c.as_slice-in-If.ensures c.wider_row.ensures
