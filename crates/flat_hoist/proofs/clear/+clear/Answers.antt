use Rattle.flat_hoist.proofs.Rows.{if_clear}
use Rattle.flat_hoist.proofs.clear.+clear.Goals as goal

pub is_clear_stmt-returns-in-If : goal.is_clear_stmt-returns-in-If
is_clear_stmt-returns-in-If t c =
    if_clear c.args.field c.args.slot c.args.s.now c.in-If.test c.in-If.yes c.in-If.no c.as_slice.result.now c.as_slice-in-If.result.now
    c.spares-tested.result c.is_clear-first.result c.is_clear-other.result c.all_three.result
    c.in-If.is c.as_slice.ensures c.as_slice-in-If.ensures c.spares-tested.ensures c.is_clear-first.ensures c.is_clear-other.ensures c.all_three.ensures
