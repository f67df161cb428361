use Rattle.std.proofs.Common.{◌∙◌, ap, refl, arith}
use Rattle.iter_unroll.specs.Tree.{fsts}
use Rattle.flat_hoist.specs.hoisting.Swapped.{all_in_slot, before}
use Rattle.flat_hoist.proofs.Rows.{first_less, other_less, swapped_less, swapped_more, swapped_all, if_swapped}
use Rattle.flat_hoist.proofs.swap.+swap.Goals as goal

pub swap_stmt-swap_row-requires : goal.swap_stmt-swap_row-requires
swap_stmt-swap_row-requires t c =
    let less = first_less c.args.s.now c.in-If.test c.in-If.yes c.in-If.no c.as_slice.result.now c.in-If.no c.in-If.is c.as_slice.ensures refl in
    (omega (arith, less), tt)

pub swap_stmt-swap_row-requires-in-If : goal.swap_stmt-swap_row-requires-in-If
swap_stmt-swap_row-requires-in-If t c =
    let less = other_less c.args.s.now c.in-If.test c.in-If.yes c.in-If.no c.in-If.yes c.as_slice-in-If.result.now c.in-If.is refl c.as_slice-in-If.ensures in
    (omega (arith, less), tt)

pub swap_stmt-returns-in_ok-other-in-If : goal.swap_stmt-returns-in_ok-other-in-If
swap_stmt-returns-in_ok-other-in-If t c =
    if_swapped c.args.field c.args.slot c.args.s.now c.in-If.test c.in_ok-test-in-If.test c.in-If.yes c.in-If.no c.as_slice.result.now c.as_slice-in-If.result.now
    c.in_ok-first-in-If.first c.in_ok-other-in-If.other c.in-If.is c.as_slice.ensures c.as_slice-in-If.ensures c.in_ok-test-in-If.ensures
    (c.in_ok-first-in-If.ensures ∙ ap (λ l. before l (all_in_slot c.args.field c.args.slot (fsts c.as_slice.result.now))) c.new.ensures)
    (c.in_ok-other-in-If.ensures ∙ ap (λ l. before l (all_in_slot c.args.field c.args.slot (fsts c.as_slice-in-If.result.now))) c.new-in-If.ensures)

pub swap_row-swap_stmt-requires : goal.swap_row-swap_stmt-requires
swap_row-swap_stmt-requires t c =
    let less = swapped_less c.args.field c.args.slot c.args.head c.row.row c.args.stmts.now c.row.s-index c.s-item.result c.row-test.true c.s-item.is c.row.invariant in
    (omega (arith, less), tt)

pub swap_row-row-preserved : goal.swap_row-row-preserved
swap_row-row-preserved t c =
    swapped_more c.args.field c.args.slot c.args.head c.row.row c.push.new.self c.args.stmts.now c.row.s-index c.s-item.result c.in_ok-swap_stmt.field-0
    c.row-test.true c.s-item.is c.in_ok-push.ensures.ok c.row.invariant c.in_ok-swap_stmt.ensures

pub swap_row-returns : goal.swap_row-returns
swap_row-returns t c = swapped_all c.args.field c.args.slot c.args.head c.row.row c.args.stmts.now c.row.s-index c.row-test.false c.row.invariant
