use Rattle.std.proofs.Common.{refl, arith}
use Rattle.flat_hoist.proofs.Rows.{first_less, other_less}
use Rattle.flat_hoist.proofs.fields.+note.Goals as goal

pub note_stmt-note_row-requires : goal.note_stmt-note_row-requires
note_stmt-note_row-requires t c =
    let less = first_less c.args.s.now c.in-If.test c.in-If.yes c.in-If.no c.as_slice.result.now c.in-If.no c.in-If.is c.as_slice.ensures refl in
    (omega (arith, less), tt)

pub note_stmt-note_row-requires-in-If : goal.note_stmt-note_row-requires-in-If
note_stmt-note_row-requires-in-If t c =
    let less = other_less c.args.s.now c.in-If.test c.in-If.yes c.in-If.no c.in-If.yes c.as_slice-in-If.result.now c.in-If.is refl c.as_slice-in-If.ensures in
    (omega (arith, less), tt)
