use Rattle.std.proofs.Common.{◌∙◌, refl, ap}
use Rattle.iter_unroll.specs.Flat.{put_slot}
use Rattle.iter_unroll.specs.Tree.{fsts}
use Rattle.flat_hoist.specs.hoisting.Fields.{read_of}
use Rattle.flat_hoist.specs.hoisting.Swapped.{all_in_slot, before}
use Rattle.flat_hoist.proofs.Rows.{behind}
use Rattle.flat_hoist.proofs.Whole.{one_stands}
use Rattle.flat_hoist.proofs.slots.hoist_one.Goals as goal

pub returns : goal.returns
returns c =
    let h = c.args.field in
    let k = c.args.slot in
    one_stands c.args.flat _ h k c.requires.can refl refl refl refl
    (c.in_ok-ends.ensures
    ∙ behind k c.read.result (read_of h) c.new-head.result c.push.new.self (all_in_slot h k (fsts c.as_slice.result.now)) c.new-head.ensures c.in_ok-push.ensures.ok c.read.ensures
    ∙ ap (λ l. put_slot k (read_of h) (all_in_slot h k (fsts l))) c.as_slice.ensures)
    (c.in_ok-next.ensures
    ∙ ap (λ l. before l (all_in_slot h k (fsts c.as_slice-2.result.now))) c.new.ensures
    ∙ ap (λ l. all_in_slot h k (fsts l)) c.as_slice-2.ensures)
