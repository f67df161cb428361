use Rattle.std.proofs.Common.{ap, ◌∙◌, arith}
use Rattle.iter_check.specs.Layout.{text, find_field}
use Rattle.iter_check.specs.FieldValue.{read_at}
use Rattle.iter_check.proofs.SlotLaws.{item_read}
use Rattle.iter_check.proofs.fields.read_item.Goals as goal

pub returns-then-i-slot : goal.returns-then-i-slot
returns-then-i-slot c =
    let bytes = c.args.bytes.now in
    c.read_at.ensures ∙ ap (λ p. read_at bytes p c.in-Some.slot.width) c.item_offset.ensures
    ∙ item_read (find_field c.args.fields.now (text c.args.word.now)) c.in-Some.slot c.args.i bytes c.in-Some.ensures (omega arith) (omega arith)
