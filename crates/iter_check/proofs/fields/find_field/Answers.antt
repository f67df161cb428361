use Rattle.std.proofs.Common.{◌≡◌, ◌+◌, ◌-◌, ◌*◌, ◌^◌, false, true, min, Some, sym, ap, ◌∙◌, arith}
use Rattle.std.specs.Prelude.{bytes_eq}
use Rattle.iter_check.specs.Layout.{text, elements, width_bytes}
use Rattle.iter_check.proofs.SlotLaws.{passed, found, place}
use Rattle.iter_check.proofs.fields.find_field.Goals as goal

pub returns-then-eq : goal.returns-then-eq
returns-then-eq c =
    let name = text c.args.word.now in
    let f = c.field-item.result in
    let n : bytes_eq (text f.name) name ≡ true =
    ap (λ a. bytes_eq a name) (sym c.as_slice.ensures.value) ∙ ap (bytes_eq c.as_slice.result.now) (sym c.as_slice-in-fields.ensures.value) ∙ sym c.eq.ensures ∙ c.if-eq.true in
    ap (λ k. Some (place c.fields.offset f.width k)) c.elements-count.ensures
    ∙ found c.args.fields.now f c.fields.field-index c.fields.offset name c.fields-test.true c.field-item.is n c.fields.invariant.small
    ∙ sym c.fields.invariant.same

pub fields-preserved : goal.fields-preserved
fields-preserved c =
    let name = text c.args.word.now in
    let f = c.field-item.result in
    let n : bytes_eq (text f.name) name ≡ false =
    ap (λ a. bytes_eq a name) (sym c.as_slice.ensures.value) ∙ ap (bytes_eq c.as_slice.result.now) (sym c.as_slice-in-fields.ensures.value) ∙ sym c.eq.ensures ∙ c.if-eq.false in
    let q : c.saturating_add-offset.result ≡ min (c.fields.offset + min (elements f * width_bytes f.width) (2 ^ 64 - 1)) (2 ^ 64 - 1) =
    c.saturating_add-offset.ensures
    ∙ ap (λ m. min (c.fields.offset + m) (2 ^ 64 - 1)) (c.saturating_mul.ensures ∙ ap (λ m. min m (2 ^ 64 - 1)) (ap (λ e. e * c.width_bytes.result) c.elements-count.ensures ∙ ap (λ w. elements f * w) c.width_bytes.ensures.value)) in
    record {
      same = c.fields.invariant.same ∙ passed c.args.fields.now f c.fields.field-index c.fields.offset c.saturating_add-offset.result name c.fields-test.true c.field-item.is n q;
      small = omega arith;
    }
