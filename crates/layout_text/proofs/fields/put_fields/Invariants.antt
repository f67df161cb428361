use Rattle.std.proofs.Common.{◌≡◌, ◌+◌, ◌++◌, drop}
use Rattle.iter_check.specs.Layout.{size_of}
use Rattle.layout_text.specs.Fields.{fields_text}
use Rattle.layout_text.proofs.fields.put_fields.Given as goal

-- the fields that are left, from the offset on
abbrev pub invariant-fields : goal.invariant-fields
invariant-fields l = record {
  text : l.fn.text ++ fields_text 0 l.fields ≡ l.text ++ fields_text l.offset (drop l.field-index l.fields);
  size : l.offset + size_of (drop l.field-index l.fields) ≡ size_of l.fields;
}
