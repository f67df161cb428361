use Rattle.std.proofs.Common.{◌≡◌, ℕ, ◌+◌, ◌*◌, ◌++◌, nat_lt, if◌then◌else◌, refl, rules}
use Rattle.shape_build.specs.Draws.{draw}
use Rattle.shape_build.specs.Text.{part_size, before_record}
use Rattle.shape_build.specs.Records.{record_text, list_address, list_cut, list_record}
use Rattle.shape_build.proofs.Below.{begins, goes_on_by_two}
use Rattle.shape_build.proofs.Drawing.{drawn_value, drawn_next}
use Rattle.shape_build.proofs.list_document.put_records.Goals as goal

same_record : (n seed i j m size value : ℕ) → m ≡ n → size ≡ part_size m 4 → j ≡ i → value ≡ draw seed i →
    before_record (list_cut n) i ++ list_record n seed i
    ≡ before_record (record { size = size; base = 65536; width = 24; node = 0 }) j
    ++ record_text (2 * i + 1) value (if nat_lt (i + 1) n then list_address (i + 1) else 0)
same_record n seed i j m size value o p q r = rw (p, o, q, r) refl

pub records-init : goal.records-init
records-init c = (begins _ _, search rules)

pub records-preserved : goal.records-preserved
records-preserved c = (
  goes_on_by_two _ _ _ _ _ _ _ _ c.records.invariant.0 c.in_ok-put_before.ensures c.in_ok-put_list_record.ensures
      (same_record _ _ _ _ _ _ _ c.from.ensures c.part_size.ensures.size c.from-in-records.ensures (drawn_value _ _ _ _ c.records.invariant.1 c.draw.ensures.value)),
  drawn_next _ _ _ _ _ c.records.invariant.1 c.draw.ensures.next refl,
)
