use Rattle.std.proofs.Common.{suc, sym, ap, arith, ◌≡◌, ℕ, ◌+◌, ◌*◌, ◌%◌, List, ◌++◌, slice_set, slice_index_or, refl, rules}
use Rattle.shape_build.specs.Draws.{draw}
use Rattle.shape_build.specs.Text.{part_size, before_record}
use Rattle.shape_build.specs.Records.{record_text, firsts, chained_cut, chained_record}
use Rattle.shape_build.proofs.Below.{begins, goes_on_by_two}
use Rattle.shape_build.proofs.Drawing.{drawn_value, drawn_next}
use Rattle.shape_build.proofs.buckets_document.put_chained.Goals as goal

same_record : (n seed i j m size value : ℕ) (chains : List ℕ) → m ≡ n → size ≡ part_size m 3 → j ≡ i → value ≡ draw seed i → chains ≡ firsts i →
    before_record (chained_cut n) i ++ chained_record seed i
    ≡ before_record (record { size = size; base = 67072; width = 24; node = 1 }) j ++ record_text (j + 1) value (slice_index_or chains ((j + 1) % 64) 0)
same_record n seed i j m size value chains o p q r s = rw (p, o, q, r, s) refl

one_more : (i j : ℕ) (chains : List ℕ) → j ≡ i → chains ≡ firsts i → slice_set chains ((j + 1) % 64) (67072 + 24 * j) ≡ firsts (i + 1)
unfolding firsts
one_more i j chains q s =
    let e : i + 1 ≡ suc i = omega arith in
    rw (q, s) (sym (ap firsts e))

pub records-init : goal.records-init
unfolding firsts
records-init c = (begins _ _, search rules, search rules)

pub records-preserved : goal.records-preserved
records-preserved c = (
  goes_on_by_two _ _ _ _ _ _ _ _ c.records.invariant.0 c.in_ok-put_before.ensures c.in_ok-put_record.ensures
      (same_record _ _ _ _ _ _ _ _ c.from.ensures c.part_size.ensures.size c.from-i.ensures (drawn_value _ _ _ _ c.records.invariant.1 c.draw.ensures.value) c.records.invariant.2),
  drawn_next _ _ _ _ _ c.records.invariant.1 c.draw.ensures.next refl,
  one_more _ _ _ c.from-i.ensures c.records.invariant.2,
)
