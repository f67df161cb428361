-- Laws of a table's regions, for the crates above.
use Rattle.std.proofs.Common.{◌≡◌, ℕ, ◌+◌, ◌<◌, ◌≤◌, true, leb, List, length, Some, inl, inr, arith}
use Rattle.std.proofs.lemmas.Bool.{cases_order, and_parts, leb-true}
use Rattle.range_table.specs.declared.region.RegionSpan.{RegionSpan}
use Rattle.range_table.specs.Memory.{end_of, holds, region_at, region_of}
use Rattle.range_table.specs.Table.{AreApart, IsTable}
use Rattle.range_table.proofs.Lookups.{region_of-at}

-- two regions that are apart do not hold one span that has a byte
both_hold : (r s : RegionSpan) (p size : ℕ) → 1 ≤ size → AreApart r s → holds r p size ≡ true → holds s p size ≡ true → ⊥
both_hold r s p size some apart hr hs =
    let from = and_parts (leb r.base p) (leb (p + size) (end_of r)) hr in
    let to = and_parts (leb s.base p) (leb (p + size) (end_of s)) hs in
    elim apart [
      | inl before ↦ absurd (omega (arith, leb-true _ _ from.1, leb-true _ _ to.0))
      | inr after ↦ absurd (omega (arith, leb-true _ _ from.0, leb-true _ _ to.1))
    ]

-- at most one region of a table holds a span
pub one_holds : (xs : List RegionSpan) (p size i j : ℕ) → IsTable xs → 1 ≤ size → i < length xs → j < length xs → holds (region_at xs i) p size ≡ true → holds (region_at xs j) p size ≡ true → i ≡ j
one_holds xs p size i j table some i_lt j_lt hi hj =
    elim (cases_order i j) [
      | inl same ↦ same
      | inr (inl less) ↦ absurd (both_hold (region_at xs i) (region_at xs j) p size some (table.apart i j _ less j_lt) hi hj)
      | inr (inr more) ↦ absurd (both_hold (region_at xs j) (region_at xs i) p size some (table.apart j i _ more i_lt) hj hi)
    ]

-- and it is the one that the search by list order finds
pub region_of-holder : (xs : List RegionSpan) (p size i : ℕ) → IsTable xs → 1 ≤ size → i < length xs → holds (region_at xs i) p size ≡ true → region_of xs p size ≡ Some i
region_of-holder xs p size i table some lt held =
    region_of-at xs p size i lt held (λ j j_lt hj. one_holds xs p size j i table some j_lt lt hj held)
