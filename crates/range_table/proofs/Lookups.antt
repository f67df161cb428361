-- The search by base finds the one region that holds a span.
use Rattle.std.proofs.Common.{◌≡◌, ℕ, ◌+◌, ◌-◌, ◌<◌, ◌≤◌, Bool, true, false, leb, List, length, Some, None, ap, sym, ◌∙◌, subst, inl, inr, arith, slice_index}
use Rattle.std.proofs.lemmas.Bool.{cases_lt, cases_eq, and_parts, leb-true, false_from_ne_true, both_ways}
use Rattle.std.specs.List.{slice_get}
use Rattle.std.proofs.lemmas.Option.{get_or_from_slice_get}
use Rattle.range_table.specs.declared.region.RegionSpan.{RegionSpan}
use Rattle.range_table.specs.Memory.{end_of, holds, region_at, region_of}
use Rattle.range_table.specs.Order.{IsOrder}
use Rattle.range_table.proofs.Positions.{position-at, position-nowhere}

-- `count` of the bases are at most p, and the span from p on has a byte
pub record Counts (xs : List RegionSpan) (ss ps : List ℕ) (p size count : ℕ) : Type 0 where
  pub order : IsOrder xs ss ps (length xs)
  pub some : 1 ≤ size
  pub bound : count ≤ length ss
  pub low : (k : ℕ) → k < count → slice_index ss k ≤ p
  pub high : (k : ℕ) → count ≤ k → k < length ss → p < slice_index ss k

-- a region that holds the span is the last one that begins at most at p
pub holder : (xs : List RegionSpan) (ss ps : List ℕ) (p size count : ℕ) → Counts xs ss ps p size count → (i : ℕ) → i < length xs → holds (region_at xs i) p size ≡ true → (1 ≤ count) × (i ≡ slice_index ps (count - 1))
holder xs ss ps p size count h i lt held =
    let parts = and_parts (leb (region_at xs i).base p) (leb (p + size) (end_of (region_at xs i))) held in
    let from : (region_at xs i).base ≤ p = leb-true _ _ parts.0 in
    let to : p + size ≤ end_of (region_at xs i) = leb-true _ _ parts.1 in
    let w = h.order.whole i lt in
    let base : slice_index ss w.0 ≡ (region_at xs i).base = h.order.bases w.0 w.1 ∙ ap (λ j. (region_at xs j).base) w.2 in
    let counted : w.0 < count = elim (cases_lt w.0 count) [ inl less ↦ less | inr past ↦ absurd (omega (arith, h.high w.0 past (omega (arith, h.order.starts_len, w.1)))) ] in
    let last : w.0 ≡ count - 1 = elim (cases_eq w.0 (count - 1)) [
      | inl same ↦ same
      | inr other ↦
          let begins = h.low (count - 1) (omega arith) in
          let within : count - 1 < length xs = omega (arith, h.bound, h.order.starts_len) in
          let ends : end_of (region_at xs i) ≤ slice_index ss (count - 1) = subst (λ (j : ℕ). end_of (region_at xs j) ≤ slice_index ss (count - 1)) w.2 (h.order.rising w.0 (count - 1) (omega arith) within) in
          absurd (omega (arith, h.some))
    ] in
    (omega arith, sym w.2 ∙ ap (λ k. slice_index ps k) last)

pub region_of-nowhere : (xs : List RegionSpan) (p size : ℕ) → ((i : ℕ) → i < length xs → holds (region_at xs i) p size ≡ true → ⊥) → region_of xs p size ≡ None
region_of-nowhere xs p size none = position-nowhere (λ r. holds r p size) xs _ (λ k lt. false_from_ne_true _ (none k lt))

pub region_of-at : (xs : List RegionSpan) (p size j : ℕ) → j < length xs → holds (region_at xs j) p size ≡ true → ((i : ℕ) → i < length xs → holds (region_at xs i) p size ≡ true → i ≡ j) → region_of xs p size ≡ Some j
region_of-at xs p size j lt here only =
    position-at (λ r. holds r p size) xs j _ lt (λ k less. false_from_ne_true _ (λ e. absurd (omega (arith, only k (omega arith) e)))) here

-- no region holds the span where none begins at most at p
pub none_begins : (xs : List RegionSpan) (ss ps : List ℕ) (p size count : ℕ) → Counts xs ss ps p size count → count ≡ 0 → (i : ℕ) → i < length xs → holds (region_at xs i) p size ≡ true → ⊥
none_begins xs ss ps p size count h zero_is i lt held = let w = holder xs ss ps p size count h i lt held in absurd (omega arith)

-- nor where the last that begins at most at p does not hold it
pub last_misses : (xs : List RegionSpan) (ss ps : List ℕ) (p size count : ℕ) → Counts xs ss ps p size count → holds (region_at xs (slice_index ps (count - 1))) p size ≡ false → (i : ℕ) → i < length xs → holds (region_at xs i) p size ≡ true → ⊥
last_misses xs ss ps p size count h missed i lt held =
    let w = holder xs ss ps p size count h i lt held in
    let here : holds (region_at xs (slice_index ps (count - 1))) p size ≡ true = subst (λ (j : ℕ). holds (region_at xs j) p size ≡ true) w.1 held in
    both_ways _ missed here

-- the region at j, as it was read
pub read_at : (xs : List RegionSpan) (j p size : ℕ) (r : RegionSpan) (b : Bool) → slice_get xs j ≡ Some r → b ≡ holds r p size → holds (region_at xs j) p size ≡ b
read_at xs j p size r b read is = ap (λ x. holds x p size) (get_or_from_slice_get xs j r _ read) ∙ sym is
