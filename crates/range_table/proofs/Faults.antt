-- The first of a list's faults, and what follows where there is none.
use Rattle.std.proofs.Common.{◌≡◌, ℕ, ltb, eqb, cond, inl, inr, zero, suc, ◌+◌, ◌<◌, ◌≤◌, ◌^◌, Bool, true, false, List, [], ◌∷◌, length, get_or, take, Option, Some, None, refl, ap, ◌∙◌, sym, subst, arith, length-take}
use Rattle.std.specs.List.{enumerate_from, filter_map, cons_option, slice_get, position}
use Rattle.std.specs.Option.{option_map}
use Rattle.std.proofs.lemmas.Bool.{and_cases, and_left, and_right, cond-false, ltb-false, le-ltb, eqb-false, ne_eqb}
use Rattle.std.proofs.lemmas.List.{get_or_default, get_or-take}
use Rattle.range_table.specs.declared.region.RegionSpan.{RegionSpan}
use Rattle.range_table.specs.declared.fault.TableFault.{TableFault}
use Rattle.range_table.specs.declared.fault.TableFault.TheVariants.{Empty, Range, Overlap}
use Rattle.range_table.specs.Memory.{end_of, region_at}
use Rattle.range_table.specs.Table.{AreApart, IsTable, IsClear, share_a_byte, region_fault, region_faults, table_fault}
use Rattle.range_table.proofs.Positions.{position-nowhere, position-none}

-- nothing is given where h gives nothing of each element and its place
pub filter_map-none : {X Y : Type 0} (h : ℕ × X → Option Y) (xs : List X) (n : ℕ) (d : X) → ((k : ℕ) → k < length xs → h (n + k, get_or xs k d) ≡ None) → filter_map h (enumerate_from n xs) ≡ []
filter_map-none h [] n d all = refl
filter_map-none h (x ∷ xs) n d all =
    let here : h (n, x) ≡ None = subst (λ (m : ℕ). h (m, x) ≡ None) (omega arith) (all 0 (omega arith)) in
    let rest : filter_map h (enumerate_from (n + 1) xs) ≡ [] =
    filter_map-none h xs (n + 1) d (λ k lt. subst (λ (m : ℕ). h (m, get_or xs k d) ≡ None) (omega arith) (all (suc k) (omega arith))) in
    ap (λ o. cons_option o (filter_map h (enumerate_from (n + 1) xs))) here ∙ rest

-- the first thing given is that of the first element of which h gives anything
pub filter_map-first : {X Y : Type 0} (h : ℕ × X → Option Y) (xs : List X) (n : ℕ) (d : X) (i : ℕ) (y : Y) → i < length xs → ((k : ℕ) → k < i → h (n + k, get_or xs k d) ≡ None) → h (n + i, get_or xs i d) ≡ Some y → slice_get (filter_map h (enumerate_from n xs)) 0 ≡ Some y
filter_map-first h [] n d i y within before here = absurd (omega arith)
filter_map-first h (x ∷ xs) n d zero y within before here =
    let this : h (n, x) ≡ Some y = subst (λ (m : ℕ). h (m, x) ≡ Some y) (omega arith) here in
    ap (λ o. slice_get (cons_option o (filter_map h (enumerate_from (n + 1) xs))) 0) this
filter_map-first h (x ∷ xs) n d (suc i) y within before here =
    let this : h (n, x) ≡ None = subst (λ (m : ℕ). h (m, x) ≡ None) (omega arith) (before 0 (omega arith)) in
    let rest : slice_get (filter_map h (enumerate_from (n + 1) xs)) 0 ≡ Some y =
    filter_map-first h xs (n + 1) d i y (omega arith)
    (λ k lt. subst (λ (m : ℕ). h (m, get_or xs k d) ≡ None) (omega arith) (before (suc k) (omega arith)))
    (subst (λ (m : ℕ). h (m, get_or xs i d) ≡ Some y) (omega arith) here) in
    ap (λ o. slice_get (cons_option o (filter_map h (enumerate_from (n + 1) xs))) 0) this ∙ rest

-- two regions that share no byte, where one begins no later than the other
pub end-before : (r s : RegionSpan) → share_a_byte r s ≡ false → s.base ≤ r.base → 1 ≤ r.len → end_of s ≤ r.base
end-before r s h le filled =
    elim (and_cases (ltb r.base (end_of s)) (ltb s.base (end_of r)) h) [ inl e ↦ omega (arith, ltb-false r.base (end_of s) e) | inr e ↦ absurd (omega (arith, ltb-false s.base (end_of r) e)) ]

pub end-after : (r s : RegionSpan) → share_a_byte r s ≡ false → r.base < s.base → 1 ≤ s.len → end_of r ≤ s.base
end-after r s h lt filled =
    elim (and_cases (ltb r.base (end_of s)) (ltb s.base (end_of r)) h) [ inl e ↦ absurd (omega (arith, ltb-false r.base (end_of s) e)) | inr e ↦ omega (arith, ltb-false s.base (end_of r) e) ]

apart_from_share : (r s : RegionSpan) → share_a_byte r s ≡ false → AreApart s r
apart_from_share r s h =
    elim (and_cases (ltb r.base (end_of s)) (ltb s.base (end_of r)) h) [ inl e ↦ inl (ltb-false r.base (end_of s) e) | inr e ↦ inr (ltb-false s.base (end_of r) e) ]

share_from_apart : (r s : RegionSpan) → AreApart s r → share_a_byte r s ≡ false
share_from_apart r s h =
    elim h [ inl e ↦ and_left _ _ (le-ltb r.base (end_of s) e) | inr e ↦ and_right (ltb r.base (end_of s)) _ (le-ltb s.base (end_of r) e) ]

-- a region of which nothing is wrong
pub record IsSound (earlier : List RegionSpan) (r : RegionSpan) : Type 0 where
  pub filled : 1 ≤ r.len
  pub low : end_of r ≤ 2 ^ 48
  pub alone : (j : ℕ) → j < length earlier → share_a_byte r (region_at earlier j) ≡ false

else_none : {F : Type 0} (b : Bool) (f : F) (o : Option F) → cond b (Some f) o ≡ None → (b ≡ false) × (o ≡ None)
else_none true f o h = absurd (cc)
else_none false f o h = (refl, h)

map_none : {F G : Type 0} (g : F → G) (o : Option F) → option_map g o ≡ None → o ≡ None
map_none g None h = refl
map_none g (Some x) h = absurd (cc)

pub sound_from_no_fault : (earlier : List RegionSpan) (r : RegionSpan) → region_fault earlier r ≡ None → IsSound earlier r
sound_from_no_fault earlier r h =
    let one = else_none (eqb r.len 0) (Empty (length earlier)) _ h in
    let two = else_none (ltb (2 ^ 48) (end_of r)) (Range (length earlier)) _ one.1 in
    let three = map_none (λ j. Overlap j (length earlier)) (position (λ s. share_a_byte r s) earlier) two.1 in
    let some : r.len ≡ 0 → ⊥ = eqb-false r.len 0 one.0 in
    record {
      filled = omega (arith, some);
      low = ltb-false (2 ^ 48) (end_of r) two.0;
      alone = λ j lt. position-none (λ s. share_a_byte r s) earlier three j _ lt;
    }

pub no_fault_from_sound : (earlier : List RegionSpan) (r : RegionSpan) → IsSound earlier r → region_fault earlier r ≡ None
no_fault_from_sound earlier r h =
    let one : eqb r.len 0 ≡ false = ne_eqb r.len 0 (λ e. absurd (omega (arith, h.filled))) in
    let two : ltb (2 ^ 48) (end_of r) ≡ false = le-ltb (2 ^ 48) (end_of r) h.low in
    let three : position (λ s. share_a_byte r s) earlier ≡ None = position-nowhere (λ s. share_a_byte r s) earlier _ h.alone in
    cond-false (eqb r.len 0) _ _ one ∙ cond-false (ltb (2 ^ 48) (end_of r)) _ _ two ∙ ap (option_map (λ j. Overlap j (length earlier))) three

pub clear_filled : (xs : List RegionSpan) (k : ℕ) → IsClear xs k → 1 ≤ (region_at xs k).len
clear_filled xs k h = (sound_from_no_fault (take k xs) (region_at xs k) h).filled

pub clear_low : (xs : List RegionSpan) (k : ℕ) → IsClear xs k → end_of (region_at xs k) ≤ 2 ^ 48
clear_low xs k h = (sound_from_no_fault (take k xs) (region_at xs k) h).low

pub clear_alone : (xs : List RegionSpan) (k j : ℕ) → k ≤ length xs → j < k → IsClear xs k → share_a_byte (region_at xs k) (region_at xs j) ≡ false
clear_alone xs k j within lt h =
    subst (λ (s : RegionSpan). share_a_byte (region_at xs k) s ≡ false) (get_or-take k xs j _ lt) ((sound_from_no_fault (take k xs) (region_at xs k) h).alone j (omega (arith, length-take k xs)))

-- a list whose regions are clear makes a table, and only such a list
pub table_from_clear : (xs : List RegionSpan) → length xs ≤ 64 → ((k : ℕ) → k < length xs → IsClear xs k) → IsTable xs
table_from_clear xs few clear = record {
  few = few;
  filled = λ k d lt. subst (λ (r : RegionSpan). 1 ≤ r.len) (get_or_default xs k _ d lt) (clear_filled xs k (clear k lt));
  low = λ k d lt. subst (λ (r : RegionSpan). end_of r ≤ 2 ^ 48) (get_or_default xs k _ d lt) (clear_low xs k (clear k lt));
  apart = λ i j d less lt.
      subst (λ (r : RegionSpan). AreApart r (get_or xs j d)) (get_or_default xs i _ d (omega arith))
      (subst (λ (s : RegionSpan). AreApart (region_at xs i) s) (get_or_default xs j _ d lt)
      (apart_from_share (region_at xs j) (region_at xs i) (clear_alone xs j i (omega arith) less (clear j lt))));
}

pub clear_from_table : (xs : List RegionSpan) → IsTable xs → (k : ℕ) → k < length xs → IsClear xs k
clear_from_table xs h k lt =
    no_fault_from_sound (take k xs) (region_at xs k) (record {
      filled = h.filled k _ lt;
      low = h.low k _ lt;
      alone = λ j less.
          let j_lt : j < k = omega (arith, length-take k xs) in
          subst (λ (s : RegionSpan). share_a_byte (region_at xs k) s ≡ false) (sym (get_or-take k xs j _ j_lt)) (share_from_apart (region_at xs k) (region_at xs j) (h.apart j k _ j_lt lt));
    })

-- the fault of a list, by what is wrong with each of its regions
pub no_table_fault : (xs : List RegionSpan) → length xs ≤ 64 → ((k : ℕ) → k < length xs → IsClear xs k) → table_fault xs ≡ None
no_table_fault xs few clear =
    let none : region_faults xs ≡ [] = filter_map-none (λ x. region_fault (take x.0 xs) x.1) xs 0 _ (λ k lt. subst (λ (m : ℕ). region_fault (take m xs) (region_at xs k) ≡ None) (omega arith) (clear k lt)) in
    cond-false (ltb 64 (length xs)) _ _ (le-ltb 64 (length xs) few) ∙ ap (λ fs. slice_get fs 0) none

pub first_region_fault : (xs : List RegionSpan) (i : ℕ) (fault : TableFault) → i < length xs → ((k : ℕ) → k < i → IsClear xs k) → region_fault (take i xs) (region_at xs i) ≡ Some fault → slice_get (region_faults xs) 0 ≡ Some fault
first_region_fault xs i fault lt clear here =
    filter_map-first (λ x. region_fault (take x.0 xs) x.1) xs 0 _ i fault lt
    (λ k less. subst (λ (m : ℕ). region_fault (take m xs) (region_at xs k) ≡ None) (omega arith) (clear k less))
    (subst (λ (m : ℕ). region_fault (take m xs) (region_at xs i) ≡ Some fault) (omega arith) here)

pub table_fault-first : (xs : List RegionSpan) (fault : TableFault) → length xs ≤ 64 → slice_get (region_faults xs) 0 ≡ Some fault → table_fault xs ≡ Some fault
table_fault-first xs fault few h = cond-false (ltb 64 (length xs)) _ _ (le-ltb 64 (length xs) few) ∙ h
