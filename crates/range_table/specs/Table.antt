-- Which lists of regions make a table, and the fault of a list that makes none.
use Rattle.std.specs.Prelude.{◌≡◌, ℕ, ◌^◌, ◌≤◌, ◌⊎◌, Bool, ◌&&◌, List, length, take, Option, None, Some, nat_eq, nat_lt, slice_get, position, option_map, filter_map, All, AllPairs, if◌then◌else◌}
use Rattle.std.specs.List.{enumerate_from}
use Rattle.range_table.specs.declared.region.RegionSpan.{RegionSpan}
use Rattle.range_table.specs.declared.fault.TableFault.{TableFault}
use Rattle.range_table.specs.declared.fault.TableFault.TheVariants.{TooMany, Empty, Range, Overlap}
use Rattle.range_table.specs.Memory.{end_of, region_at}

-- one of the two regions ends before the other begins
abbrev pub AreApart : RegionSpan → RegionSpan → Type 0
AreApart r s = (end_of r ≤ s.base) ⊎ (end_of s ≤ r.base)

-- the regions of a table: at most 64, none empty, each ends at most at 2^48, and each two are apart
pub record IsTable (regions : List RegionSpan) : Type 0 where
  pub few : length regions ≤ 64
  pub filled : All (λ r. 1 ≤ r.len) regions
  pub low : All (λ r. end_of r ≤ 2 ^ 48) regions
  pub apart : AllPairs AreApart regions

-- two regions that are not empty have a byte in common
abbrev pub share_a_byte : RegionSpan → RegionSpan → Bool
share_a_byte r s = nat_lt r.base (end_of s) && nat_lt s.base (end_of r)

-- what is wrong with a region that stands after the earlier ones: it is empty, it ends past 2^48,
-- or it overlaps an earlier one, of which the first is named
abbrev pub region_fault : List RegionSpan → RegionSpan → Option TableFault
region_fault earlier r =
    if nat_eq r.len 0 then Some (Empty (length earlier))
    else (if nat_lt (2 ^ 48) (end_of r) then Some (Range (length earlier))
    else option_map (λ j. Overlap j (length earlier)) (position (λ s. share_a_byte r s) earlier))

-- the faults of all regions, in list order
abbrev pub region_faults : List RegionSpan → List TableFault
region_faults regions = filter_map (λ x. region_fault (take x.0 regions) x.1) (enumerate_from 0 regions)

-- the fault of a list of regions: that there are more than 64, or else the first of the regions' faults
abbrev pub table_fault : List RegionSpan → Option TableFault
table_fault regions = if nat_lt 64 (length regions) then Some TooMany else slice_get (region_faults regions) 0

-- nothing is wrong with the region at place k
abbrev pub IsClear : List RegionSpan → ℕ → Type 0
IsClear regions k = region_fault (take k regions) (region_at regions k) ≡ None
