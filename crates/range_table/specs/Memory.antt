-- Flat memory: a list of regions, which of them holds a span of bytes, and what a walk meets that arrives at a span.
-- All numbers are whole: no end of a region or of a span wraps.
use Rattle.std.specs.Prelude.{ℕ, ◌+◌, Bool, false, ◌&&◌, List, Option, Some, None, nat_le, slice_index_or, position, if◌then◌else◌}
use Rattle.range_table.specs.declared.region.RegionSpan.{RegionSpan}

-- the place after the region's last byte
abbrev pub end_of : RegionSpan → ℕ
end_of r = r.base + r.len

-- the region holds the `size` bytes at `p`
abbrev pub holds : RegionSpan → ℕ → ℕ → Bool
holds r p size = nat_le r.base p && nat_le (p + size) (end_of r)

-- the place of the first region that holds the `size` bytes at `p`; where regions do not overlap, it is the only one
abbrev pub region_of : List RegionSpan → ℕ → ℕ → Option ℕ
region_of regions p size = position (λ r. holds r p size) regions

-- the region at a place of the list; past its end an empty one, which may be neither read nor written
abbrev pub region_at : List RegionSpan → ℕ → RegionSpan
region_at regions i = slice_index_or regions i (record { base = 0; len = 0; read = false; write = false })

-- whether the region at a place may be read, and whether it may be written
abbrev pub may_read : List RegionSpan → ℕ → Bool
may_read regions i = (region_at regions i).read

abbrev pub may_write : List RegionSpan → ℕ → Bool
may_write regions i = (region_at regions i).write

-- what a walk meets where its record should be: the place of the region that holds it and may be read,
-- a region that holds it and may not be read, or no region that holds it
pub data Arrival : Type 0 where
  Here : ℕ → Arrival
  NotReadable : Arrival
  Unmapped : Arrival

abbrev pub arrival_in : List RegionSpan → Option ℕ → Arrival
arrival_in regions None = Unmapped
arrival_in regions (Some i) = if may_read regions i then Here i else NotReadable

-- what a walk meets at the `size` bytes at `p`
abbrev pub arrive : List RegionSpan → ℕ → ℕ → Arrival
arrive regions p size = arrival_in regions (region_of regions p size)
