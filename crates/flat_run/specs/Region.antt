-- The bytes of a record in the regions of a flat memory.
use Rattle.std.specs.Prelude.{◌≡◌, ℕ, ◌+◌, ◌-◌, List, [], ◌++◌, length, take, drop, Option, Some, None, map, slice_get, slice_set, All}
use Rattle.range_table.specs.declared.region.RegionSpan.{RegionSpan}
use Rattle.range_table.specs.Table.{IsTable}
use Rattle.flat_run.specs.declared.state.FlatRegion.{FlatRegion}

abbrev pub spans : List FlatRegion → List RegionSpan
spans regions = map (λ r. r.span) regions

-- a memory: each region has as many bytes as its span says, and the spans make a table
pub record IsMemory (regions : List FlatRegion) : Type 0 where
  pub filled : All (λ r. length r.bytes ≡ r.span.len) regions
  pub table : IsTable (spans regions)

-- what no step changes of a region
abbrev pub shape : FlatRegion → RegionSpan × ℕ
shape r = (r.span, length r.bytes)

-- the bytes of a region from an address on
abbrev pub bytes_at : Option FlatRegion → ℕ → ℕ → List ℕ
bytes_at None p size = []
bytes_at (Some r) p size = take size (drop (p - r.span.base) r.bytes)

-- a list with other items in the place of as many from `offset` on
abbrev pub spliced : List ℕ → ℕ → List ℕ → List ℕ
spliced bytes offset new = take offset bytes ++ new ++ drop (offset + length new) bytes

-- the regions with other bytes in one of them from an address on
abbrev pub with_bytes : List FlatRegion → ℕ → ℕ → List ℕ → Option FlatRegion → List FlatRegion
with_bytes regions i p new None = regions
with_bytes regions i p new (Some r) = slice_set regions i (record r { bytes = spliced r.bytes (p - r.span.base) new })

-- the `size` bytes at `p` in region `i`
abbrev pub record_at : List FlatRegion → ℕ → ℕ → ℕ → List ℕ
record_at regions i p size = bytes_at (slice_get regions i) p size

-- the regions with other bytes at `p` in region `i`
abbrev pub put_record : List FlatRegion → ℕ → ℕ → List ℕ → List FlatRegion
put_record regions i p new = with_bytes regions i p new (slice_get regions i)
