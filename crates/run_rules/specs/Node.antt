-- A node, and the record of a leg on it.
use Rattle.std.specs.Prelude.{ℕ, ◌+◌, ◌-◌, Bool, false, List, [], ◌∷◌, ◌++◌, length, map, take, drop, Option, Some, None, nat_eq, ◌&&◌, slice_get, slice_set, slice_index_or, if◌then◌else◌}
use Rattle.std.specs.FinMap as m
use Rattle.range_table.specs.declared.region.RegionSpan.{RegionSpan}
use Rattle.range_table.specs.Memory.{region_of}
use Rattle.frame_codec.specs.declared.frame.Leg.{Leg}
use Rattle.frame_codec.specs.declared.frame.Back.{Back}
use Rattle.frame_codec.specs.declared.frame.Ending.{Ending}
use Rattle.leg_ledger.specs.declared.leg.LegKey.{LegKey}
use Rattle.leg_ledger.specs.declared.leg.Reply.{Reply}
use Rattle.leg_ledger.specs.Legs.{key_cmp}
use Rattle.run_rules.specs.declared.node.NodeRegion.{NodeRegion}
use Rattle.run_rules.specs.declared.node.ProgramSizes.{ProgramSizes}
use Rattle.run_rules.specs.declared.node.LiveLeg.{LiveLeg}

-- the replies that are kept: each the back of a leg that ended, and the region at which the leg was started
abbrev pub Kept : Type 0
Kept = m.FinMap key_cmp Reply

-- its regions, the sizes of each program, how many legs may be live, the kept replies, and the live legs in turn order
pub record NodeState : Type 0 where
  pub regions : List NodeRegion
  pub sizes : List ProgramSizes
  pub slots : ℕ
  pub kept : Kept
  pub live : List LiveLeg

-- ---- legs and their names

-- what names a leg
abbrev pub key_of : Leg → LegKey
key_of l = record { client = l.client; request = l.request; leg = l.leg }

-- the back of a leg as it stands
abbrev pub back_of : Leg → Ending → Back
back_of l e = record { client = l.client; request = l.request; leg = l.leg; program = l.program; left = l.left; cur = l.cur; pad = l.pad; ending = e }

abbrev pub same_key : LegKey → LegKey → Bool
same_key x y = nat_eq x.client y.client && (nat_eq x.request y.request && nat_eq x.leg y.leg)

-- the live leg of a name
abbrev pub find_live : List LiveLeg → LegKey → Option LiveLeg
find_live [] q = None
find_live (e ∷ es) q = if same_key q (key_of e.leg) then Some e else find_live es q

-- ---- records

abbrev pub spans_of : List NodeRegion → List RegionSpan
spans_of regions = map (λ r. r.span) regions

abbrev pub size_in : Option ProgramSizes → ℕ
size_in None = 0
size_in (Some s) = s.record_size

-- the bytes of a record of the leg's program
abbrev pub size_of : NodeState → Leg → ℕ
size_of n l = size_in (slice_get n.sizes l.program)

-- the place of the region here that holds the leg's record
abbrev pub place_of : NodeState → Leg → Option ℕ
place_of n l = region_of (spans_of n.regions) l.cur (size_of n l)

-- the region at a place; past the end an empty one
abbrev pub region_at : NodeState → ℕ → NodeRegion
region_at n i = slice_index_or n.regions i (record { number = 0; span = record { base = 0; len = 0; read = false; write = false }; bytes = [] })

-- where in the region at a place the leg's record begins
abbrev pub offset_of : NodeState → Leg → ℕ → ℕ
offset_of n l i = l.cur - (region_at n i).span.base

-- the bytes of the leg's record in the region at a place
abbrev pub record_in : NodeState → Leg → ℕ → List ℕ
record_in n l i = take (size_of n l) (drop (offset_of n l i) (region_at n i).bytes)

-- the bytes from `at` on are these, all others stay
abbrev pub spliced : List ℕ → ℕ → List ℕ → List ℕ
spliced bytes at new = take at bytes ++ new ++ drop (at + length new) bytes

-- the region at a place has these bytes in the leg's record, all else stays
abbrev pub with_record : NodeState → Leg → ℕ → List ℕ → NodeState
with_record n l i new = record n { regions = slice_set n.regions i (record (region_at n i) { bytes = spliced (region_at n i).bytes (offset_of n l i) new }) }
