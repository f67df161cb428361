-- What stays the same in a run, as the rules have it, and the plan that the laws of runs make of it.
use Rattle.std.specs.Prelude.{◌≡◌, ℕ, ◌-◌, ◌<◌, ◌≤◌, Bool, List, length, take, drop, Option, Some, None, slice_get, slice_index_or}
use Rattle.pulse_base.specs.Cause.{kind_of}
use Rattle.range_table.specs.declared.region.RegionSpan.{RegionSpan}
use Rattle.range_table.specs.Memory.{region_of, region_at, may_read, may_write}
use Rattle.range_table.specs.Table.{IsTable}
use Rattle.frame_codec.specs.declared.frame.Leg.{Leg}
use Rattle.frame_codec.specs.declared.frame.Back.{Back}
use Rattle.run_rules.specs.declared.node.ProgramSizes.{ProgramSizes}
use Rattle.run_rules.specs.Node.{size_in, spliced}
use Rattle.run_rules.specs.Outcome.{Outcome, Done, Goes, Faults, Begin, Ready, Ended, DivZero}
use Rattle.run_laws.specs.Plan as p
use Rattle.run_views.specs.Frames.{kind_view}

-- All regions with the owner of each, the sizes of each program, client and program of each request, how its walk begins, and
-- the iteration of each program on a record: its bytes, its pointer, the pad, and whether it may be written.
pub record Setting : Type 0 where
  pub table : List RegionSpan
  pub owners : List ℕ
  pub sizes : List ProgramSizes
  pub clients : ℕ
  pub client : ℕ → ℕ
  pub program : ℕ → ℕ
  pub begin : ℕ → Begin
  pub iterate : (program : ℕ) (bytes : List ℕ) (cur : ℕ) (pad : List ℕ) (writable : Bool) → Outcome
  pub budget : ℕ
  pub rounds : ℕ
  pub tries : ℕ
  pub some_budget : 1 ≤ budget
  pub some_rounds : 1 ≤ rounds

abbrev pub pad_in : Option ProgramSizes → ℕ
pad_in None = 0
pad_in (Some s) = s.pad_size

-- the bytes of a request's record, and of its pad
abbrev pub record_size : Setting → ℕ → ℕ
record_size u r = size_in (slice_get u.sizes (u.program r))

abbrev pub pad_size : Setting → ℕ → ℕ
pad_size u r = pad_in (slice_get u.sizes (u.program r))

abbrev pub owner_of : Setting → ℕ → ℕ
owner_of u i = slice_index_or u.owners i 0

-- ---- the plan

abbrev pub begun_view : Begin → p.Begun
begun_view (Ready cur pad) = p.Begins cur pad
begun_view (Ended pad) = p.Finished pad
begun_view DivZero = p.Faulted

-- the outcome with the whole region's bytes, of which the record begins at an offset
abbrev pub outcome_view : List ℕ → ℕ → Outcome → p.Outcome
outcome_view region at (Done bytes pad) = p.Finishes (spliced region at bytes) pad
outcome_view region at (Goes to bytes pad) = p.Goes to (spliced region at bytes) pad
outcome_view region at (Faults cause) = p.Faults (kind_view (kind_of cause))

-- where in a region a record begins
abbrev pub offset_in : Setting → ℕ → ℕ → ℕ
offset_in u i cur = cur - (region_at u.table i).base

-- the iteration of a request on a record in region i
abbrev pub iterate_in : Setting → ℕ → ℕ → List ℕ → ℕ → List ℕ → Outcome
iterate_in u r i region cur pad = u.iterate (u.program r) (take (record_size u r) (drop (offset_in u i cur) region)) cur pad (may_write u.table i)

abbrev pub plan_of : Setting → p.Plan
plan_of u = record {
  region = λ r cur. region_of u.table cur (record_size u r);
  readable = λ i. may_read u.table i;
  owner = λ i. owner_of u i;
  first = λ r. begun_view (u.begin r);
  iterate = λ r i region cur pad. outcome_view region (offset_in u i cur) (iterate_in u r i region cur pad);
  budget = u.budget;
  rounds = u.rounds;
  some_budget = u.some_budget;
  some_rounds = u.some_rounds;
}

-- ---- what is always true of it

-- an outcome keeps the lengths of record and pad
abbrev pub OutcomeKeeps : (size pad : ℕ) → Outcome → Type 0
OutcomeKeeps size pad (Done bytes after) = (length bytes ≡ size) × (length after ≡ pad)
OutcomeKeeps size pad (Goes to bytes after) = (length bytes ≡ size) × (length after ≡ pad)
OutcomeKeeps size pad (Faults cause) = Unit {0}

abbrev pub BeginKeeps : (pad : ℕ) → Begin → Type 0
BeginKeeps pad (Ready cur after) = length after ≡ pad
BeginKeeps pad (Ended after) = length after ≡ pad
BeginKeeps pad DivZero = Unit {0}

-- the regions make a table, each request has a program and a client, and walks keep the lengths of records and pads
pub record IsSetting (u : Setting) : Type 0 where
  pub table : IsTable u.table
  pub programs : (r : ℕ) → u.program r < length u.sizes
  pub clients : (r : ℕ) → u.client r < u.clients
  pub sized : (r : ℕ) → 1 ≤ record_size u r
  pub begins : (r : ℕ) → BeginKeeps (pad_size u r) (u.begin r)
  pub iterates : (r : ℕ) (bytes : List ℕ) (cur : ℕ) (pad : List ℕ) (writable : Bool) → length bytes ≡ record_size u r → length pad ≡ pad_size u r
      → OutcomeKeeps (record_size u r) (pad_size u r) (u.iterate (u.program r) bytes cur pad writable)

-- ---- frames of its requests

-- a leg names its request's client and program, and has a pad of its size
pub record IsLegOf (u : Setting) (l : Leg) : Type 0 where
  pub client : l.client ≡ u.client l.request
  pub program : l.program ≡ u.program l.request
  pub pad : length l.pad ≡ pad_size u l.request

pub record IsBackOf (u : Setting) (b : Back) : Type 0 where
  pub client : b.client ≡ u.client b.request
  pub program : b.program ≡ u.program b.request
  pub pad : length b.pad ≡ pad_size u b.request
