-- The interpreter's own types, as those of the definitions.
use Rattle.std.specs.Prelude.{◌≡◌, ℕ, ◌-◌, ◌≤◌, Bool, true, false, List, length, slice_get, Option, Some, None}
use Rattle.iter_syntax.specs.Tree.{Ex}
use Rattle.iter_check.specs.State as d
use Rattle.iter_check.specs.Value as v
use Rattle.iter_check.specs.Meaning as m
use Rattle.iter_check.specs.Iteration as i
use Rattle.flat_run.specs.Walk.{walk_of}
use Rattle.flat_run.specs.Step as s
use Rattle.flat_run.specs.declared.state.FlatRegion.{FlatRegion}
use Rattle.flat_run.specs.declared.next.Next.{Next}
use Rattle.flat_run.specs.declared.value.Setting.{Setting}
use Rattle.flat_run.specs.declared.value.State.{State}
use Rattle.flat_run.specs.declared.statements.Ending.{Ending}
use Rattle.flat_run.specs.declared.statements.Ending.TheVariants as ending
use Rattle.flat_run.specs.declared.iteration.Iterated.{Iterated}
use Rattle.flat_run.specs.declared.iteration.Iterated.TheVariants as iterated
use Rattle.flat_run.specs.declared.iteration.Begun.{Begun}
use Rattle.flat_run.specs.declared.iteration.Begun.TheVariants as begun

abbrev pub setting_of : Setting → d.Setting
setting_of g = record { record_fields = g.record_fields.now; pad_fields = g.pad_fields.now; cur = g.cur; writable = g.writable }

abbrev pub state_of : State → d.State
state_of s = record { record_bytes = s.record.items; pad = s.pad.items; names = s.names }

-- where statements lead, with the state after them
abbrev pub outcome_of : Ending → State → m.Outcome
outcome_of ending.Falls s = m.Falls (state_of s)
outcome_of ending.Done s = m.Done (state_of s)
outcome_of (ending.Goes p) s = m.Goes p (state_of s)
outcome_of (ending.Fault k) s = m.Fault k

abbrev pub is_falls : Ending → Bool
is_falls ending.Falls = true
is_falls ending.Done = false
is_falls (ending.Goes p) = false
is_falls (ending.Fault k) = false

-- the index of a use, 0 where it has none; a division by zero gives none
abbrev pub index_of : d.Setting → d.State → Option Ex → Option ℕ
index_of g s None = Some 0
index_of g s (Some e) = v.word (v.value_of g s e)

abbrev pub iterated_of : Iterated → i.Iterated
iterated_of (iterated.Done bytes pad) = i.Done bytes pad
iterated_of (iterated.Goes to bytes pad) = i.Goes to bytes pad
iterated_of (iterated.Fault k) = i.Fault k

abbrev pub begun_of : Begun → i.Begun
begun_of (begun.Ready cur pad) = i.Ready cur pad
begun_of (begun.Ended pad) = i.Ended pad
begun_of begun.DivZero = i.DivZero

abbrev pub next_is : Next → s.Next
next_is t = record { walk = walk_of t.walk; region = t.region; cur = t.cur; pad = t.pad.now; count = t.count }

-- a pad of 1 to 256 bytes
pub record HasPad (pad : List ℕ) : Type 0 where
  pub some : 1 ≤ length pad
  pub fit : length pad ≤ 256

-- so many bytes lie inside region `i` from `p` on
abbrev pub Fits : List FlatRegion → ℕ → ℕ → ℕ → Type 0
Fits regions i p size = (r : FlatRegion) → slice_get regions i ≡ Some r → size ≤ length r.bytes - (p - r.span.base)

-- the record that an iteration leaves lies inside region `i` at `p`
abbrev pub HasRoom : List FlatRegion → ℕ → ℕ → Iterated → Type 0
HasRoom regions i p (iterated.Done bytes pad) = Fits regions i p (length bytes)
HasRoom regions i p (iterated.Goes to bytes pad) = Fits regions i p (length bytes)
HasRoom regions i p (iterated.Fault k) = Unit {0}

-- the pad that an iteration leaves has 1 to 256 bytes
abbrev pub HasPadLeft : Iterated → Type 0
HasPadLeft (iterated.Done bytes pad) = HasPad pad
HasPadLeft (iterated.Goes to bytes pad) = HasPad pad
HasPadLeft (iterated.Fault k) = Unit {0}
