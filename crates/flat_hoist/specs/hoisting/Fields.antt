-- A field of the record or of the pad.
use Rattle.std.specs.Prelude.{ℕ, ◌+◌, ◌==◌, ◌&&◌, ◌||◌, Bool, nat_le, if◌then◌else◌, List}
use Rattle.iter_syntax.specs.declared.tree.Width.{Width}
use Rattle.iter_check.specs.Layout.{width_bytes}
use Rattle.iter_check.specs.FieldValue.{read_at}
use Rattle.iter_unroll.specs.Flat.{Fx, Slots}
use Rattle.iter_unroll.specs.Flat as f
use Rattle.flat_hoist.specs.declared.field.Field.{Field}

-- as an expression
abbrev pub read_of : Field → Fx
read_of h = if h.pad then f.pad_field h.off h.width else f.cur_field h.off h.width

-- the bytes of its side, and what it holds
abbrev pub side_of : Bool → Slots → List ℕ
side_of pad s = if pad then s.pad else s.record_bytes

abbrev pub held : Field → Slots → ℕ
held h s = read_at (side_of h.pad s) h.off h.width

-- it has just these bytes of its side
abbrev pub has_bytes : Field → ℕ → Width → Bool
has_bytes h o w = h.off == o && width_bytes h.width == width_bytes w

-- it has none of these bytes of its side
abbrev pub misses : Field → ℕ → Width → Bool
misses h o w = nat_le (h.off + width_bytes h.width) o || nat_le (o + width_bytes w) h.off
