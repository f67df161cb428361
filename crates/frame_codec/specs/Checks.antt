-- The checks of bytes that may be a frame, in their order, and the first that fails.
use Rattle.std.specs.Prelude.{◌≡◌, ℕ, ◌<◌, Bool, not, ◌&&◌, ◌||◌, List, length, Option, Some, None, if◌then◌else◌, nat_lt, nat_le, ◌==◌, ◌⊎◌}
use Rattle.frame_codec.specs.declared.bad_frame.BadFrame.{BadFrame}
use Rattle.frame_codec.specs.declared.bad_frame.BadFrame.TheVariants.{Short, Magic, Version, Kind, Field, Long}
use Rattle.frame_codec.specs.declared.header.Header.{Header}
use Rattle.frame_codec.specs.Layout.{IsHeaded}

-- from low to high, both included
abbrev pub within : ℕ → ℕ → ℕ → Bool
within low high n = nat_le low n && nat_le n high

abbrev pub leg_rules : Header → Bool
leg_rules h = nat_le 1 h.left && (h.ending == 0) && (h.fault == 0) && within 1 256 h.pad_len

-- 1 done, 2 reroute, 3 resume, 4 fault
abbrev pub ending_rules : Header → Bool
ending_rules h =
    ((h.ending == 1) && (h.cur == 0) && (h.fault == 0))
    || ((h.ending == 2) && nat_le 1 h.left && (h.fault == 0))
    || ((h.ending == 3) && (h.left == 0) && (h.fault == 0))
    || ((h.ending == 4) && nat_le 1 h.left && within 1 4 h.fault)

abbrev pub back_rules : Header → Bool
back_rules h = within 1 256 h.pad_len && ending_rules h

abbrev pub stop_rules : Header → Bool
stop_rules h =
    (h.client == 0) && (h.request == 0) && (h.leg == 0) && (h.program == 0) && (h.left == 0)
    && (h.ending == 0) && (h.fault == 0) && (h.cur == 0) && (h.pad_len == 0)

abbrev pub field_rules : Header → Bool
field_rules h = if h.kind == 1 then leg_rules h else if h.kind == 2 then back_rules h else stop_rules h

-- The first check that fails where after bytes follow the header.
abbrev pub first_fault : Header → ℕ → Option BadFrame
first_fault h after =
    if not (h.magic == 0x4c50) then Some Magic
    else if not (h.version == 1) then Some Version
    else if not (within 1 3 h.kind) then Some Kind
    else if not (field_rules h) then Some Field
    else if nat_lt after h.pad_len then Some Short
    else if nat_lt h.pad_len after then Some Long
    else None

-- The bytes are refused for this.
abbrev pub Refuses : List ℕ → BadFrame → Type 0
Refuses bytes bad =
    ((length bytes < 30) × (bad ≡ Short))
    ⊎ ((h : Header) × (rest : List ℕ) × IsHeaded bytes h rest × (first_fault h (length rest) ≡ Some bad))
