-- Places of fields as the code has them: an offset past 2 ^ 64 - 1 stands at that number, where no byte lies.
use Rattle.std.specs.Prelude.{ℕ, ◌+◌, ◌-◌, ◌*◌, ◌^◌, min}
use Rattle.iter_check.specs.Layout as l
use Rattle.iter_check.specs.declared.fields.Slot.{Slot}

abbrev pub slot_of : Slot → l.Slot
slot_of s = record { offset = s.offset; width = s.width; count = s.count }

abbrev pub capped : l.Slot → l.Slot
capped s = record s { offset = min s.offset (2 ^ 64 - 1) }

abbrev pub item_start : Slot → ℕ → ℕ
item_start s i = min (s.offset + min (i * l.width_bytes s.width) (2 ^ 64 - 1)) (2 ^ 64 - 1)
