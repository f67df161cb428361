-- What a field holds: the value of some bytes is their little-endian number, and a write changes just those bytes.
use Rattle.std.specs.Prelude.{ℕ, zero, suc, ◌+◌, ◌*◌, ◌/◌, ◌%◌, List, [], ◌∷◌, ◌++◌, length, take, drop, Option, Some, None, nat_lt, nat_le, if◌then◌else◌}
use Rattle.iter_syntax.specs.declared.tree.Width.{Width}
use Rattle.iter_check.specs.Layout.{Slot, width_bytes}

-- the little-endian number of some bytes
abbrev pub number_of : List ℕ → ℕ
number_of [] = 0
number_of (b ∷ bytes) = b + 256 * number_of bytes

-- the low bytes of a number, as many as the width, the lowest first
abbrev pub bytes_of : ℕ → ℕ → List ℕ
bytes_of zero v = []
bytes_of (suc width) v = v % 256 ∷ bytes_of width (v / 256)

-- the value at an offset
abbrev pub read_at : List ℕ → ℕ → Width → ℕ
read_at bytes offset w = number_of (take (width_bytes w) (drop offset bytes))

-- the bytes with the low bytes of `v` at an offset; where they do not lie inside, nothing changes
abbrev pub write_at : List ℕ → ℕ → Width → ℕ → List ℕ
write_at bytes offset w v =
    if nat_le (offset + width_bytes w) (length bytes)
    then take offset bytes ++ bytes_of (width_bytes w) v ++ drop (offset + width_bytes w) bytes
    else bytes

-- where an element of a field begins
abbrev pub item_at : Slot → ℕ → ℕ
item_at s i = s.offset + i * width_bytes s.width

-- the value of an element of a field; where there is no such field or element it is 0
abbrev pub read_item : Option Slot → ℕ → List ℕ → ℕ
read_item None i bytes = 0
read_item (Some s) i bytes = if nat_lt i s.count then read_at bytes (item_at s i) s.width else 0

-- the bytes with a value in an element of a field; where there is no such field or element, nothing changes
abbrev pub write_item : Option Slot → ℕ → ℕ → List ℕ → List ℕ
write_item None i v bytes = bytes
write_item (Some s) i v bytes = if nat_lt i s.count then write_at bytes (item_at s i) s.width v else bytes
