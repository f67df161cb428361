-- Numbers as bytes, the lowest byte first.
use Rattle.std.specs.Prelude.{ℕ, zero, suc, ◌+◌, ◌*◌, ◌/◌, ◌%◌, Bool, ◌||◌, ◌==◌, if◌then◌else◌, nat_le, List, [], ◌∷◌, ◌++◌, length, take, drop, Option, Some, None}

-- the widths that a number in bytes may have
abbrev pub is_width : ℕ → Bool
is_width w = w == 1 || w == 2 || w == 4 || w == 8

-- the number that bytes stand for
abbrev pub number : List ℕ → ℕ
number [] = 0
number (b ∷ bs) = b + 256 * number bs

-- the w low bytes of a number
abbrev pub low_bytes : ℕ → ℕ → List ℕ
low_bytes zero v = []
low_bytes (suc w) v = v % 256 ∷ low_bytes w (v / 256)

-- the number in the w bytes at `off`, where all of them are there
abbrev pub number_at : List ℕ → ℕ → ℕ → Option ℕ
number_at bytes off w = if nat_le (off + w) (length bytes) then Some (number (take w (drop off bytes))) else None

-- the bytes with the w low bytes of v at `off`, where there is room for all of them
abbrev pub stored_at : List ℕ → ℕ → ℕ → ℕ → Option (List ℕ)
stored_at bytes off w v =
    if nat_le (off + w) (length bytes)
    then Some (take off bytes ++ low_bytes w v ++ drop (off + w) bytes)
    else None
