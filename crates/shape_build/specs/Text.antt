-- The lines of a document.
use Rattle.std.specs.Prelude.{ℕ, zero, suc, ◌+◌, ◌-◌, ◌*◌, ◌/◌, ◌%◌, List, [], ◌++◌, codes, decimal, nat_eq, if◌then◌else◌}
use Rattle.std.specs.Int.{w8, w16, w64, to_le_bytes}
use Rattle.hex.specs.Hex.{encode_lower}
use Rattle.shape_build.specs.declared.text.Cut.{Cut}

-- the texts of the numbers below `count`, in order
unfoldable pub below : (count : ℕ) → (ℕ → List ℕ) → List ℕ
below zero text = []
below (suc n) text = below n text ++ text n

unfoldable pub line : List ℕ → ℕ → List ℕ
line name number = name ++ decimal number ++ codes "\n"

-- the lines before the events
unfoldable pub head_text : (program : List ℕ) (budget rounds : ℕ) → List ℕ
head_text program budget rounds =
    codes "program = '''\n" ++ program ++ codes "'''\nnodes = 4\nslots = 4\n" ++ line (codes "budget = ") budget ++ line (codes "rounds = ") rounds ++ codes "tries = 1000\nevents = [\n"

-- ---- regions

-- a number of a record: 8 bytes, lowest first, in hexadecimal digits
unfoldable pub word : ℕ → List ℕ
word n = encode_lower (to_le_bytes w64 n)

-- the same in two bytes, and in one
unfoldable pub short : ℕ → List ℕ
short n = encode_lower (to_le_bytes w16 n)

unfoldable pub byte : ℕ → List ℕ
byte n = encode_lower (to_le_bytes w8 n)

-- a row of records that is cut into so many parts has this many in each, and fewer in the last ones
abbrev pub part_size : (records parts : ℕ) → ℕ
part_size records parts = (records + parts - 1) / parts

unfoldable pub region_head : Cut → (first : ℕ) → List ℕ
region_head c first = codes "[[region]]\n" ++ line (codes "base = ") (c.base + c.width * first) ++ line (codes "node = ") (c.node + first / c.size) ++ codes "hex = \""

abbrev pub region_end : List ℕ
region_end = codes "\"\n"

-- what stands before record t: a new region where the one before is full
unfoldable pub before_record : Cut → ℕ → List ℕ
before_record c t = if nat_eq (t % c.size) 0 then (if nat_eq t 0 then region_head c t else region_end ++ region_head c t) else []
