-- Which lists make a switch: each region has an owner, and each program the size of its record.
use Rattle.std.specs.Prelude.{◌≡◌, ℕ, ◌<◌, ◌≤◌, List, length, All}

-- a node is one of 64
abbrev pub IsNode : ℕ → Type 0
IsNode n = n < 64

-- a record has 1 to 256 bytes
abbrev pub IsRecordSize : ℕ → Type 0
IsRecordSize size = (1 ≤ size) × (size ≤ 256)
