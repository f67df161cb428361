-- The word of eight bytes that spells an instruction, by its row of the table.
use Rattle.std.specs.Prelude.{◌≡◌, ℕ, ◌+◌, ◌*◌, ◌^◌, ◌<◌, List, ◌∷◌}
use Rattle.std.specs.Int.{w32, to_le_bytes}
use Rattle.pulse_isa.specs.declared.instr.Instr.{Instr}
use Rattle.pulse_isa.specs.declared.row.Operands.{Operands}
use Rattle.pulse_isa.specs.declared.row.Operands.TheVariants as o
use Rattle.pulse_isa.specs.Spelling.{HasSpelling}
use Rattle.pulse_isa.specs.Table.{row}

-- a word: opcode, a, b, c, and a little-endian immediate of 32 bits
abbrev pub word : ℕ → ℕ → ℕ → ℕ → ℕ → List ℕ
word opcode a b c imm = opcode ∷ a ∷ b ∷ c ∷ to_le_bytes w32 imm

-- where each operand stands in the word; what a row does not name is zero
abbrev pub placed : ℕ → Operands → List ℕ
placed opcode (o.Window off len) = word opcode 0 0 0 (off + len * 65536)
placed opcode (o.Access a w off) = word opcode a w 0 off
placed opcode (o.Register a) = word opcode a 0 0 0
placed opcode (o.Constant a imm) = word opcode a 0 0 imm
placed opcode (o.TwoRegisters a b) = word opcode a b 0 0
placed opcode (o.ThreeRegisters a b c) = word opcode a b c 0
placed opcode (o.Target to) = word opcode 0 0 0 to
placed opcode (o.Branch a b to) = word opcode a b 0 to
placed opcode o.Nothing = word opcode 0 0 0 0

abbrev pub spelling : Instr → List ℕ
spelling i = placed (row i).opcode (row i).operands

-- operands are numbers of their types
abbrev pub Fits : Operands → Type 0
Fits (o.Window off len) = (off < 2 ^ 16) × (len < 2 ^ 16)
Fits (o.Access a w off) = (a < 2 ^ 8) × (w < 2 ^ 8) × (off < 2 ^ 32)
Fits (o.Register a) = a < 2 ^ 8
Fits (o.Constant a imm) = (a < 2 ^ 8) × (imm < 2 ^ 32)
Fits (o.TwoRegisters a b) = (a < 2 ^ 8) × (b < 2 ^ 8)
Fits (o.ThreeRegisters a b c) = (a < 2 ^ 8) × (b < 2 ^ 8) × (c < 2 ^ 8)
Fits (o.Target to) = to < 2 ^ 32
Fits (o.Branch a b to) = (a < 2 ^ 8) × (b < 2 ^ 8) × (to < 2 ^ 32)
Fits o.Nothing = Unit {0}

-- w is the word that spells the instruction i
pub record Spells (i : Instr) (w : List ℕ) : Type 0 where
  pub fits : Fits (row i).operands
  pub width : HasSpelling i
  pub word : w ≡ spelling i
