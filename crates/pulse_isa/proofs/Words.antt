-- What a spelling's opcode names, read from that spelling, is the instruction that it spells: a word spells no other.
use Rattle.std.proofs.Common.{◌≡◌, ℕ, ◌+◌, ◌*◌, ◌/◌, ◌%◌, ◌<◌, ◌^◌, Option, Some, List, slice_index, ap, ◌∙◌, arith}
use Rattle.std.proofs.lemmas.Nat.{from_le_bytes-to_le_bytes_4}
use Rattle.pulse_isa.specs.declared.instr.Instr.{Instr}
use Rattle.pulse_isa.specs.declared.instr.Instr.TheVariants as i
use Rattle.pulse_isa.specs.Table.{row}
use Rattle.pulse_isa.specs.Words.{word, Fits, spelling, Spells}
use Rattle.pulse_isa.specs.Opcodes.{named}

-- the instruction that a word's opcode names
abbrev pub read_word : List ℕ → Option Instr
read_word w =
    named (slice_index w 0) (slice_index w 1) (slice_index w 2) (slice_index w 3) (slice_index w 4 + slice_index w 5 * 256 + slice_index w 6 * 65536 + slice_index w 7 * 16777216)

read_word-word : (opcode a b c imm : ℕ) → imm < 2 ^ 32 → read_word (word opcode a b c imm) ≡ named opcode a b c imm
read_word-word opcode a b c imm h = ap (named opcode a b c) (from_le_bytes-to_le_bytes_4 imm h)

pub read_word-spelling : (j : Instr) → Fits (row j).operands → read_word (spelling j) ≡ Some j
read_word-spelling (i.Load off len) h =
    let low : (off + len * 65536) % 65536 ≡ off = omega (arith, h.0, h.1) in
    let high : (off + len * 65536) / 65536 ≡ len = omega (arith, h.0, h.1) in
    read_word-word 0x01 0 0 0 (off + len * 65536) (omega (arith, h.0, h.1)) ∙ cc
read_word-spelling (i.GetW a w off) h = read_word-word 0x02 a w 0 off h.2
read_word-spelling (i.PutW a w off) h = read_word-word 0x03 a w 0 off h.2
read_word-spelling (i.GetP a w off) h = read_word-word 0x04 a w 0 off h.2
read_word-spelling (i.PutP a w off) h = read_word-word 0x05 a w 0 off h.2
read_word-spelling (i.GetC a) h = read_word-word 0x06 a 0 0 0 (omega arith)
read_word-spelling (i.SetL a imm) h = read_word-word 0x07 a 0 0 imm h.1
read_word-spelling (i.SetH a imm) h = read_word-word 0x08 a 0 0 imm h.1
read_word-spelling (i.Mov a b) h = read_word-word 0x09 a b 0 0 (omega arith)
read_word-spelling (i.Add a b c) h = read_word-word 0x10 a b c 0 (omega arith)
read_word-spelling (i.Sub a b c) h = read_word-word 0x11 a b c 0 (omega arith)
read_word-spelling (i.Mul a b c) h = read_word-word 0x12 a b c 0 (omega arith)
read_word-spelling (i.Div a b c) h = read_word-word 0x13 a b c 0 (omega arith)
read_word-spelling (i.Mod a b c) h = read_word-word 0x14 a b c 0 (omega arith)
read_word-spelling (i.And a b c) h = read_word-word 0x15 a b c 0 (omega arith)
read_word-spelling (i.Or a b c) h = read_word-word 0x16 a b c 0 (omega arith)
read_word-spelling (i.Xor a b c) h = read_word-word 0x17 a b c 0 (omega arith)
read_word-spelling (i.Not a b) h = read_word-word 0x18 a b 0 0 (omega arith)
read_word-spelling (i.Shl a b c) h = read_word-word 0x19 a b c 0 (omega arith)
read_word-spelling (i.Shr a b c) h = read_word-word 0x1a a b c 0 (omega arith)
read_word-spelling (i.Jmp to) h = read_word-word 0x20 0 0 0 to h
read_word-spelling (i.Jeq a b to) h = read_word-word 0x21 a b 0 to h.2
read_word-spelling (i.Jne a b to) h = read_word-word 0x22 a b 0 to h.2
read_word-spelling (i.Jlt a b to) h = read_word-word 0x23 a b 0 to h.2
read_word-spelling (i.Jle a b to) h = read_word-word 0x24 a b 0 to h.2
read_word-spelling i.Return h = read_word-word 0x30 0 0 0 0 (omega arith)
read_word-spelling (i.NextIter a) h = read_word-word 0x31 a 0 0 0 (omega arith)

pub read_word-spells : (j : Instr) (w : List ℕ) → Spells j w → read_word w ≡ Some j
read_word-spells j w h = ap read_word h.word ∙ read_word-spelling j h.fits

-- a word spells one instruction
pub spells_one : (j k : Instr) (w : List ℕ) → Spells j w → Spells k w → j ≡ k
spells_one j k w h l =
    let a : read_word w ≡ Some j = read_word-spells j w h in
    let b : read_word w ≡ Some k = read_word-spells k w l in
    cc
