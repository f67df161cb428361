-- The instruction table: a row for each instruction.
use Rattle.std.specs.Prelude.{ℕ, List, codes}
use Rattle.pulse_isa.specs.declared.instr.Instr.{Instr}
use Rattle.pulse_isa.specs.declared.instr.Instr.TheVariants as i
use Rattle.pulse_isa.specs.declared.row.Operands.{Operands}
use Rattle.pulse_isa.specs.declared.row.Operands.TheVariants as o

-- a row: the opcode, the mnemonic, and the operands in the order in which the listing names them
pub record Row : Type 0 where
  pub opcode : ℕ
  pub mnemonic : List ℕ
  pub operands : Operands

abbrev pub entry : ℕ → List ℕ → Operands → Row
entry opcode mnemonic operands =
    record { opcode = opcode; mnemonic = mnemonic; operands = operands }

abbrev pub row : Instr → Row
row (i.Load off len) = entry 0x01 (codes "LOAD") (o.Window off len)
row (i.GetW a w off) = entry 0x02 (codes "GETW") (o.Access a w off)
row (i.PutW a w off) = entry 0x03 (codes "PUTW") (o.Access a w off)
row (i.GetP a w off) = entry 0x04 (codes "GETP") (o.Access a w off)
row (i.PutP a w off) = entry 0x05 (codes "PUTP") (o.Access a w off)
row (i.GetC a) = entry 0x06 (codes "GETC") (o.Register a)
row (i.SetL a imm) = entry 0x07 (codes "SETL") (o.Constant a imm)
row (i.SetH a imm) = entry 0x08 (codes "SETH") (o.Constant a imm)
row (i.Mov a b) = entry 0x09 (codes "MOV") (o.TwoRegisters a b)
row (i.Add a b c) = entry 0x10 (codes "ADD") (o.ThreeRegisters a b c)
row (i.Sub a b c) = entry 0x11 (codes "SUB") (o.ThreeRegisters a b c)
row (i.Mul a b c) = entry 0x12 (codes "MUL") (o.ThreeRegisters a b c)
row (i.Div a b c) = entry 0x13 (codes "DIV") (o.ThreeRegisters a b c)
row (i.Mod a b c) = entry 0x14 (codes "MOD") (o.ThreeRegisters a b c)
row (i.And a b c) = entry 0x15 (codes "AND") (o.ThreeRegisters a b c)
row (i.Or a b c) = entry 0x16 (codes "OR") (o.ThreeRegisters a b c)
row (i.Xor a b c) = entry 0x17 (codes "XOR") (o.ThreeRegisters a b c)
row (i.Not a b) = entry 0x18 (codes "NOT") (o.TwoRegisters a b)
row (i.Shl a b c) = entry 0x19 (codes "SHL") (o.ThreeRegisters a b c)
row (i.Shr a b c) = entry 0x1a (codes "SHR") (o.ThreeRegisters a b c)
row (i.Jmp to) = entry 0x20 (codes "JMP") (o.Target to)
row (i.Jeq a b to) = entry 0x21 (codes "JEQ") (o.Branch a b to)
row (i.Jne a b to) = entry 0x22 (codes "JNE") (o.Branch a b to)
row (i.Jlt a b to) = entry 0x23 (codes "JLT") (o.Branch a b to)
row (i.Jle a b to) = entry 0x24 (codes "JLE") (o.Branch a b to)
row i.Return = entry 0x30 (codes "RETURN") o.Nothing
row (i.NextIter a) = entry 0x31 (codes "NEXT_ITER") (o.Register a)
