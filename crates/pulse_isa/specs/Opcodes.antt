-- The instruction that the opcode of a word names, its operands read from their places in the word.
-- The fields that its row does not name are not looked at.
use Rattle.std.specs.Prelude.{ℕ, ◌/◌, ◌%◌, ◌==◌, nat_lt, if◌then◌else◌, Option, Some, None}
use Rattle.pulse_isa.specs.declared.instr.Instr.{Instr}
use Rattle.pulse_isa.specs.declared.instr.Instr.TheVariants as i

-- 01 to 09
abbrev pub moving : ℕ → ℕ → ℕ → ℕ → Option Instr
moving opcode a b imm =
    if opcode == 0x01 then Some (i.Load (imm % 65536) (imm / 65536)) else (
    if opcode == 0x02 then Some (i.GetW a b imm) else (
    if opcode == 0x03 then Some (i.PutW a b imm) else (
    if opcode == 0x04 then Some (i.GetP a b imm) else (
    if opcode == 0x05 then Some (i.PutP a b imm) else (
    if opcode == 0x06 then Some (i.GetC a) else (
    if opcode == 0x07 then Some (i.SetL a imm) else (
    if opcode == 0x08 then Some (i.SetH a imm) else (
    if opcode == 0x09 then Some (i.Mov a b) else None))))))))

-- 10 to 1a
abbrev pub computing : ℕ → ℕ → ℕ → ℕ → Option Instr
computing opcode a b c =
    if opcode == 0x10 then Some (i.Add a b c) else (
    if opcode == 0x11 then Some (i.Sub a b c) else (
    if opcode == 0x12 then Some (i.Mul a b c) else (
    if opcode == 0x13 then Some (i.Div a b c) else (
    if opcode == 0x14 then Some (i.Mod a b c) else (
    if opcode == 0x15 then Some (i.And a b c) else (
    if opcode == 0x16 then Some (i.Or a b c) else (
    if opcode == 0x17 then Some (i.Xor a b c) else (
    if opcode == 0x18 then Some (i.Not a b) else (
    if opcode == 0x19 then Some (i.Shl a b c) else (
    if opcode == 0x1a then Some (i.Shr a b c) else None))))))))))

-- 20 to 31
abbrev pub leading : ℕ → ℕ → ℕ → ℕ → Option Instr
leading opcode a b imm =
    if opcode == 0x20 then Some (i.Jmp imm) else (
    if opcode == 0x21 then Some (i.Jeq a b imm) else (
    if opcode == 0x22 then Some (i.Jne a b imm) else (
    if opcode == 0x23 then Some (i.Jlt a b imm) else (
    if opcode == 0x24 then Some (i.Jle a b imm) else (
    if opcode == 0x30 then Some i.Return else (
    if opcode == 0x31 then Some (i.NextIter a) else None))))))

abbrev pub named : ℕ → ℕ → ℕ → ℕ → ℕ → Option Instr
named opcode a b c imm =
    if nat_lt opcode 0x10 then moving opcode a b imm else (
    if nat_lt opcode 0x20 then computing opcode a b c else leading opcode a b imm)
