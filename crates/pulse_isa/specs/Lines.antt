-- The text of an instruction in a listing.
use Rattle.std.specs.Prelude.{ℕ, List, [], ◌++◌, codes, decimal}
use Rattle.pulse_isa.specs.declared.instr.Instr.{Instr}
use Rattle.pulse_isa.specs.declared.row.Operands.{Operands}
use Rattle.pulse_isa.specs.declared.row.Operands.TheVariants as o
use Rattle.pulse_isa.specs.Table.{row}

abbrev pub register : ℕ → List ℕ
register r = codes " r" ++ decimal r

abbrev pub number : ℕ → List ℕ
number n = codes " " ++ decimal n

-- each operand after a space: registers as `r` and their number, all else as numbers
abbrev pub operand_text : Operands → List ℕ
operand_text (o.Window off len) = number off ++ number len
operand_text (o.Access a w off) = register a ++ number w ++ number off
operand_text (o.Register a) = register a
operand_text (o.Constant a imm) = register a ++ number imm
operand_text (o.TwoRegisters a b) = register a ++ register b
operand_text (o.ThreeRegisters a b c) = register a ++ register b ++ register c
operand_text (o.Target to) = number to
operand_text (o.Branch a b to) = register a ++ register b ++ number to
operand_text o.Nothing = []

abbrev pub line_text : Instr → List ℕ
line_text i = (row i).mnemonic ++ operand_text (row i).operands
