-- Which instructions a word can spell: those whose width, if they have one, is 1, 2, 4 or 8.
use Rattle.std.specs.Prelude.{Bool, true, IsTrue}
use Rattle.pulse_isa.specs.declared.instr.Instr.{Instr}
use Rattle.pulse_isa.specs.declared.instr.Instr.TheVariants.{GetW, PutW, GetP, PutP}
use Rattle.pulse_isa.specs.Bytes.{is_width}

abbrev pub has_spelling : Instr → Bool
has_spelling (GetW a w off) = is_width w
has_spelling (PutW a w off) = is_width w
has_spelling (GetP a w off) = is_width w
has_spelling (PutP a w off) = is_width w
has_spelling _ = true

abbrev pub HasSpelling : Instr → Type 0
HasSpelling i = IsTrue (has_spelling i)
