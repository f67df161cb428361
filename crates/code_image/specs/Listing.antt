-- The listing of an image, line by line. Numbers are decimal, and places count from 0 in each segment.
use Rattle.std.specs.Prelude.{ℕ, suc, List, [], ◌∷◌, ◌++◌, length, codes, decimal}
use Rattle.pulse_isa.specs.declared.instr.Instr.{Instr}
use Rattle.pulse_isa.specs.Lines.{line_text}
use Rattle.code_image.specs.declared.image.Image.{Image}

-- a line for each instruction, the first at this place
abbrev pub places_text : ℕ → List Instr → List ℕ
places_text place [] = []
places_text place (i ∷ is) = decimal place ++ codes " " ++ line_text i ++ codes "\n" ++ places_text (suc place) is

-- a segment: its name and its number of instructions, and then the instructions
abbrev pub segment_text : List ℕ → List Instr → List ℕ
segment_text name code = name ++ codes " " ++ decimal (length code) ++ codes "\n" ++ places_text 0 code

abbrev pub listing : Image → List ℕ
listing image =
    codes "image args " ++ decimal image.args ++ codes " record " ++ decimal image.record_size ++ codes " pad " ++ decimal image.pad_size ++ codes "\n"
    ++ segment_text (codes "init") image.init_code ++ segment_text (codes "body") image.body_code
