-- Which bytes spell an image: each image has one spelling, a header and the words of init and of the body.
use Rattle.std.specs.Prelude.{◌≡◌, ℕ, List, [], ◌∷◌, ◌++◌, length, All}
use Rattle.pulse_isa.specs.declared.instr.Instr.{Instr}
use Rattle.pulse_isa.specs.Table.{row}
use Rattle.pulse_isa.specs.Words.{Fits, spelling}
use Rattle.code_image.specs.declared.header.Header.{Header}
use Rattle.code_image.specs.declared.image.Image.{Image}
use Rattle.code_image.specs.Layout.{header_bytes, HeaderFits}

-- the words of instructions, one after the other
abbrev pub words : List Instr → List ℕ
words [] = []
words (i ∷ is) = spelling i ++ words is

-- operands are numbers of their types
abbrev pub OperandsFit : Instr → Type 0
OperandsFit i = Fits (row i).operands

-- magic is the bytes 50 4c 49 4d
abbrev pub header_of : Image → Header
header_of image = record {
  magic = 0x4d494c50;
  version = 1;
  args = image.args;
  record_size = image.record_size;
  pad_size = image.pad_size;
  init_words = length image.init_code;
  body_words = length image.body_code;
}

abbrev pub image_bytes : Image → List ℕ
image_bytes image = header_bytes (header_of image) ++ (words image.init_code ++ words image.body_code)

-- The image's numbers are those of their types, and the bytes are its spelling.
pub record Spells (bytes : List ℕ) (image : Image) : Type 0 where
  pub numbers : HeaderFits (header_of image)
  pub init : All OperandsFit image.init_code
  pub body : All OperandsFit image.body_code
  pub spelling : bytes ≡ image_bytes image

-- two images with the same numbers and the same code
pub record IsSame (a b : Image) : Type 0 where
  pub record_size : a.record_size ≡ b.record_size
  pub pad_size : a.pad_size ≡ b.pad_size
  pub args : a.args ≡ b.args
  pub init : a.init_code ≡ b.init_code
  pub body : a.body_code ≡ b.body_code
