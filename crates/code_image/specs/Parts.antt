-- An image is made of the numbers of a header and two segments, and of the words behind the header.
use Rattle.std.specs.Prelude.{◌≡◌, ◌*◌, List, ℕ, length, take, drop}
use Rattle.pulse_isa.specs.declared.instr.Instr.{Instr}
use Rattle.code_image.specs.declared.header.Header.{Header}
use Rattle.code_image.specs.declared.image.Image.{Image}
use Rattle.code_image.specs.Checks.{IsWords}

pub record IsMadeOf (image : Image) (h : Header) (init_code body_code : List Instr) : Type 0 where
  pub record_size : image.record_size ≡ h.record_size
  pub pad_size : image.pad_size ≡ h.pad_size
  pub args : image.args ≡ h.args
  pub init : image.init_code ≡ init_code
  pub body : image.body_code ≡ body_code

pub record IsImageOf (image : Image) (h : Header) (rest : List ℕ) : Type 0 where
  pub init_code : List Instr
  pub body_code : List Instr
  pub made : IsMadeOf image h init_code body_code
  pub init_count : length init_code ≡ h.init_words
  pub body_count : length body_code ≡ h.body_words
  pub init : IsWords init_code (take (8 * h.init_words) rest)
  pub body : IsWords body_code (drop (8 * h.init_words) rest)
