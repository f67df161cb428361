-- A frame is made of the numbers of a header and the bytes after it.
use Rattle.std.specs.Prelude.{◌≡◌, ℕ, List}
use Rattle.frame_codec.specs.declared.frame.Frame.{Frame}
use Rattle.frame_codec.specs.declared.header.Header.{Header}
use Rattle.frame_codec.specs.Spelling.{header_of, pad_of, HasPad, MeetsRules}

pub record IsMadeOf (frame : Frame) (header : Header) (pad : List ℕ) : Type 0 where
  pub numbers : header_of frame ≡ header
  pub bytes : pad_of frame ≡ pad
  pub has_pad : HasPad frame
  pub rules : MeetsRules frame
