-- The layout of an image's header: its numbers in order, each little-endian in the width of its type, 14 bytes in all.
use Rattle.std.specs.Prelude.{◌≡◌, ℕ, ◌^◌, ◌<◌, List, ◌++◌}
use Rattle.std.specs.Int.{w8, w16, w32, to_le_bytes}
use Rattle.code_image.specs.declared.header.Header.{Header}

abbrev pub header_bytes : Header → List ℕ
header_bytes h =
    to_le_bytes w32 h.magic ++ (to_le_bytes w8 h.version ++ (to_le_bytes w8 h.args ++ (to_le_bytes w16 h.record_size ++
    (to_le_bytes w16 h.pad_size ++ (to_le_bytes w16 h.init_words ++ to_le_bytes w16 h.body_words)))))

-- Each number fits the width of its type.
pub record HeaderFits (h : Header) : Type 0 where
  pub magic : h.magic < 2 ^ 32
  pub version : h.version < 2 ^ 8
  pub args : h.args < 2 ^ 8
  pub record_size : h.record_size < 2 ^ 16
  pub pad_size : h.pad_size < 2 ^ 16
  pub init_words : h.init_words < 2 ^ 16
  pub body_words : h.body_words < 2 ^ 16

-- Bytes are a header of these numbers, and the rest.
pub record IsHeaded (bytes : List ℕ) (h : Header) (rest : List ℕ) : Type 0 where
  pub fits : HeaderFits h
  pub parts : bytes ≡ header_bytes h ++ rest
