-- The layout of a frame's header: its numbers in order, each little-endian in the width of its type, 30 bytes in all.
use Rattle.std.specs.Prelude.{◌≡◌, ℕ, ◌^◌, ◌<◌, List, ◌++◌}
use Rattle.std.specs.Int.{w8, w16, w32, w64, to_le_bytes}
use Rattle.frame_codec.specs.declared.header.Header.{Header}

abbrev pub header_bytes : Header → List ℕ
header_bytes h =
    to_le_bytes w16 h.magic ++ (to_le_bytes w8 h.version ++ (to_le_bytes w8 h.kind ++ (to_le_bytes w16 h.client ++
    (to_le_bytes w32 h.request ++ (to_le_bytes w32 h.leg ++ (to_le_bytes w16 h.program ++ (to_le_bytes w16 h.left ++
    (to_le_bytes w8 h.ending ++ (to_le_bytes w8 h.fault ++ (to_le_bytes w64 h.cur ++ to_le_bytes w16 h.pad_len))))))))))

-- Each number fits the width of its type.
pub record HeaderFits (h : Header) : Type 0 where
  pub magic : h.magic < 2 ^ 16
  pub version : h.version < 2 ^ 8
  pub kind : h.kind < 2 ^ 8
  pub client : h.client < 2 ^ 16
  pub request : h.request < 2 ^ 32
  pub leg : h.leg < 2 ^ 32
  pub program : h.program < 2 ^ 16
  pub left : h.left < 2 ^ 16
  pub ending : h.ending < 2 ^ 8
  pub fault : h.fault < 2 ^ 8
  pub cur : h.cur < 2 ^ 64
  pub pad_len : h.pad_len < 2 ^ 16

-- Bytes are a header of these numbers, and the rest.
pub record IsHeaded (bytes : List ℕ) (h : Header) (rest : List ℕ) : Type 0 where
  pub fits : HeaderFits h
  pub parts : bytes ≡ header_bytes h ++ rest
