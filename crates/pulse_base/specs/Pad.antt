-- A pad as the list of its bytes: the bytes past its length are zero.
use Rattle.std.specs.Prelude.{◌≡◌, ℕ, ◌-◌, ◌≤◌, List, ◌++◌, length, take, drop, replicate}
use Rattle.pulse_base.specs.declared.pad_bytes.PadBytes.TheInside.{Inside}

abbrev pub pad_view : Inside → List ℕ
pad_view p = take p.len p.bytes

pub record IsPad (p : Inside) : Type 0 where
  pub some : 1 ≤ p.len
  pub fits : p.len ≤ 256
  pub whole : length p.bytes ≡ 256
  pub zeros : drop p.len p.bytes ≡ replicate (256 - p.len) 0

abbrev pub pad_fields : List ℕ → Inside
pad_fields bytes = record { bytes = bytes ++ replicate (256 - length bytes) 0; len = length bytes }
