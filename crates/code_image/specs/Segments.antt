-- The sizes of an image: what its two segments are verified for, and what a record or a pad may have.
use Rattle.std.specs.Prelude.{ℕ, ◌*◌, ◌≤◌, true, false}
use Rattle.code_verify.specs.declared.bad.Sizes.{Sizes}

-- init has the arguments, of 8 bytes each, for its window
abbrev pub init_sizes : (args pad_size : ℕ) → Sizes
init_sizes args pad_size = record { init = true; window = 8 * args; pad = pad_size }

-- the body has the record
abbrev pub body_sizes : (record_size pad_size : ℕ) → Sizes
body_sizes record_size pad_size = record { init = false; window = record_size; pad = pad_size }

-- a record and a pad have 1 to 256 bytes
pub record IsSize (size : ℕ) : Type 0 where
  pub some : 1 ≤ size
  pub fits : size ≤ 256
