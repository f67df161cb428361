-- What a memory source and a memory sink hold, and what one call does to them.
use Rattle.std.specs.Prelude.{◌≡◌, ℕ, ◌+◌, ◌-◌, ◌^◌, min, List, ◌++◌, length, drop, Contains, ◌⊎◌}

-- bytes that are left, bytes a call at most, the numbers of the calls that fail, calls made, calls that failed
pub record Reader : Type 0 where
  pub left : List ℕ
  pub piece : ℕ
  pub fails : List ℕ
  pub calls : ℕ
  pub faults : ℕ

-- bytes taken, bytes that it takes in all, bytes a call at most, and as above
pub record Writer : Type 0 where
  pub taken : List ℕ
  pub room : ℕ
  pub piece : ℕ
  pub fails : List ℕ
  pub calls : ℕ
  pub faults : ℕ

-- one more, up to the last value of 64 bits
abbrev pub next : ℕ → ℕ
next n = min (n + 1) (2 ^ 64 - 1)

abbrev pub ReadFails : Reader → Type 0
ReadFails r = Contains r.fails r.calls

-- how many bytes a read into `len` bytes takes
abbrev pub read_count : Reader → ℕ → ℕ
read_count r len = min (length r.left) (min len r.piece)

abbrev pub after_read : Reader → ℕ → Reader
after_read r n = record r { left = drop n r.left; calls = next r.calls }

abbrev pub after_failed_read : Reader → Reader
after_failed_read r = record r { calls = next r.calls; faults = next r.faults }

abbrev pub WriteFails : Writer → Type 0
WriteFails w = Contains w.fails w.calls ⊎ (length w.taken ≡ w.room)

-- how many bytes a write of `len` bytes takes
abbrev pub write_count : Writer → ℕ → ℕ
write_count w len = min len (min w.piece (w.room - length w.taken))

abbrev pub after_write : Writer → List ℕ → Writer
after_write w bytes = record w { taken = w.taken ++ bytes; calls = next w.calls }

abbrev pub after_failed_write : Writer → Writer
after_failed_write w = record w { calls = next w.calls; faults = next w.faults }
