-- What reading a source to its end did to what was left, where the source tells it.
use Rattle.std.specs.Prelude.{◌≡◌, ℕ, ◌<◌, ◌≤◌, List, [], length, drop, Option, Some, None, Result, Ok, Err}
use Rattle.pulse_base.specs.declared.reading.ReadAll.{ReadAll}
use Rattle.pulse_base.specs.declared.reading.ReadAll.TheVariants.{TooLong}

-- all of it, at most `max` bytes; or a front, where more than `max` bytes stood before the end or a call failed
abbrev pub ReadsAll : ℕ → Option (List ℕ) → Option (List ℕ) → Result (List ℕ) ReadAll → Type 0
ReadsAll max None now r = now ≡ None
ReadsAll max (Some left) now (Ok bytes) = (now ≡ Some []) × (bytes ≡ left) × (length left ≤ max)
ReadsAll max (Some left) now (Err TooLong) = (n : ℕ) × (now ≡ Some (drop n left)) × (max < length left)
ReadsAll max (Some left) now (Err e) = (n : ℕ) × (now ≡ Some (drop n left))
