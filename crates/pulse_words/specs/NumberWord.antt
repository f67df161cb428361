-- Words that are numbers.
use Rattle.std.specs.Prelude.{◌≡◌, ℕ, ◌<◌, ◌^◌, List, decimal}

-- the word of a number below 2^64: `0`, or its decimal digits, which do not begin with 0
abbrev pub IsNumberWord : List ℕ → ℕ → Type 0
IsNumberWord word n = (word ≡ decimal n) × (n < 2 ^ 64)
