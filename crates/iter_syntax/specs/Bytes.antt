-- The classes of bytes that tokens are made of.
use Rattle.std.specs.Prelude.{ℕ, Bool, ◌==◌, ◌||◌}
use Rattle.std.specs.Char.{is_ascii_lowercase, is_ascii_digit, is_ascii_alphanumeric}

-- space, tab, CR or LF
abbrev pub is_separator : ℕ → Bool
is_separator b = b == 32 || b == 9 || b == 13 || b == 10

-- what a word goes on with: a small letter, a digit or `_`
abbrev pub in_word : ℕ → Bool
in_word b = is_ascii_lowercase b || is_ascii_digit b || b == 95

-- what may not stand right after a number: a letter of either case, a digit or `_`
abbrev pub in_run : ℕ → Bool
in_run b = is_ascii_alphanumeric b || b == 95
