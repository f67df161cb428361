-- Numbers in texts: the arguments of a request.
use Rattle.std.specs.Prelude.{ℕ, ◌+◌, ◌*◌, ◌^◌, ℤ, pos, negsuc, List, [], ◌∷◌, length, take, drop, Option, Some, None, option_and_then, bytes_eq, nat_lt, codes, if◌then◌else◌}
use Rattle.std.specs.Option.{option_or}
use Rattle.hex.specs.Hex.{hex_digit_value}
use Rattle.toml.specs.Data.{Data, as_str, as_integer}

-- the number, where it is below a limit
abbrev pub below : ℕ → ℕ → Option ℕ
below limit n = if nat_lt n limit then Some n else None

-- the number that more digits of a base make of `n`, where it and each number on the way are below the limit;
-- digits never make a number smaller
abbrev pub number_from : ℕ → ℕ → ℕ → List ℕ → Option ℕ
number_from base limit n [] = Some n
number_from base limit n (c ∷ cs) =
    option_and_then (λ d. option_and_then (λ m. number_from base limit m cs) (below limit (n * base + d)))
    (option_and_then (below base) (hex_digit_value c))

-- the number of one or more digits of a base, where it is below 2^64
abbrev pub digits : ℕ → List ℕ → Option ℕ
digits base [] = None
digits base (c ∷ cs) = number_from base (2 ^ 64) 0 (c ∷ cs)

-- what stands after a word at the front of a text
abbrev pub after : List ℕ → List ℕ → Option (List ℕ)
after word s = if bytes_eq (take (length word) s) word then Some (drop (length word) s) else None

-- `0x` and hexadecimal digits of either case, or decimal digits; zeros may stand in front
abbrev pub text_argument : Option (List ℕ) → List ℕ → Option ℕ
text_argument (Some hex) s = digits 16 hex
text_argument None s = digits 10 s

abbrev pub from_zero : ℤ → Option ℕ
from_zero (pos n) = Some n
from_zero (negsuc n) = None

-- an argument of a request: a TOML integer from 0, or a text of digits
abbrev pub argument_of : Data → Option ℕ
argument_of d =
    option_or (option_and_then from_zero (as_integer d)) (option_and_then (λ s. text_argument (after (codes "0x") s) s) (as_str d))
