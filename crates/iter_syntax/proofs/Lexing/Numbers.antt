-- The reader's numbers are those of the definition.
use Rattle.std.proofs.Common.{◌≡◌, ℕ, ◌+◌, ◌*◌, ◌^◌, ◌<◌, ◌≤◌, Bool, true, false, cond, ◌&&◌, List, [], ◌∷◌, drop, nat_eq, nat_lt, Some, None, refl, sym, subst, arith}
use Rattle.std.specs.Prelude.{codes, Option}
use Rattle.std.specs.List.{list_all, starts_with}
use Rattle.std.specs.Cmp.{first_so, second_so}
use Rattle.std.specs.Char.{is_ascii_digit, digit_value}
use Rattle.std.specs.Str.Parse.{digits_value_after}
use Rattle.std.proofs.Math.Bool.{and-false}
use Rattle.std.proofs.Math.Nat.{mul-le-mul_left}
use Rattle.std.proofs.lemmas.Bool.{ltb-true, lt-ltb, ltb-false, le-ltb}
use Rattle.std.proofs.lemmas.Bool.Decides.{nat_tests, Decides-eqb}
use Rattle.std.proofs.lemmas.Option.{cond_some}
use Rattle.std.proofs.lemmas.Str.Parse.{digit_from_value}
use Rattle.std.proofs.lemmas.Slice.Eq.{starts_is}
use Rattle.iter_syntax.specs.Bytes.{in_run}
use Rattle.iter_syntax.specs.Spelling.{is_numeral, numeral, number_of, first_is}
use Rattle.iter_syntax.specs.Steps.Reading.{then_numeral, numeral_from, read_numeral, read_number}

-- more digits write no smaller number
grows : (radix n : ℕ) (ds : List ℕ) → 1 ≤ radix → n ≤ digits_value_after radix n ds
grows radix n [] h = omega arith
grows radix n (d ∷ ds) h = omega (arith, grows radix (n * radix + digit_value d) ds h, mul-le-mul_left n h)

abbrev digits_so : ℕ → List ℕ → Bool
digits_so radix ds = list_all (λ c. nat_lt (digit_value c) radix) ds

abbrev whole : ℕ → ℕ → List ℕ → Option ℕ
whole radix n ds = cond (digits_so radix ds && nat_lt (digits_value_after radix n ds) (2 ^ 64)) (Some (digits_value_after radix n ds)) None

step : (radix n d : ℕ) (ds : List ℕ) (a b : Bool) → nat_lt (n * radix + digit_value d) (2 ^ 64) ≡ b → 1 ≤ radix → (n * radix + digit_value d < 2 ^ 64 → numeral_from radix (n * radix + digit_value d) ds ≡ whole radix (n * radix + digit_value d) ds) → then_numeral (cond (a && b) (Some (n * radix + digit_value d)) None) (λ m. numeral_from radix m ds) ≡ cond ((a && digits_so radix ds) && nat_lt (digits_value_after radix (n * radix + digit_value d) ds) (2 ^ 64)) (Some (digits_value_after radix (n * radix + digit_value d) ds)) None
step radix n d ds false b h r rest = refl
step radix n d ds true true h r rest = rest (ltb-true _ _ h)
step radix n d ds true false h r rest =
    let large : nat_lt (digits_value_after radix (n * radix + digit_value d) ds) (2 ^ 64) ≡ false = le-ltb _ _ (omega (arith, grows radix (n * radix + digit_value d) ds r, ltb-false _ _ h)) in
    rw (large, and-false)

-- the reader's number is the definition's
pub from_is : (radix n : ℕ) (ds : List ℕ) → 1 ≤ radix → n < 2 ^ 64 → numeral_from radix n ds ≡ whole radix n ds
from_is radix n [] r h = rw (lt-ltb n (2 ^ 64) h)
from_is radix n (d ∷ ds) r h = step radix n d ds (nat_lt (digit_value d) radix) (nat_lt (n * radix + digit_value d) (2 ^ 64)) refl r (λ small. from_is radix (n * radix + digit_value d) ds r small)

pub numeral_is : (radix : ℕ) (ds : List ℕ) → 1 ≤ radix → read_numeral radix ds ≡ numeral radix ds
numeral_is radix [] r = refl
numeral_is radix (d ∷ ds) r = from_is radix 0 (d ∷ ds) r (omega arith)

pub number_is : (p : List ℕ) → read_number p ≡ number_of p
number_is p = rw (numeral_is 16 (drop 2 p) (omega arith), numeral_is 10 p (omega arith))

-- digits are letters and digits

weaken : (f g : ℕ → Bool) → ((c : ℕ) → f c ≡ true → g c ≡ true) → (xs : List ℕ) → list_all f xs ≡ true → list_all g xs ≡ true
weaken f g h [] a = refl
weaken f g h (x ∷ xs) a = rw (h x (first_so (f x) _ a)) (weaken f g h xs (second_so (f x) _ a))

digit_is : (c : ℕ) → nat_lt (digit_value c) 10 ≡ true → is_ascii_digit c ≡ true
digit_is c h = grind (arith, nat_tests, digit_from_value c (ltb-true _ _ h))

digit_runs : (c : ℕ) → nat_lt (digit_value c) 16 ≡ true → in_run c ≡ true
digit_runs c h = grind (arith, nat_tests)

-- the bytes of a number, the first of which is a digit
pub record IsRun (p : List ℕ) : Type 0 where
  pub passes : list_all in_run p ≡ true
  pub digit : first_is is_ascii_digit p ≡ true

numeral_digits : (radix v : ℕ) (p : List ℕ) → numeral radix p ≡ Some v → digits_so radix p ≡ true
numeral_digits radix v [] h = cc
numeral_digits radix v (d ∷ ds) h = first_so (digits_so radix (d ∷ ds)) _ (cond_some (is_numeral radix (d ∷ ds)) _ v h).0

first_digit : (v : ℕ) (p : List ℕ) → numeral 10 p ≡ Some v → first_is is_ascii_digit p ≡ true
first_digit v [] h = cc
first_digit v (d ∷ ds) h = digit_is d (first_so _ (digits_so 10 ds) (numeral_digits 10 v (d ∷ ds) h))

decimal_run : (v : ℕ) (p : List ℕ) → numeral 10 p ≡ Some v → IsRun p
decimal_run v p h = record {
  passes = weaken (λ c. nat_lt (digit_value c) 10) in_run (λ c e. digit_runs c (lt-ltb _ 16 (omega (arith, ltb-true _ _ e)))) p (numeral_digits 10 v p h);
  digit = first_digit v p h;
}

hex_run : (v : ℕ) (ds : List ℕ) → numeral 16 ds ≡ Some v → IsRun (48 ∷ 120 ∷ ds)
hex_run v ds h = record { passes = weaken (λ c. nat_lt (digit_value c) 16) in_run digit_runs ds (numeral_digits 16 v ds h); digit = refl }

run_by : (v : ℕ) (p : List ℕ) (b : Bool) → starts_with nat_eq p (codes "0x") ≡ b → cond b (numeral 16 (drop 2 p)) (numeral 10 p) ≡ Some v → IsRun p
run_by v p true e h = subst IsRun (sym ((starts_is Decides-eqb p (codes "0x") _ refl).0 e)) (hex_run v (drop 2 p) h)
run_by v p false e h = decimal_run v p h

pub number_runs : (v : ℕ) (p : List ℕ) → number_of p ≡ Some v → IsRun p
number_runs v p h = run_by v p (starts_with nat_eq p (codes "0x")) refl h
