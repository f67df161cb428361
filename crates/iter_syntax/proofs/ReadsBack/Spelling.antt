-- What a kind of token is printed as spells it, and ends before what is printed behind it.
use Rattle.std.proofs.Common.{◌≡◌, ℕ, ◌^◌, ◌<◌, Bool, true, false, cond, List, [], ◌∷◌, drop, decimal, nat_eq, nat_lt, Some, refl, sym, ap, ◌∙◌, subst, arith}
use Rattle.std.specs.Prelude.{codes}
use Rattle.std.specs.List.{list_all, starts_with}
use Rattle.std.specs.Cmp.{second_so}
use Rattle.std.specs.Char.{digit_value}
use Rattle.std.specs.Str.Parse.{AllDigits, IsNumeral, digits_value}
use Rattle.std.proofs.lemmas.Bool.{ltb-true, lt-ltb}
use Rattle.std.proofs.lemmas.Bool.Decides.{Decides-eqb}
use Rattle.std.proofs.lemmas.Option.{cond_some}
use Rattle.std.proofs.lemmas.Fmt.{decimal_is_IsNumeral}
use Rattle.std.proofs.lemmas.Slice.Eq.{starts_is}
use Rattle.iter_syntax.specs.Names.{Symbol, TokenKind}
use Rattle.iter_syntax.specs.declared.token.Symbol.TheVariants as S
use Rattle.iter_syntax.specs.declared.token.TokenKind.TheVariants as T
use Rattle.iter_syntax.specs.Spelling.{symbol_text, symbol_of, is_numeral, numeral, number_of, Spells, goes_on_as_symbol, Ends}
use Rattle.iter_syntax.specs.Printed.{spelling}
use Rattle.iter_syntax.proofs.TokenKinds.{Spelled}

-- a number is below 2^64, and its decimal digits write it

numeral_small : (radix n : ℕ) (p : List ℕ) → numeral radix p ≡ Some n → n < 2 ^ 64
numeral_small radix n [] h = cc
numeral_small radix n (d ∷ ds) h =
    let found = cond_some (is_numeral radix (d ∷ ds)) (digits_value radix (d ∷ ds)) n h in
    omega (arith, found.1, ltb-true _ _ (second_so (list_all (λ c. nat_lt (digit_value c) radix) (d ∷ ds)) _ found.0))

small_by : (b : Bool) (n : ℕ) (p : List ℕ) → cond b (numeral 16 (drop 2 p)) (numeral 10 p) ≡ Some n → n < 2 ^ 64
small_by true n p h = numeral_small 16 n (drop 2 p) h
small_by false n p h = numeral_small 10 n p h

number_small : (n : ℕ) (p : List ℕ) → number_of p ≡ Some n → n < 2 ^ 64
number_small n p h = small_by (starts_with nat_eq p (codes "0x")) n p h

digits_pass : (ds : List ℕ) → AllDigits 10 ds → list_all (λ c. nat_lt (digit_value c) 10) ds ≡ true
digits_pass [] d = refl
digits_pass (c ∷ cs) d = rw (lt-ltb (digit_value c) 10 d.0) (digits_pass cs d.1)

not_hex_by : (p : List ℕ) (b : Bool) → AllDigits 10 p → starts_with nat_eq p (codes "0x") ≡ b → b ≡ false
not_hex_by p false d e = refl
not_hex_by p true d e = absurd (omega (arith, (subst (AllDigits 10) ((starts_is Decides-eqb p (codes "0x") _ refl).0 e) d).1.0))

not_hex : (p : List ℕ) → AllDigits 10 p → starts_with nat_eq p (codes "0x") ≡ false
not_hex p d = not_hex_by p (starts_with nat_eq p (codes "0x")) d refl

numeral_own : (p : List ℕ) → IsNumeral 10 p → digits_value 10 p < 2 ^ 64 → numeral 10 p ≡ Some (digits_value 10 p)
numeral_own [] h s = absurd (omega (arith, h.0))
numeral_own (d ∷ ds) h s = rw (digits_pass (d ∷ ds) h.1, lt-ltb (digits_value 10 (d ∷ ds)) (2 ^ 64) s)

decimal_own : (n : ℕ) → n < 2 ^ 64 → number_of (decimal n) ≡ Some n
decimal_own n small =
    let is = decimal_is_IsNumeral n small in
    ap (λ b. cond b (numeral 16 (drop 2 (decimal n))) (numeral 10 (decimal n))) (not_hex (decimal n) is.0.1)
    ∙ numeral_own (decimal n) is.0 (omega (arith, is.1))
    ∙ ap Some is.1

-- where any bytes spell a kind, what is printed does
pub spelling_spells : (k : TokenKind) → Spelled k → Spells (spelling k) k
spelling_spells (T.Name w) h = subst (λ p. Spells p (T.Name w)) (sym h.1.3) h.1
spelling_spells (T.Keyword k) h = refl
spelling_spells (T.Number n) h = decimal_own n (number_small n h.0 h.1)
spelling_spells (T.Symbol s) h = refl

-- no symbol goes on with LF or a space
symbol_stops : (s : Symbol) → (goes_on_as_symbol (symbol_text s) 10 ≡ false) × (goes_on_as_symbol (symbol_text s) 32 ≡ false)
unfolding symbol_of
symbol_stops S.Range = (refl, refl)
symbol_stops s = (refl, refl)

-- a token ends where LF or a space stands behind it
pub spelling_ends : (k : TokenKind) (lf : Bool) (rest : List ℕ) → Ends (spelling k) k (cond lf 10 32 ∷ rest)
spelling_ends (T.Name w) true rest = refl
spelling_ends (T.Name w) false rest = refl
spelling_ends (T.Keyword k) true rest = refl
spelling_ends (T.Keyword k) false rest = refl
spelling_ends (T.Number n) true rest = refl
spelling_ends (T.Number n) false rest = refl
spelling_ends (T.Symbol s) true rest = (symbol_stops s).0
spelling_ends (T.Symbol s) false rest = (symbol_stops s).1
