-- A token list stops being a beginning of a program at one place at most.
use Rattle.std.specs.Prelude.{slice_get}
use Rattle.std.proofs.Common.{◌≡◌, ℕ, zero, suc, ◌<◌, ◌≤◌, [], ◌∷◌, ◌++◌, length, take, Some, refl, ap, subst, arith}
use Rattle.iter_syntax.specs.Names.{Token}
use Rattle.iter_syntax.specs.Program.{BeginsProgram, StopsAt}
use Rattle.iter_syntax.proofs.Grammar.Splits.{Tokens}
use Rattle.iter_syntax.proofs.Grammar.ExactDecl.{program_ok}

-- what begins a beginning of a program begins one
begins_front : (u v : Tokens) → BeginsProgram (u ++ v) → BeginsProgram u
begins_front u v h = (h.0, (program_ok h.0).opens u v h.1)

-- the first n tokens go on behind the first m with the token there
record GoesOn (ts : Tokens) (m n : ℕ) : Type 0 where
  here : Token
  after : Tokens
  is : slice_get ts m ≡ Some here
  longer : take n ts ≡ (take m ts ++ here ∷ []) ++ after

goes_on : (ts : Tokens) (m n : ℕ) → m < n → n ≤ length ts → GoesOn ts m n
goes_on ts m zero lt le = absurd (omega arith)
goes_on [] m (suc n) lt le = absurd (omega arith)
goes_on (t ∷ ts) zero (suc n) lt le = record { here = t; after = take n ts; is = refl; longer = refl }
goes_on (t ∷ ts) (suc m) (suc n) lt le =
    let g = goes_on ts m n (omega arith) (omega arith) in
    record { here = g.here; after = g.after; is = g.is; longer = ap (λ l. t ∷ l) g.longer }

not_later : (ts : Tokens) (m n : ℕ) → StopsAt ts m → StopsAt ts n → m < n → ⊥
not_later ts m n a b lt =
    let g = goes_on ts m n lt b.inside in
    a.no_more g.here g.is (begins_front (take m ts ++ g.here ∷ []) g.after (subst BeginsProgram g.longer b.begins))

pub one_stop : (ts : Tokens) (m n : ℕ) → StopsAt ts m → StopsAt ts n → m ≡ n
one_stop ts m n a b = omega (arith, not_later ts m n a b, not_later ts n m b a)
