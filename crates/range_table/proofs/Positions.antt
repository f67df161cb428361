-- Where the first element stands that passes a test.
use Rattle.std.proofs.Common.{◌≡◌, ℕ, ◌<◌, Bool, true, false, cond, ltb, List, length, get_or, Some, None, sym, subst, inl, inr, arith}
use Rattle.std.specs.List.{position, position_or_len}
use Rattle.std.proofs.lemmas.Bool.{cases_lt, cond-true, cond-false, lt-ltb, le-ltb}
use Rattle.std.proofs.lemmas.List.Sums.{position_or_len_is, fails_before_first}

pub position-at : {X : Type 0} (p : X → Bool) (xs : List X) (i : ℕ) (d : X) → i < length xs → ((k : ℕ) → k < i → p (get_or xs k d) ≡ false) → p (get_or xs i d) ≡ true → position p xs ≡ Some i
position-at p xs i d within before here =
    let e : position_or_len p xs ≡ i = position_or_len_is p xs i d (omega arith) before (λ _. here) in
    subst (λ (n : ℕ). cond (ltb n (length xs)) (Some n) None ≡ Some i) (sym e) (cond-true _ _ _ (lt-ltb i (length xs) within))

pub position-nowhere : {X : Type 0} (p : X → Bool) (xs : List X) (d : X) → ((k : ℕ) → k < length xs → p (get_or xs k d) ≡ false) → position p xs ≡ None
position-nowhere p xs d all =
    let e : position_or_len p xs ≡ length xs = position_or_len_is p xs (length xs) d (omega arith) all (λ lt. absurd (omega arith)) in
    subst (λ (n : ℕ). cond (ltb n (length xs)) (Some n) None ≡ None) (sym e) (cond-false _ _ _ (le-ltb (length xs) (length xs) (omega arith)))

pub position-none : {X : Type 0} (p : X → Bool) (xs : List X) → position p xs ≡ None → (k : ℕ) (d : X) → k < length xs → p (get_or xs k d) ≡ false
position-none p xs h k d lt =
    elim (cases_lt (position_or_len p xs) (length xs)) [
      | inl less ↦ let some : position p xs ≡ Some (position_or_len p xs) = cond-true _ _ _ (lt-ltb _ _ less) in absurd (cc)
      | inr past ↦ fails_before_first p xs k d (omega arith)
    ]
