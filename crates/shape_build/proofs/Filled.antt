-- A number of a record that is used, and one that is not.
use Rattle.std.proofs.Common.{ℕ, ◌≡◌, ◌<◌, ◌≤◌, nat_lt, false, arith, refl}
use Rattle.std.proofs.lemmas.Bool.{ltb-true, lt-ltb, false_from_ne_true}
use Rattle.shape_build.specs.Text.{word}
use Rattle.shape_build.specs.Tree.{filled}

pub filled_used : (count j : ℕ) (value : ℕ → ℕ) → j < count → filled count value j ≡ word (value j)
filled_used count j value h = rw (lt-ltb j count h) refl

pub filled_unused : (count j : ℕ) (value : ℕ → ℕ) → count ≤ j → filled count value j ≡ word 0
filled_unused count j value h =
    let e : nat_lt j count ≡ false = false_from_ne_true _ (λ t. omega (arith, ltb-true _ _ t)) in
    rw e refl
