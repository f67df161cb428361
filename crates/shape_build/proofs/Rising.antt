-- From a level of a tree to the ones above it.
use Rattle.std.proofs.Common.{ℕ, zero, suc, ◌≡◌, ◌-◌, ◌<◌, ◌≤◌, [], ◌++◌, nat_le, false, refl, arith}
use Rattle.std.proofs.lemmas.Bool.{leb-true, le-leb, false_from_ne_true}
use Rattle.shape_build.specs.declared.text.Cut.{Cut}
use Rattle.shape_build.specs.declared.tree.Level.{Level}
use Rattle.shape_build.specs.Tree.{above, root, group_rows, upper_rows}

single : (n : ℕ) → 1 < n → nat_le n 1 ≡ false
single n h = false_from_ne_true _ (λ e. omega (arith, leb-true _ _ e))

pub root_at_none : (most : ℕ) (l : Level) → most ≡ 0 → l ≡ root most l
unfolding root
root_at_none most l e = rw e refl

pub root_at_one : (most : ℕ) (l : Level) → l.size ≤ 1 → l ≡ root most l
unfolding root
root_at_one zero l h = refl
root_at_one (suc k) l h = rw (le-leb l.size 1 h) refl

pub root_above : (most : ℕ) (l : Level) → (most ≡ 0 → ⊥) → 1 < l.size → root (most - 1) (above l) ≡ root most l
unfolding root
root_above zero l h i = absurd (h refl)
root_above (suc k) l h i =
    let e : suc k - 1 ≡ k = omega arith in
    rw (e, single l.size i) refl

pub upper_at_none : (most : ℕ) (cut : Cut) (l : Level) → most ≡ 0 → upper_rows most cut l ≡ []
unfolding upper_rows
upper_at_none most cut l e = rw e refl

pub upper_at_one : (most : ℕ) (cut : Cut) (l : Level) → l.size ≤ 1 → upper_rows most cut l ≡ []
unfolding upper_rows
upper_at_one zero cut l h = refl
upper_at_one (suc k) cut l h = rw (le-leb l.size 1 h) refl

pub upper_above : (most : ℕ) (cut : Cut) (l : Level) → (most ≡ 0 → ⊥) → 1 < l.size → upper_rows most cut l ≡ group_rows cut l ++ upper_rows (most - 1) cut (above l)
unfolding upper_rows
upper_above zero cut l h i = absurd (h refl)
upper_above (suc k) cut l h i =
    let e : suc k - 1 ≡ k = omega arith in
    rw (e, single l.size i) refl
