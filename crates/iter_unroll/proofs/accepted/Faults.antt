-- What an empty list of faults says of its parts.
use Rattle.std.proofs.Common.{◌≡◌, Bool, true, false, not, ◌||◌, List, [], ◌∷◌, ◌++◌, refl}
use Rattle.iter_syntax.specs.declared.tree.Place.{Place}
use Rattle.iter_check.specs.declared.kind.CheckKind.{CheckKind}
use Rattle.iter_check.specs.Faults.{fault}

pub first_nil : {A : Type 0} (xs ys : List A) → xs ++ ys ≡ [] → xs ≡ []
first_nil [] ys e = refl
first_nil (x ∷ xs) ys e = cc

pub last_nil : {A : Type 0} (xs ys : List A) → xs ++ ys ≡ [] → ys ≡ []
last_nil [] ys e = e
last_nil (x ∷ xs) ys e = cc

-- there is no fault where nothing is wrong
pub right : (k : CheckKind) (p : Place) (b : Bool) → fault k p b ≡ [] → b ≡ false
right k p true e = cc
right k p false e = refl

pub or_left : (a b : Bool) → (a || b) ≡ false → a ≡ false
or_left true b e = e
or_left false b e = refl

pub or_right : (a b : Bool) → (a || b) ≡ false → b ≡ false
or_right true b e = cc
or_right false b e = e

pub not_false : (b : Bool) → not b ≡ false → b ≡ true
not_false true e = refl
not_false false e = cc
