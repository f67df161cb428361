-- A step of the checker keeps the first of the faults that it is about.
use Rattle.std.proofs.Common.{◌≡◌, List, [], ◌∷◌, ◌++◌, Option, refl, sym, ap, ◌∙◌}
use Rattle.std.specs.Prelude.{flat_map}
use Rattle.iter_check.specs.declared.kind.Fault.{Fault}
use Rattle.iter_check.specs.First.Least.{better, least, each}

pub least_append : (best : Option Fault) (fs gs : List Fault) → least best (fs ++ gs) ≡ least (least best fs) gs
least_append best [] gs = refl
least_append best (f ∷ fs) gs = least_append (better best f) fs gs

-- a step of the checker keeps the first of what is known and of these faults
pub record Firsts (f : Option Fault → Option Fault) (fs : List Fault) : Type 0 where
  pub keeps : (best : Option Fault) → f best ≡ least best fs

pub nothing : Firsts (λ best. best) []
nothing = record { keeps = λ best. refl }

pub listed : (fs : List Fault) → Firsts (λ best. least best fs) fs
listed fs = record { keeps = λ best. refl }

pub next : {f g : Option Fault → Option Fault} {fs gs : List Fault} → Firsts f fs → Firsts g gs → Firsts (λ best. g (f best)) (fs ++ gs)
next {f} {g} {fs} {gs} a b = record { keeps = λ best. b.keeps (f best) ∙ ap (λ x. least x gs) (a.keeps best) ∙ sym (least_append best fs gs) }

-- what each of some things adds
pub each_is : {A : Type 0} {f : A → Option Fault → Option Fault} {fs : A → List Fault} → ((x : A) → Firsts (f x) (fs x)) → (xs : List A) → Firsts (each f xs) (flat_map fs xs)
each_is h [] = nothing
each_is h (x ∷ xs) = next (h x) (each_is h xs)
