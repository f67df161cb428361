-- The first entry of faults in their order is the least of them.
use Rattle.std.proofs.Common.{◌≡◌, ℕ, Bool, true, false, ◌&&◌, ◌||◌, List, [], ◌∷◌, Option, Some, None, refl, sym, ap, ◌∙◌, arith, if◌then◌else◌}
use Rattle.std.specs.Prelude.{nat_lt, nat_eq, slice_get}
use Rattle.iter_check.specs.declared.kind.Fault.{Fault}
use Rattle.iter_check.specs.Faults.{rank, before, put, in_order}
use Rattle.iter_check.specs.First.Least.{better, least}

-- the first entry of a list
abbrev pub first_of : List Fault → Option Fault
first_of fs = slice_get fs 0

abbrev less : ℕ → ℕ → ℕ → ℕ → Bool
less p r q s = nat_lt p q || nat_eq p q && nat_lt r s

less_trans : (p r q s u v : ℕ) → less p r q s ≡ true → less q s u v ≡ true → less p r u v ≡ true
less_trans p r q s u v h k = grind arith

less_not : (p r q s u v : ℕ) → less p r q s ≡ false → less q s u v ≡ false → less p r u v ≡ false
less_not p r q s u v h k = grind arith

before_trans : (f g h : Fault) → before f g ≡ true → before g h ≡ true → before f h ≡ true
before_trans f g h a b = less_trans f.place (rank f.kind) g.place (rank g.kind) h.place (rank h.kind) a b

before_not : (f g h : Fault) → before f g ≡ false → before g h ≡ false → before f h ≡ false
before_not f g h a b = less_not f.place (rank f.kind) g.place (rank g.kind) h.place (rank h.kind) a b

-- the first of one fault and the first of later ones
abbrev pick : Fault → Option Fault → Option Fault
pick f None = Some f
pick f (Some g) = if before g f then Some g else Some f

abbrev both : Option Fault → Option Fault → Option Fault
both None m = m
both (Some f) m = pick f m

put_case : (b : Bool) (f g : Fault) (gs hs : List Fault) → first_of (if b then g ∷ gs else f ∷ hs) ≡ (if b then Some g else Some f)
put_case true f g gs hs = refl
put_case false f g gs hs = refl

first_put : (f : Fault) (gs : List Fault) → first_of (put f gs) ≡ pick f (first_of gs)
first_put f [] = refl
first_put f (g ∷ gs) = put_case (before g f) f g (put f gs) (g ∷ gs)

three : (f g h : Fault) (x y z : Bool) → before f g ≡ x → before h f ≡ y → before h g ≡ z → both (if x then Some f else Some g) (Some h) ≡ pick g (if y then Some h else Some f)
three f g h true true z a b c = ap (λ w. if w then Some h else Some f) b ∙ sym (ap (λ w. if w then Some h else Some g) (before_trans h f g b a))
three f g h true false z a b c = ap (λ w. if w then Some h else Some f) b ∙ sym (ap (λ w. if w then Some f else Some g) a)
three f g h false true z a b c = refl
three f g h false false z a b c = ap (λ w. if w then Some h else Some g) (before_not h f g b a) ∙ sym (ap (λ w. if w then Some f else Some g) a)

both_better : (best : Option Fault) (f : Fault) (m : Option Fault) → both (better best f) m ≡ both best (pick f m)
both_better None f m = refl
both_better (Some g) f None = no_more (before f g)
  where
    no_more : (x : Bool) → both (if x then Some f else Some g) None ≡ (if x then Some f else Some g)
    no_more true = refl
    no_more false = refl
both_better (Some g) f (Some h) = three f g h (before f g) (before h f) (before h g) refl refl refl

least_both : (best : Option Fault) (fs : List Fault) → least best fs ≡ both best (least None fs)
least_both None [] = refl
least_both (Some g) [] = refl
least_both best (f ∷ fs) = least_both (better best f) fs ∙ both_better best f (least None fs) ∙ sym (ap (λ m. both best m) (least_both (Some f) fs))

pub first_is_least : (fs : List Fault) → first_of (in_order fs) ≡ least None fs
first_is_least [] = refl
first_is_least (f ∷ fs) = first_put f (in_order fs) ∙ ap (λ m. pick f m) (first_is_least fs) ∙ sym (least_both (Some f) fs)
