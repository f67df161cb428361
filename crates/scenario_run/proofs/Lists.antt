-- Items of lists by their places.
use Rattle.std.proofs.Common.{◌≡◌, ℕ, zero, suc, List, [], ◌∷◌, map, get_or, replicate, Some, refl, sym, ap, subst}
use Rattle.std.specs.Prelude.{All, slice_get, slice_index_or}
use Rattle.std.proofs.lemmas.Option.{slice_get_within, get_or_from_slice_get, slice_get-get_or}

-- what holds of all items holds of the one at a place
pub all_at : {A : Type 0} (P : A → Type 0) (xs : List A) (k : ℕ) (x : A) → All P xs → slice_get xs k ≡ Some x → P x
all_at {A} P xs k x all e = subst P (get_or_from_slice_get xs k x x e) (all k x (slice_get_within xs k x e))

pub all_from : {A : Type 0} (P : A → Type 0) (xs : List A) → ((k : ℕ) (x : A) → slice_get xs k ≡ Some x → P x) → All P xs
all_from {A} P xs f = λ k d low. f k (get_or xs k d) (slice_get-get_or xs k d low)

-- an item of a mapped list, with what stands past its end
pub index_map : {A B : Type 0} (f : A → B) (xs : List A) (k : ℕ) (x : A) (d : B) → slice_get xs k ≡ Some x → slice_index_or (map f xs) k d ≡ f x
index_map {A} {B} f [] k x d e = absurd (cc)
index_map {A} {B} f (y ∷ xs) zero x d e = let same : y ≡ x = cc in ap f same
index_map {A} {B} f (y ∷ xs) (suc k) x d e = index_map f xs k x d e

-- an item of a mapped list, or what stands past its end, has what each item has
pub index_has : {A B : Type 0} (P : B → Type 0) (f : A → B) (xs : List A) (k : ℕ) (d : B) → P d → ((k : ℕ) (x : A) → slice_get xs k ≡ Some x → P (f x)) → P (slice_index_or (map f xs) k d)
index_has {A} {B} P f [] k d h each = h
index_has {A} {B} P f (y ∷ xs) zero d h each = each zero y refl
index_has {A} {B} P f (y ∷ xs) (suc k) d h each = index_has P f xs k d h (λ j x e. each (suc j) x e)

pub same_all : {A : Type 0} (n : ℕ) (a : A) (k : ℕ) (x : A) → slice_get (replicate n a) k ≡ Some x → x ≡ a
same_all {A} zero a k x e = absurd (cc)
same_all {A} (suc n) a zero x e = let same : a ≡ x = cc in sym same
same_all {A} (suc n) a (suc k) x e = same_all n a k x e
