-- Names by the place of a name.
use Rattle.std.proofs.Common.{◌≡◌, ℕ, suc, ◌-◌, ◌<◌, ◌≤◌, Bool, true, false, List, [], ◌∷◌, length, get_or, set, drop, map, refl, ap, ◌∙◌, arith, if◌then◌else◌, remove}
use Rattle.std.specs.Prelude.{bytes_eq}
use Rattle.iter_check.specs.State.{look, change}
use Rattle.iter_check.specs.declared.names.Name.{Name}
use Rattle.iter_check.specs.Views.NamesView.{pair_of, place_in}

look_case : (b : Bool) (n : Name) (ns : List Name) (d : Name) (k v : ℕ) → (k < length ns → d ≡ get_or ns k d → d.value ≡ v) → (if b then 0 else suc k) < length (n ∷ ns) → d ≡ get_or (n ∷ ns) (if b then 0 else suc k) d → d.value ≡ (if b then n.value else v)
look_case true n ns d k v ih h e = ap (λ (m : Name). m.value) e
look_case false n ns d k v ih h e = ih (omega arith) e

look_place : (x : List ℕ) (ns : List Name) (d : Name) → place_in x ns < length ns → d ≡ get_or ns (place_in x ns) d → d.value ≡ look x (map pair_of ns)
look_place x [] d h e = absurd (omega arith)
look_place x (n ∷ ns) d h e = look_case (bytes_eq n.text x) n ns d (place_in x ns) (look x (map pair_of ns)) (look_place x ns d) h e

-- the value of a name that stands at a place
pub look_at : (x : List ℕ) (ns : List Name) (i : ℕ) (d : Name) → i ≡ place_in x ns → i < length ns → d ≡ get_or ns i d → d.value ≡ look x (map pair_of ns)
look_at x ns i d e h g = look_place x ns d (omega arith) (g ∙ ap (λ k. get_or ns k d) e)

none_case : (b : Bool) (n : Name) (ns : List Name) (k v : ℕ) → (length ns ≤ k → 0 ≡ v) → length (n ∷ ns) ≤ (if b then 0 else suc k) → 0 ≡ (if b then n.value else v)
none_case true n ns k v ih h = absurd (omega arith)
none_case false n ns k v ih h = ih (omega arith)

none_place : (x : List ℕ) (ns : List Name) → length ns ≤ place_in x ns → 0 ≡ look x (map pair_of ns)
none_place x [] h = refl
none_place x (n ∷ ns) h = none_case (bytes_eq n.text x) n ns (place_in x ns) (look x (map pair_of ns)) (none_place x ns) h

-- a name that is not there
pub look_none : (x : List ℕ) (ns : List Name) (i : ℕ) → i ≡ place_in x ns → length ns ≤ i → 0 ≡ look x (map pair_of ns)
look_none x ns i e h = none_place x ns (omega arith)

change_case : (b : Bool) (n : Name) (ns : List Name) (d : Name) (k v : ℕ) (ps : List (List ℕ × ℕ)) → (k < length ns → d ≡ get_or ns k d → map pair_of (set ns k (record { text = d.text; value = v })) ≡ ps) → (if b then 0 else suc k) < length (n ∷ ns) → d ≡ get_or (n ∷ ns) (if b then 0 else suc k) d → map pair_of (set (n ∷ ns) (if b then 0 else suc k) (record { text = d.text; value = v })) ≡ (if b then (n.text, v) ∷ map pair_of ns else pair_of n ∷ ps)
change_case true n ns d k v ps ih h e = ap (λ (m : Name). (m.text, v) ∷ map pair_of ns) e
change_case false n ns d k v ps ih h e = ap (λ qs. pair_of n ∷ qs) (ih (omega arith) e)

change_place : (x : List ℕ) (ns : List Name) (d : Name) (v : ℕ) → place_in x ns < length ns → d ≡ get_or ns (place_in x ns) d → map pair_of (set ns (place_in x ns) (record { text = d.text; value = v })) ≡ change x v (map pair_of ns)
change_place x [] d v h e = absurd (omega arith)
change_place x (n ∷ ns) d v h e = change_case (bytes_eq n.text x) n ns d (place_in x ns) v (change x v (map pair_of ns)) (change_place x ns d v) h e

-- the names with another value at a place
pub change_at : (x : List ℕ) (ns : List Name) (i : ℕ) (d : Name) (v : ℕ) → i ≡ place_in x ns → i < length ns → d ≡ get_or ns i d → map pair_of (set ns i (record { text = d.text; value = v })) ≡ change x v (map pair_of ns)
change_at x ns i d v e h g =
    ap (λ k. map pair_of (set ns k (record { text = d.text; value = v }))) e ∙ change_place x ns d v (omega arith) (g ∙ ap (λ k. get_or ns k d) e)

same_case : (b : Bool) (n : Name) (ns : List Name) (k v : ℕ) (ps : List (List ℕ × ℕ)) → (length ns ≤ k → map pair_of ns ≡ ps) → length (n ∷ ns) ≤ (if b then 0 else suc k) → map pair_of (n ∷ ns) ≡ (if b then (n.text, v) ∷ map pair_of ns else pair_of n ∷ ps)
same_case true n ns k v ps ih h = absurd (omega arith)
same_case false n ns k v ps ih h = ap (λ qs. pair_of n ∷ qs) (ih (omega arith))

same_place : (x : List ℕ) (ns : List Name) (v : ℕ) → length ns ≤ place_in x ns → map pair_of ns ≡ change x v (map pair_of ns)
same_place x [] v h = refl
same_place x (n ∷ ns) v h = same_case (bytes_eq n.text x) n ns (place_in x ns) v (change x v (map pair_of ns)) (same_place x ns v) h

pub change_none : (x : List ℕ) (ns : List Name) (i v : ℕ) → i ≡ place_in x ns → length ns ≤ i → map pair_of ns ≡ change x v (map pair_of ns)
change_none x ns i v e h = same_place x ns v (omega arith)

-- one name less, while there are more than `n`
pub shed_one : {A B : Type 0} (f : A → B) (xs : List A) (n : ℕ) → n < length xs → drop (length (remove xs 0) - n) (map f (remove xs 0)) ≡ drop (length xs - n) (map f xs)
shed_one f [] n h = absurd (omega arith)
shed_one f (x ∷ xs) n h =
    let e : suc (length xs - n) ≡ suc (length xs) - n = omega arith in
    ap (λ k. drop k (f x ∷ map f xs)) e
