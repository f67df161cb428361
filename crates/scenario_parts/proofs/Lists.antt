-- Lists that a loop makes of the items of another, one by one.
use Rattle.std.proofs.Common.{◌≡◌, ℕ, zero, suc, ◌+◌, ◌<◌, ◌≤◌, true, false, List, [], ◌∷◌, ◌++◌, length, get_or, take, map, Option, None, Some, Result, Err, refl, sym, ap, ◌∙◌, subst, arith}
use Rattle.std.specs.Prelude.{slice_get, option_map, All, AllPairs, IsOk}
use Rattle.std.proofs.lemmas.List.{take_more, take_all, map-append}
use Rattle.std.proofs.lemmas.Option.{get_or_from_slice_get, slice_get_within}
use Rattle.std.proofs.lemmas.List.Elements.{All-map, All-append, All-cons, All-nil}
use Rattle.range_table.specs.declared.region.RegionSpan.{RegionSpan}
use Rattle.range_table.specs.Table.{IsTable}
use Rattle.scenario_text.specs.declared.plan.PlanRegion.{PlanRegion}
use Rattle.switch_core.specs.Owners.{IsNode, IsRecordSize}

pub found : {A B : Type 0} (f : A → B) (o : Option A) (v : B) → option_map f o ≡ Some v → (x : A) × (o ≡ Some x) × (f x ≡ v)
found f None v e = absurd (cc)
found f (Some x) v e = (x, refl, cc)

-- the first item and the others

pub all_head : {A : Type 0} (P : A → Type 0) (x : A) (xs : List A) → All P (x ∷ xs) → P x
all_head P x xs h = h zero x (omega arith)

pub all_tail : {A : Type 0} (P : A → Type 0) (x : A) (xs : List A) → All P (x ∷ xs) → All P xs
all_tail P x xs h = λ k d low. h (suc k) d (omega (arith, low))

pub pairs_head : {A : Type 0} (R : A → A → Type 0) (x : A) (xs : List A) → AllPairs R (x ∷ xs) → All (R x) xs
pairs_head R x xs h = λ k d low. h zero (suc k) d (omega arith) (omega (arith, low))

pub pairs_tail : {A : Type 0} (R : A → A → Type 0) (x : A) (xs : List A) → AllPairs R (x ∷ xs) → AllPairs R xs
pairs_tail R x xs h = λ i j d a b. h (suc i) (suc j) d (omega (arith, a)) (omega (arith, b))

pub pairs_nil : {A : Type 0} (R : A → A → Type 0) → AllPairs R []
pairs_nil R = λ i j d a b. absurd (omega (arith, b))

-- one more item, and what is made of it
pub one_more : {A B : Type 0} (f : A → B) (xs : List A) (ys more : List B) (i : ℕ) (v : B)
    → option_map f (slice_get xs i) ≡ Some v → ys ≡ map f (take i xs) → more ≡ ys ++ v ∷ [] → more ≡ map f (take (i + 1) xs)
one_more f xs ys more i v e s m =
    let w = found f (slice_get xs i) v e in
    let low = slice_get_within xs i w.0 w.1 in
    let at = get_or_from_slice_get xs i w.0 w.0 w.1 in
    m ∙ ap (λ k. k ++ v ∷ []) s ∙ ap (λ k. map f (take i xs) ++ k ∷ []) (sym w.2) ∙ ap (λ k. map f (take i xs) ++ f k ∷ []) (sym at)
    ∙ sym (map-append f (take i xs) (get_or xs i w.0 ∷ [])) ∙ ap (map f) (sym (take_more xs i w.0 low))

pub one_size : (sizes more : List ℕ) (v : ℕ) → All IsRecordSize sizes → IsRecordSize v → more ≡ sizes ++ v ∷ [] → All IsRecordSize more
one_size sizes more v all h e = subst (All IsRecordSize) (sym e) (All-append IsRecordSize sizes (v ∷ []) all (All-cons IsRecordSize v [] h (All-nil IsRecordSize)))

pub nodes_are : (regions : List PlanRegion) (owners : List ℕ) → owners ≡ map (λ r. r.node) regions → All (λ (r : PlanRegion). r.node < 64) regions → All IsNode owners
nodes_are regions owners e h = subst (All IsNode) (sym e) (All-map IsNode (λ r. r.node) regions h)

pub low_nodes : (nodes : ℕ) (regions : List PlanRegion) → nodes ≤ 64 → All (λ (r : PlanRegion). r.node < nodes) regions → All (λ (r : PlanRegion). r.node < 64) regions
low_nodes nodes regions few h = λ k d low. let one = h k d low in omega (arith, few, one)

no_error : false ≡ true → ⊥
no_error e = absurd (cc)

-- the whole list makes a table, so it is not refused
pub made : {A B : Type 0} (r : Result A B) (b : B) (spans : List RegionSpan) (regions : List PlanRegion) (i : ℕ)
    → length regions ≤ i → IsTable (map (λ q. q.span) regions) → spans ≡ map (λ q. q.span) (take i regions) → (IsTable spans → IsOk r) → r ≡ Err b → ⊥
made r b spans regions i long t e ok is =
    no_error (subst IsOk is (ok (subst IsTable (ap (map (λ q. q.span)) (sym (take_all i regions long)) ∙ sym e) t)))

-- two lists that give the same place by place
pub same_map : {A B C : Type 0} (f : A → C) (g : B → C) (xs : List A) (ys : List B) → length xs ≡ length ys
    → ((i : ℕ) (x : A) (y : B) → slice_get xs i ≡ Some x → slice_get ys i ≡ Some y → f x ≡ g y) → map f xs ≡ map g ys
same_map f g [] [] e each = refl
same_map f g [] (y ∷ ys) e each = absurd (omega (arith, e))
same_map f g (x ∷ xs) [] e each = absurd (omega (arith, e))
same_map f g (x ∷ xs) (y ∷ ys) e each =
    ap (λ k. k ∷ map f xs) (each zero x y refl refl) ∙ ap (λ k. g y ∷ k) (same_map f g xs ys (omega (arith, e)) (λ i a b p q. each (suc i) a b p q))
