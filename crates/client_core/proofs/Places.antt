-- Where a request stands among the entries of a client's map.
use Rattle.std.proofs.Common.{◌≡◌, ℕ, zero, suc, ◌<◌, Bool, true, false, cond, nat_eq, List, [], ◌∷◌, Option, Some, None, IsSome, IfSome, is_some, get_or, slice_get, slice_set, position, refl, sym, ap, subst, ◌∙◌, arith}
use Rattle.std.specs.List.{AllByRecursion}
use Rattle.std.specs.Map.{keys_of, values_of, lookup}
use Rattle.std.proofs.lemmas.List.Quantifiers.{position-Some}
use Rattle.indexmap.specs.IndexMap.{set_value_at}
use Rattle.code_image.specs.declared.image.Image.{Image}
use Rattle.run_rules.specs.declared.client.Terms.{Terms}
use Rattle.run_rules.specs.declared.client.Asking.{Asking}
use Rattle.pulse_base.specs.declared.plan.RequestPlan.{RequestPlan}
use Rattle.client_core.specs.declared.request.Request.{Request}
use Rattle.client_core.specs.Requests.{find, put, IsPlan}
use Rattle.client_core.specs.inner.Standing.{AskingFits, EntryFits}
use Rattle.client_core.specs.inner.View.{StandsAt, IsPlaceOf}

none_of : (o : Option Request) → is_some o ≡ false → o ≡ None
none_of None e = refl
none_of (Some q) e = absurd (cc)

find_is : (t : Terms) (im : List Image) (r : ℕ) (es : List (ℕ × Request)) → AllByRecursion (EntryFits t im) es → find (values_of es) r ≡ lookup (nat_eq r) es
find_is t im r [] h = refl
find_is t im r (e ∷ es) h = ap (λ n. cond (nat_eq r n) (Some e.1) (find (values_of es) r)) (sym h.0.number) ∙ ap (cond (nat_eq r e.0) (Some e.1)) (find_is t im r es h.1)

put_at : (t : Terms) (im : List Image) (r : ℕ) (es : List (ℕ × Request)) (i : ℕ) (q : Request) (a : Asking) → AllByRecursion (EntryFits t im) es
    → nat_eq r (get_or (keys_of es) i 0) ≡ true → ((k : ℕ) → k < i → nat_eq r (get_or (keys_of es) k 0) ≡ false) → slice_get (values_of es) i ≡ Some q
    → put (values_of es) r a ≡ slice_set (values_of es) i (record q { asking = a })
put_at t im r [] i q a h at before s = absurd (cc)
put_at t im r (e ∷ es) zero q a h at before s =
    let same : e.1 ≡ q = cc in
    let here : nat_eq r e.1.plan.number ≡ true = ap (nat_eq r) (sym h.0.number) ∙ at in
    ap (λ b. cond b (record e.1 { asking = a } ∷ values_of es) (e.1 ∷ put (values_of es) r a)) here ∙ ap (λ (x : Request). record x { asking = a } ∷ values_of es) same
put_at t im r (e ∷ es) (suc i) q a h at before s =
    let here : nat_eq r e.1.plan.number ≡ false = ap (nat_eq r) (sym h.0.number) ∙ before 0 (omega arith) in
    ap (λ b. cond b (record e.1 { asking = a } ∷ values_of es) (e.1 ∷ put (values_of es) r a)) here
    ∙ ap (λ l. e.1 ∷ l) (put_at t im r es i q a h.1 at (λ k lt. before (suc k) (omega (arith, lt))) s)

-- what a look-up in the map says is the place of the request
pub place_is : (t : Terms) (im : List Image) (r : ℕ) (es : List (ℕ × Request)) (o : Option ℕ) → AllByRecursion (EntryFits t im) es
    → o ≡ position (nat_eq r) (keys_of es) → is_some o ≡ is_some (lookup (nat_eq r) es) → IfSome o (λ i. slice_get (values_of es) i ≡ lookup (nat_eq r) es) → IsPlaceOf (values_of es) r o
place_is t im r es None h p s v = find_is t im r es h ∙ none_of (lookup (nat_eq r) es) (sym s)
place_is t im r es (Some i) h p s v = by (lookup (nat_eq r) es) refl
  where
    by : (x : Option Request) → lookup (nat_eq r) es ≡ x → StandsAt (values_of es) r i
    by None e = absurd (cc)
    by (Some q) e =
        let first = position-Some (nat_eq r) (keys_of es) i 0 (sym p) in
        record { request = q; at = v ∙ e; found = find_is t im r es h ∙ e; puts = λ a. put_at t im r es i q a h first.1 first.2 (v ∙ e) }

pub fits_at : (t : Terms) (im : List Image) (es : List (ℕ × Request)) (i : ℕ) (q : Request) → AllByRecursion (EntryFits t im) es → slice_get (values_of es) i ≡ Some q → IsPlan t.client im q.plan × AskingFits t q.asking
fits_at t im [] i q h s = absurd (cc)
fits_at t im (e ∷ es) zero q h s =
    let same : e.1 ≡ q = cc in
    (subst (λ (x : Request). IsPlan t.client im x.plan) same h.0.plan, subst (λ (x : Request). AskingFits t x.asking) same h.0.asking)
fits_at t im (e ∷ es) (suc i) q h s = fits_at t im es i q h.1 s

pub fits_set : (t : Terms) (im : List Image) (es : List (ℕ × Request)) (i : ℕ) (q w : Request) → AllByRecursion (EntryFits t im) es → slice_get (values_of es) i ≡ Some q
    → w.plan ≡ q.plan → AskingFits t w.asking → AllByRecursion (EntryFits t im) (set_value_at es i w)
fits_set t im [] i q w h s p f = absurd (cc)
fits_set t im (e ∷ es) zero q w h s p f =
    let same : e.1 ≡ q = cc in
    let plan : e.1.plan ≡ w.plan = ap (λ (x : Request). x.plan) same ∙ sym p in
    (record { number = h.0.number ∙ ap (λ (x : RequestPlan). x.number) plan; plan = subst (IsPlan t.client im) plan h.0.plan; asking = f }, h.1)
fits_set t im (e ∷ es) (suc i) q w h s p f = (h.0, fits_set t im es i q w h.1 s p f)

pub values_set : (es : List (ℕ × Request)) (i : ℕ) (w : Request) → values_of (set_value_at es i w) ≡ slice_set (values_of es) i w
values_set [] i w = refl
values_set (e ∷ es) zero w = refl
values_set (e ∷ es) (suc i) w = ap (λ l. e.1 ∷ l) (values_set es i w)

either : (b : Bool) (x : Request) (o : Option Request) → IsSome o → IsSome (cond b (Some x) o)
either true x o s = refl
either false x o s = s

pub number_has : (qs : List Request) (i : ℕ) (q : Request) → slice_get qs i ≡ Some q → IsSome (find qs q.plan.number)
number_has [] i q s = absurd (cc)
number_has (x ∷ qs) zero q s =
    let same : x ≡ q = cc in
    let number : x.plan.number ≡ q.plan.number = ap (λ (y : Request). y.plan.number) same in
    let here : nat_eq q.plan.number x.plan.number ≡ true = grind (arith, number) in
    subst (λ b. IsSome (cond b (Some x) (find qs q.plan.number))) (sym here) refl
number_has (x ∷ qs) (suc i) q s = either (nat_eq q.plan.number x.plan.number) x (find qs q.plan.number) (number_has qs i q s)
