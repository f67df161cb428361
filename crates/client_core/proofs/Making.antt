-- A new client: an entry for each plan.
use Rattle.std.proofs.Common.{◌≡◌, ℕ, suc, false, cond, nat_eq, List, [], ◌∷◌, ◌++◌, map, Some, None, All, refl, ap, ◌∙◌, arith}
use Rattle.std.specs.List.{AllByRecursion, IsDistinct}
use Rattle.std.specs.Map.{values_of, lookup}
use Rattle.code_image.specs.declared.image.Image.{Image}
use Rattle.run_rules.specs.declared.client.Terms.{Terms}
use Rattle.run_rules.specs.declared.client.Asking.TheVariants.{NotAsked}
use Rattle.pulse_base.specs.declared.plan.RequestPlan.{RequestPlan}
use Rattle.client_core.specs.declared.request.Request.{Request}
use Rattle.client_core.specs.Requests.{numbers, IsPlan}
use Rattle.client_core.specs.inner.Standing.{EntryFits}
use Rattle.client_core.specs.inner.View.{new_entry}

pub entries_fit : (t : Terms) (im : List Image) (ps : List RequestPlan) → All (IsPlan t.client im) ps → AllByRecursion (EntryFits t im) (map new_entry ps)
entries_fit t im [] h = tt
entries_fit t im (p ∷ ps) h = (record { number = refl; plan = h 0 p (omega arith); asking = tt }, entries_fit t im ps (λ k d lt. h (suc k) d (omega (arith, lt))))

pub new_values : (ps : List RequestPlan) → values_of (map new_entry ps) ≡ map (λ p. record { plan = p; asking = NotAsked }) ps
new_values [] = refl
new_values (p ∷ ps) = ap (λ (l : List Request). record { plan = p; asking = NotAsked } ∷ l) (new_values ps)

apart : (x : ℕ) (p : RequestPlan) (xs ys : List RequestPlan) → AllByRecursion (λ y. nat_eq x y ≡ false) (numbers (xs ++ p ∷ ys)) → nat_eq x p.number ≡ false
apart x p [] ys h = h.0
apart x p (q ∷ xs) ys h = apart x p xs ys h.1

-- a plan behind others has a number that none of them has
pub new_number : (p : RequestPlan) (xs ys : List RequestPlan) → IsDistinct nat_eq (numbers (xs ++ p ∷ ys)) → lookup (nat_eq p.number) (map new_entry xs) ≡ None
unfolding IsDistinct
new_number p [] ys d = refl
new_number p (x ∷ xs) ys d =
    let away = apart x.number p xs ys d.0 in
    let other : nat_eq p.number x.number ≡ false = grind (arith, away) in
    ap (λ b. cond b (Some (new_entry x).1) (lookup (nat_eq p.number) (map new_entry xs))) other ∙ new_number p xs ys d.1

pub entries_push : (xs : List RequestPlan) (p : RequestPlan) → map new_entry (xs ++ p ∷ []) ≡ map new_entry xs ++ new_entry p ∷ []
entries_push [] p = refl
entries_push (x ∷ xs) p = ap (λ l. new_entry x ∷ l) (entries_push xs p)

pub shift : (xs : List RequestPlan) (p : RequestPlan) (us : List RequestPlan) → (xs ++ p ∷ []) ++ us ≡ xs ++ p ∷ us
shift [] p us = refl
shift (x ∷ xs) p us = ap (λ l. x ∷ l) (shift xs p us)
