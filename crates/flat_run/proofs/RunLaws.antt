-- The laws of steps and runs.
use Rattle.std.proofs.Common.{◌≡◌, ◌≢◌, ℕ, zero, suc, ◌+◌, ◌<◌, Bool, ◌&&◌, false, List, [], ◌∷◌, ◌++◌, length, take, drop, get_or, Option, Some, None, is_some, set, refl, sym, ap, ◌∙◌, arith, drop-cons, add-one}
use Rattle.std.proofs.Math.Bool.{and_assoc}
use Rattle.std.proofs.lemmas.Bool.{and_parts, and_from}
use Rattle.std.specs.Prelude.{slice_get}
use Rattle.iter_check.specs.Iteration.{Iterated, Done, Goes, Fault}
use Rattle.flat_run.specs.declared.state.FlatRegion.{FlatRegion}
use Rattle.flat_run.specs.declared.state.FlatState.{FlatState}
use Rattle.flat_run.specs.Region.{with_bytes}
use Rattle.flat_run.specs.Walk.{Walk}
use Rattle.flat_run.specs.Run.{flat_run, is_legal}
use Rattle.flat_run.specs.Step.{Next, can_step, next_of, iterates, settled, settled_next, flat_step}
use Rattle.flat_run.specs.Laws.{RunLaw, LegalLaw, OthersLaw, RegionsLaw, FaultLaw, StuckLaw}

pub run_appends : RunLaw
run_appends walks limit s [] second = refl
run_appends walks limit s (r ∷ first) second = run_appends walks limit (flat_step walks limit s r) first second

legal_appends : (walks : List Walk) (limit : ℕ) (s : FlatState) (first second : List ℕ) → is_legal walks limit s (first ++ second) ≡ (is_legal walks limit s first && is_legal walks limit (flat_run walks limit s first) second)
legal_appends walks limit s [] second = refl
legal_appends walks limit s (r ∷ first) second =
    let after = flat_step walks limit s r in
    ap (λ b. can_step walks limit s r && b) (legal_appends walks limit after first second)
    ∙ sym (and_assoc (can_step walks limit s r) (is_legal walks limit after first) (is_legal walks limit (flat_run walks limit after first) second))

pub both_legal : LegalLaw
both_legal walks limit s first second =
    let e = legal_appends walks limit s first second in
    (λ h. and_parts _ _ (sym e ∙ h), λ p. e ∙ and_from _ _ p.0 p.1)

get_other : {A : Type 0} (xs : List A) (i j : ℕ) (x : A) → j ≢ i → slice_get (set xs i x) j ≡ slice_get xs j
get_other [] i j x h = refl
get_other (y ∷ xs) zero zero x h = absurd (h refl)
get_other (y ∷ xs) zero (suc j) x h = refl
get_other (y ∷ xs) (suc i) zero x h = refl
get_other (y ∷ xs) (suc i) (suc j) x h = get_other xs i j x (λ e. h (ap suc e))

settled_others : (s : FlatState) (r q : ℕ) (t : Next) (x : Iterated) → q ≢ r → slice_get (settled s r t x).requests q ≡ slice_get s.requests q
settled_others s r q t (Done bytes pad) h = get_other s.requests r q _ h
settled_others s r q t (Goes to bytes pad) h = get_other s.requests r q _ h
settled_others s r q t (Fault k) h = get_other s.requests r q _ h

next_others : (s : FlatState) (r q : ℕ) (t : Option Next) → q ≢ r → slice_get (settled_next s r t).requests q ≡ slice_get s.requests q
next_others s r q None h = refl
next_others s r q (Some t) h = settled_others s r q t (iterates s t) h

pub others_stay : OthersLaw
others_stay walks limit s r q h = next_others s r q (next_of walks limit s r) h

with_others : (rs : List FlatRegion) (i p : ℕ) (new : List ℕ) (o : Option FlatRegion) (j : ℕ) → j ≢ i → slice_get (with_bytes rs i p new o) j ≡ slice_get rs j
with_others rs i p new None j h = refl
with_others rs i p new (Some r) j h = get_other rs i j _ h

settled_regions : (s : FlatState) (r : ℕ) (t : Next) (x : Iterated) (i : ℕ) → i ≢ t.region → slice_get (settled s r t x).regions i ≡ slice_get s.regions i
settled_regions s r t (Done bytes pad) i h = with_others s.regions t.region t.cur bytes (slice_get s.regions t.region) i h
settled_regions s r t (Goes to bytes pad) i h = with_others s.regions t.region t.cur bytes (slice_get s.regions t.region) i h
settled_regions s r t (Fault k) i h = refl

pub regions_stay : RegionsLaw
regions_stay walks limit s r t i e h =
    ap (λ o. slice_get (settled_next s r o).regions i) e ∙ settled_regions s r t (iterates s t) i h

pub fault_leaves : FaultLaw
fault_leaves walks limit s r t k e f = ap (λ o. (settled_next s r o).regions) e ∙ ap (λ x. (settled s r t x).regions) f

stuck_case : (s : FlatState) (r : ℕ) (t : Option Next) → is_some t ≡ false → settled_next s r t ≡ s
stuck_case s r None h = refl
stuck_case s r (Some t) h = cc

pub stuck_stays : StuckLaw
stuck_stays walks limit s r h = stuck_case s r (next_of walks limit s r) h

-- one step more of an order
pub run_reaches : (walks : List Walk) (limit : ℕ) (before : FlatState) (order : List ℕ) (at : ℕ) → at < length order → flat_run walks limit before (take (suc at) order) ≡ flat_step walks limit (flat_run walks limit before (take at order)) (get_or order at 0)
run_reaches walks limit before [] at h = absurd (omega (arith, h))
run_reaches walks limit before (r ∷ order) zero h = refl
run_reaches walks limit before (r ∷ order) (suc at) h = run_reaches walks limit (flat_step walks limit before r) order at (omega (arith, h))

-- the rest of an order, its first step and then the others
first_left : (order : List ℕ) (at : ℕ) → at < length order → drop at order ≡ get_or order at 0 ∷ drop (at + 1) order
first_left order at h = drop-cons order at 0 h ∙ ap (λ n. get_or order at 0 ∷ drop n order) (sym (add-one at))

pub run_left : (walks : List Walk) (limit : ℕ) (now : FlatState) (order : List ℕ) (at : ℕ) → at < length order → flat_run walks limit now (drop at order) ≡ flat_run walks limit (flat_step walks limit now (get_or order at 0)) (drop (at + 1) order)
run_left walks limit now order at h = ap (flat_run walks limit now) (first_left order at h)

pub legal_left : (walks : List Walk) (limit : ℕ) (now : FlatState) (order : List ℕ) (at : ℕ) (legal : Bool) → at < length order → (legal && is_legal walks limit now (drop at order)) ≡ ((legal && can_step walks limit now (get_or order at 0)) && is_legal walks limit (flat_step walks limit now (get_or order at 0)) (drop (at + 1) order))
legal_left walks limit now order at legal h =
    ap (λ l. legal && is_legal walks limit now l) (first_left order at h)
    ∙ sym (and_assoc legal (can_step walks limit now (get_or order at 0)) (is_legal walks limit (flat_step walks limit now (get_or order at 0)) (drop (at + 1) order)))
