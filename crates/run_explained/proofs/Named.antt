-- The order of a run names only requests that are there: a request that no client has is as it begins, and after an iteration none is.
use Rattle.std.proofs.Common.{◌≡◌, ◌≢◌, ℕ, zero, suc, ◌+◌, ◌-◌, ◌*◌, ◌<◌, ◌≤◌, Bool, true, false, ◌&&◌, inl, inr, List, [], ◌∷◌, length, refl, sym, ap, ◌∙◌, subst, nat_eq, nat_lt, if◌then◌else◌, arith, eqb-true}
use Rattle.std.proofs.lemmas.Bool.{cases_lt}
use Rattle.std.proofs.lemmas.Option.{slice_get_past}
use Rattle.std.specs.Prelude.{IsTrue}
use Rattle.run_laws.specs.Plan.{Begun, Begins, Finished, Faulted, Outcome, Finishes, Goes, Faults, Plan, first_progress, limit, Arrival, Here, Barred, Nowhere, arrive}
use Rattle.run_laws.specs.Flat.{FlatRequest, Ready, Completed, Failed, Flat, begun_flat, flat_next, flat_at, flat_turn, flat_step, flat_run, is_here, can_turn, is_legal}
use Rattle.run_laws.specs.Client.{NotAsked}
use Rattle.run_laws.specs.World.{World}
use Rattle.run_laws.specs.Spines.Spine.{fresh, ready_at, flat_begun, flat_of}
use Rattle.run_laws.specs.Spines.Fits.{AskingFits}
use Rattle.run_laws.specs.Spines.Sound.{Each, IsSound}
use Rattle.run_views.specs.Setting.{Setting, plan_of}
use Rattle.event_run.specs.World.{WorldState}
use Rattle.event_run.specs.Always.{asking_at, world_view, IsRun}
use Rattle.event_run.specs.Laws.{flat_start}
use Rattle.run_explained.specs.Laws.{OrderIsOfRequests}
use Rattle.run_explained.proofs.Steps.{by_bool}

-- after an iteration of its own
abbrev has_moved : FlatRequest → Bool
has_moved (Ready cur pad zero) = false
has_moved (Ready cur pad (suc n)) = true
has_moved (Completed pad n) = true
has_moved (Failed kind cur n) = true

next_moved : (cur n : ℕ) (o : Outcome) → has_moved (flat_next cur n o) ≡ true
next_moved cur n (Finishes bytes pad) = refl
next_moved cur n (Goes to bytes pad) = let e : n + 1 ≡ suc n = omega arith in ap (λ k. has_moved (Ready to pad k)) e
next_moved cur n (Faults kind) = refl

clash : {A : Type 0} → false ≡ true → A
clash e = absurd (cc)

-- ---- one step

-- another request stays as it is
other_at : (P : Plan) (v : Flat) (q r cur : ℕ) (pad : List ℕ) (n : ℕ) (b : Bool) (a : Arrival) → nat_eq r q ≡ false → (if b then flat_at P v q cur pad n a else v).requests r ≡ v.requests r
other_at P v q r cur pad n false a e = refl
other_at P v q r cur pad n true Barred e = refl
other_at P v q r cur pad n true Nowhere e = refl
other_at P v q r cur pad n true (Here i) e = ap (λ b. if b then flat_next cur n (P.iterate q i (v.regions i) cur pad) else v.requests r) e

other_stays : (P : Plan) (v : Flat) (q r : ℕ) (s : FlatRequest) → nat_eq r q ≡ false → (flat_turn P v q s).requests r ≡ v.requests r
other_stays P v q r (Ready cur pad n) e = other_at P v q r cur pad n (nat_lt n (limit P)) (arrive P q cur) e
other_stays P v q r (Completed pad n) e = refl
other_stays P v q r (Failed kind cur n) e = refl

-- one that has moved stays so
moved_at : (P : Plan) (v : Flat) (q r cur : ℕ) (pad : List ℕ) (n : ℕ) (b : Bool) (a : Arrival) → has_moved (v.requests r) ≡ true → has_moved ((if b then flat_at P v q cur pad n a else v).requests r) ≡ true
moved_at P v q r cur pad n false a h = h
moved_at P v q r cur pad n true Barred h = h
moved_at P v q r cur pad n true Nowhere h = h
moved_at P v q r cur pad n true (Here i) h =
    let o = P.iterate q i (v.regions i) cur pad in
    by_bool (nat_eq r q)
    (λ t. ap (λ b. has_moved (if b then flat_next cur n o else v.requests r)) t ∙ next_moved cur n o)
    (λ t. ap (λ b. has_moved (if b then flat_next cur n o else v.requests r)) t ∙ h)

moved_stays : (P : Plan) (v : Flat) (q r : ℕ) (s : FlatRequest) → has_moved (v.requests r) ≡ true → has_moved ((flat_turn P v q s).requests r) ≡ true
moved_stays P v q r (Ready cur pad n) h = moved_at P v q r cur pad n (nat_lt n (limit P)) (arrive P q cur) h
moved_stays P v q r (Completed pad n) h = h
moved_stays P v q r (Failed kind cur n) h = h

-- the one that iterates has moved
own_at : (P : Plan) (v : Flat) (q cur : ℕ) (pad : List ℕ) (n : ℕ) (b : Bool) (a : Arrival) → (b && is_here a) ≡ true → has_moved ((if b then flat_at P v q cur pad n a else v).requests q) ≡ true
own_at P v q cur pad n false a h = clash h
own_at P v q cur pad n true Barred h = clash h
own_at P v q cur pad n true Nowhere h = clash h
own_at P v q cur pad n true (Here i) h =
    let o = P.iterate q i (v.regions i) cur pad in
    let e : nat_eq q q ≡ true = grind arith in
    ap (λ b. has_moved (if b then flat_next cur n o else v.requests q)) e ∙ next_moved cur n o

own_moves : (P : Plan) (v : Flat) (q : ℕ) (s : FlatRequest) → can_turn P q s ≡ true → has_moved ((flat_turn P v q s).requests q) ≡ true
own_moves P v q (Ready cur pad n) h = own_at P v q cur pad n (nat_lt n (limit P)) (arrive P q cur) h
own_moves P v q (Completed pad n) h = clash h
own_moves P v q (Failed kind cur n) h = clash h

-- ---- an order

and_true : (a b : Bool) → IsTrue (a && b) → (a ≡ true) × IsTrue b
and_true a b x = (grind arith, grind arith)

run_moved : (P : Plan) (v : Flat) (order : List ℕ) (r : ℕ) → has_moved (v.requests r) ≡ true → has_moved ((flat_run P v order).requests r) ≡ true
run_moved P v [] r h = h
run_moved P v (q ∷ order) r h = run_moved P (flat_step P v q) order r (moved_stays P v q r (v.requests q) h)

-- one that has not moved is not named
unmoved_unnamed : (P : Plan) (v : Flat) (order : List ℕ) (r : ℕ) → IsTrue (is_legal P v order) → has_moved ((flat_run P v order).requests r) ≡ false → Each (λ q. q ≢ r) order
unmoved_unnamed P v [] r legal h = tt
unmoved_unnamed P v (q ∷ order) r legal h =
    let x = and_true (can_turn P q (v.requests q)) (is_legal P (flat_step P v q) order) legal in
    let moved = run_moved P (flat_step P v q) order q (own_moves P v q (v.requests q) x.0) in (
      (λ same. clash (sym h ∙ ap (λ z. has_moved ((flat_run P (flat_step P v q) order).requests z)) (sym same) ∙ moved)),
      unmoved_unnamed P (flat_step P v q) order r x.1 h,
    )

-- nor is one that was at its end before
abbrev has_ended : FlatRequest → Bool
has_ended (Ready cur pad n) = false
has_ended (Completed pad n) = true
has_ended (Failed kind cur n) = true

ended_waits : (P : Plan) (q : ℕ) (s : FlatRequest) → has_ended s ≡ true → can_turn P q s ≡ true → ⊥
ended_waits P q (Ready cur pad n) e h = clash e
ended_waits P q (Completed pad n) e h = clash h
ended_waits P q (Failed kind cur n) e h = clash h

ended_unnamed : (P : Plan) (v : Flat) (order : List ℕ) (r : ℕ) → IsTrue (is_legal P v order) → has_ended (v.requests r) ≡ true → Each (λ q. q ≢ r) order
ended_unnamed P v [] r legal h = tt
ended_unnamed P v (q ∷ order) r legal h =
    let x = and_true (can_turn P q (v.requests q)) (is_legal P (flat_step P v q) order) legal in
    let differs : q ≢ r = (λ same. ended_waits P q (v.requests q) (ap (λ z. has_ended (v.requests z)) same ∙ h) x.0) in
    by_bool (nat_eq r q)
    (λ t. absurd (differs (sym (eqb-true r q t))))
    (λ t. (differs, ended_unnamed P (flat_step P v q) order r x.1 (ap has_ended (other_stays P v q r (v.requests q) t) ∙ h)))

-- ---- a run

fresh_unnamed : (P : Plan) (start : Flat) (order : List ℕ) (r : ℕ) (b : Begun) → P.first r ≡ b → IsTrue (is_legal P start order)
    → start.requests r ≡ begun_flat (P.first r) → (flat_run P start order).requests r ≡ flat_of P r fresh → Each (λ q. q ≢ r) order
fresh_unnamed P start order r (Begins cur pad) e legal first last =
    let none : 0 * P.budget + (P.budget - P.budget) ≡ 0 = omega arith in
    unmoved_unnamed P start order r legal
    (ap has_moved last ∙ ap (λ z. has_moved (flat_begun z (ready_at P [] (first_progress P.budget z)))) e ∙ ap (λ n. has_moved (Ready cur pad n)) none)
fresh_unnamed P start order r (Finished pad) e legal first last = ended_unnamed P start order r legal (ap has_ended first ∙ ap (λ z. has_ended (begun_flat z)) e)
fresh_unnamed P start order r Faulted e legal first last = ended_unnamed P start order r legal (ap has_ended first ∙ ap (λ z. has_ended (begun_flat z)) e)

unasked_unnamed : (P : Plan) (start : Flat) (w : World) (r : ℕ) → IsSound P start w → start.requests r ≡ begun_flat (P.first r) → w.asking r ≡ NotAsked → Each (λ q. q ≢ r) w.order
unasked_unnamed P start w r sound first e =
    let fits = sound.fits r in
    let spine : sound.spines r ≡ fresh = subst (AskingFits P r (sound.spines r)) e fits.asking in
    fresh_unnamed P start w.order r (P.first r) refl sound.legal first (fits.flat ∙ ap (flat_of P r) spine)

below : (order : List ℕ) (n : ℕ) → ((r : ℕ) → n ≤ r → Each (λ q. q ≢ r) order) → Each (λ q. q < n) order
below [] n h = tt
below (q ∷ order) n h = (elim (cases_lt q n) [ inl low ↦ low | inr past ↦ absurd ((h q past).0 refl) ], below order n (λ r past. (h r past).1))

pub names_requests : (u : Setting) (start : Flat) (w : WorldState) → ((r : ℕ) → start.requests r ≡ begun_flat ((plan_of u).first r)) → IsRun u start w → Each (λ r. r < length w.asking) w.order
names_requests u start w first run =
    below w.order (length w.asking)
    (λ r past. unasked_unnamed (plan_of u) start (world_view u w) r run.sound (first r) (ap asking_at (slice_get_past w.asking r past)))

pub order_is_of_requests : OrderIsOfRequests
order_is_of_requests u first w run = names_requests u (flat_start u first) w (λ r. refl) run
