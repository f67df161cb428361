-- A client's request that is asked, has a tick or hears a back, as the event of a run.
use Rattle.std.proofs.Common.{◌≡◌, ℕ, zero, suc, ◌+◌, ◌<◌, ◌≤◌, false, nat_eq, List, [], ◌∷◌, ◌++◌, length, Option, Some, None, IsSome, refl, sym, ap, ◌∙◌, map, subst, arith, if◌then◌else◌, eqb-true}
use Rattle.std.specs.Prelude.{slice_get, slice_set, option_map}
use Rattle.std.proofs.lemmas.List.{append-nil}
use Rattle.pulse_base.specs.declared.event.Trace.{Trace}
use Rattle.pulse_base.specs.declared.answer.Answer.{Answer}
use Rattle.frame_codec.specs.declared.frame.Leg.{Leg}
use Rattle.frame_codec.specs.declared.frame.Back.{Back}
use Rattle.run_rules.specs.declared.client.Asking.{Asking}
use Rattle.run_rules.specs.declared.client.Heard.{Heard}
use Rattle.run_rules.specs.Client.{answer_of, hear}
use Rattle.run_rules.proofs.Finds.{by_bool}
use Rattle.client_core.specs.declared.request.Request.{Request}
use Rattle.client_core.specs.Calls.{Hears as Stood}
use Rattle.client_core.specs.Requests.{ClientState, find, put, with_asking}
use Rattle.run_views.specs.Clients.{heard_leg}
use Rattle.event_run.specs.Letters.{sent_leg}
use Rattle.event_run.specs.World.{WorldState, with_asking as world_with, told_heard}
use Rattle.world_core.specs.declared.letter.Letter.{Letter}
use Rattle.world_core.specs.Letters.{letter_view}
use Rattle.world_core.specs.Scene.{Scene, Stays, lasting_of, asking_in, requests_in, request_at, askings, world_of}
use Rattle.world_core.specs.inner.Clients.{DoesAt, HearsAt}
use Rattle.world_core.specs.inner.Events.{Does, Hears, HearsBy}
use Rattle.world_core.specs.inner.Fits.{IsScene}
use Rattle.world_core.specs.inner.Sends.{own, IsTold}
use Rattle.world_core.proofs.Scenes.{map_set_same, letters_so, next_in}

-- ---- one request among all of a client

some_is : (q : Request) → IsSome (Some q)
some_is q = refl

abbrev standing : Request → Asking → Request
standing q a = record { plan = q.plan; asking = a }

find_put_same : (qs : List Request) (r : ℕ) (a : Asking) (q : Request) → find qs r ≡ Some q → find (put qs r a) r ≡ Some (standing q a)
find_put_same [] r a q e = absurd (cc)
find_put_same (x ∷ qs) r a q e = by_bool (nat_eq r x.plan.number)
    (λ t. let c : Some x ≡ Some q = sym (ap (λ b. if b then Some x else find qs r) t) ∙ e in let d : x ≡ q = cc in
    ap (λ b. find (if b then standing x a ∷ qs else x ∷ put qs r a) r) t ∙ ap (λ b. if b then Some (standing x a) else find qs r) t ∙ ap (λ z. Some (standing z a)) d)
    (λ f. ap (λ b. find (if b then standing x a ∷ qs else x ∷ put qs r a) r) f ∙ ap (λ b. if b then Some x else find (put qs r a) r) f
    ∙ find_put_same qs r a q (sym (ap (λ b. if b then Some x else find qs r) f) ∙ e))

find_put_other : (qs : List Request) (r : ℕ) (a : Asking) (n : ℕ) → nat_eq n r ≡ false → find (put qs r a) n ≡ find qs n
find_put_other [] r a n ne = refl
find_put_other (x ∷ qs) r a n ne = by_bool (nat_eq r x.plan.number)
    (λ t. let same : r ≡ x.plan.number = eqb-true r x.plan.number t in
    let other : nat_eq n x.plan.number ≡ false = ap (nat_eq n) (sym same) ∙ ne in
    ap (λ b. find (if b then standing x a ∷ qs else x ∷ put qs r a) n) t
    ∙ ap (λ b. if b then Some (standing x a) else find qs n) other ∙ sym (ap (λ b. if b then Some x else find qs n) other))
    (λ f. ap (λ b. find (if b then standing x a ∷ qs else x ∷ put qs r a) n) f ∙ ap (λ o. if nat_eq n x.plan.number then Some x else o) (find_put_other qs r a n ne))

pub find_number : (qs : List Request) (r : ℕ) (q : Request) → find qs r ≡ Some q → q.plan.number ≡ r
find_number [] r q e = absurd (cc)
find_number (x ∷ qs) r q e = by_bool (nat_eq r x.plan.number)
    (λ t. let c : Some x ≡ Some q = sym (ap (λ b. if b then Some x else find qs r) t) ∙ e in let d : x ≡ q = cc in sym (eqb-true r x.plan.number t ∙ ap (λ (z : Request). z.plan.number) d))
    (λ f. find_number qs r q (sym (ap (λ b. if b then Some x else find qs r) f) ∙ e))

put_plans : (qs : List Request) (r : ℕ) (a : Asking) → map (λ (q : Request). q.plan) (put qs r a) ≡ map (λ (q : Request). q.plan) qs
put_plans [] r a = refl
put_plans (x ∷ qs) r a = by_bool (nat_eq r x.plan.number)
    (λ t. ap (λ b. map (λ (q : Request). q.plan) (if b then standing x a ∷ qs else x ∷ put qs r a)) t)
    (λ f. ap (λ b. map (λ (q : Request). q.plan) (if b then standing x a ∷ qs else x ∷ put qs r a)) f ∙ ap (λ z. x.plan ∷ z) (put_plans qs r a))

lasts : (k : ClientState) (r : ℕ) (a : Asking) → lasting_of (with_asking k r a) ≡ lasting_of k
lasts k r a = ap (λ z. record { terms = k.terms; images = k.images; plans = z }) (put_plans k.requests r a)

-- ---- one request among all of a world

pub got_set : {A : Type 0} (xs : List A) (n : ℕ) (x y : A) → slice_get xs n ≡ Some x → slice_get (slice_set xs n y) n ≡ Some y
got_set [] n x y e = absurd (cc)
got_set (z ∷ xs) zero x y e = refl
got_set (z ∷ xs) (suc n) x y e = got_set xs n x y e

pub got_other : {A : Type 0} (xs : List A) (n m : ℕ) (y : A) → nat_eq m n ≡ false → slice_get (slice_set xs n y) m ≡ slice_get xs m
got_other [] n m y ne = refl
got_other (z ∷ xs) zero zero y ne = absurd (cc)
got_other (z ∷ xs) zero (suc m) y ne = refl
got_other (z ∷ xs) (suc n) zero y ne = refl
got_other (z ∷ xs) (suc n) (suc m) y ne = let e : nat_eq m n ≡ false = grind (arith, ne) in got_other xs n m y e

same_at : (clients : List ClientState) (home : ℕ) (k : ClientState) (r : ℕ) (a : Asking) (q : Request) → slice_get clients home ≡ Some k → find k.requests r ≡ Some q
    → request_at (slice_set clients home (with_asking k r a)) home r ≡ Some (standing q a)
same_at clients home k r a q e f = ap (λ o. find (requests_in o) r) (got_set clients home k (with_asking k r a) e) ∙ find_put_same k.requests r a q f

other_at : (clients : List ClientState) (home : ℕ) (k : ClientState) (r : ℕ) (a : Asking) (c n : ℕ) → slice_get clients home ≡ Some k → nat_eq n r ≡ false
    → request_at (slice_set clients home (with_asking k r a)) c n ≡ request_at clients c n
other_at clients home k r a c n e ne = by_bool (nat_eq c home)
    (λ t. let same : c ≡ home = eqb-true c home t in
    ap (λ z. request_at (slice_set clients home (with_asking k r a)) z n) same
    ∙ ap (λ o. find (requests_in o) n) (got_set clients home k (with_asking k r a) e) ∙ find_put_other k.requests r a n ne
    ∙ ap (λ o. find (requests_in o) n) (sym e) ∙ ap (λ z. request_at clients z n) (sym same))
    (λ f. ap (λ o. find (requests_in o) n) (got_other clients home c (with_asking k r a) f))

-- all requests from a number on, of which none is this
askings_other : (from : ℕ) (homes : List ℕ) (clients : List ClientState) (home : ℕ) (k : ClientState) (r : ℕ) (a : Asking) → slice_get clients home ≡ Some k → r < from
    → askings from homes (slice_set clients home (with_asking k r a)) ≡ askings from homes clients
askings_other from [] clients home k r a e low = refl
askings_other from (c ∷ homes) clients home k r a e low =
    let ne : nat_eq from r ≡ false = grind (arith, low) in
    let below : r < suc from = omega (arith, low) in
    λ i. asking_in (other_at clients home k r a c from e ne i) ∷ askings_other (suc from) homes clients home k r a e below i

askings_set : (from : ℕ) (homes : List ℕ) (clients : List ClientState) (home : ℕ) (k : ClientState) (n r : ℕ) (a : Asking) (q : Request)
    → slice_get homes n ≡ Some home → r ≡ from + n → slice_get clients home ≡ Some k → find k.requests r ≡ Some q
    → askings from homes (slice_set clients home (with_asking k r a)) ≡ slice_set (askings from homes clients) n a
askings_set from [] clients home k n r a q h e stands f = absurd (cc)
askings_set from (c ∷ homes) clients home k zero r a q h e stands f =
    let here : c ≡ home = cc in
    let is : from ≡ r = omega (arith, e) in
    let low : r < suc from = omega (arith, e) in
    let first : request_at (slice_set clients home (with_asking k r a)) c from ≡ Some (standing q a) =
    (λ i. request_at (slice_set clients home (with_asking k r a)) (here i) (is i)) ∙ same_at clients home k r a q stands f in
    λ i. asking_in (first i) ∷ askings_other (suc from) homes clients home k r a stands low i
askings_set from (c ∷ homes) clients home k (suc n) r a q h e stands f =
    let ne : nat_eq from r ≡ false = grind (arith, e) in
    let is : r ≡ suc from + n = omega (arith, e) in
    λ i. asking_in (other_at clients home k r a c from stands ne i) ∷ askings_set (suc from) homes clients home k n r a q h is stands f i

askings_get : (from : ℕ) (homes : List ℕ) (clients : List ClientState) (n : ℕ) → slice_get (askings from homes clients) n ≡ option_map (λ c. asking_in (request_at clients c (from + n))) (slice_get homes n)
askings_get from [] clients n = refl
askings_get from (c ∷ homes) clients zero = let e : from ≡ from + 0 = omega arith in ap (λ z. Some (asking_in (request_at clients c z))) e
askings_get from (c ∷ homes) clients (suc n) =
    let e : suc from + n ≡ from + suc n = omega arith in askings_get (suc from) homes clients n ∙ ap (λ z. option_map (λ d. asking_in (request_at clients d z)) (slice_get homes n)) e

askings_at : (homes : List ℕ) (clients : List ClientState) (r : ℕ) → slice_get (askings 0 homes clients) r ≡ option_map (λ c. asking_in (request_at clients c r)) (slice_get homes r)
askings_at homes clients r = let e : 0 + r ≡ r = omega arith in askings_get 0 homes clients r ∙ ap (λ n. option_map (λ c. asking_in (request_at clients c n)) (slice_get homes r)) e

-- how request r stands at its home
pub asking_is : (s : Scene) (r home : ℕ) (k : ClientState) (q : Request) → slice_get s.homes r ≡ Some home → slice_get s.clients home ≡ Some k → find k.requests r ≡ Some q
    → slice_get (world_of s).asking r ≡ Some q.asking
asking_is s r home k q at stands found =
    askings_at s.homes s.clients r ∙ ap (option_map (λ c. asking_in (request_at s.clients c r))) at ∙ ap (λ o. Some (asking_in (find (requests_in o) r))) stands ∙ ap (λ o. Some (asking_in o)) found

pub none_is : (s : Scene) (r : ℕ) → slice_get s.homes r ≡ None → slice_get (world_of s).asking r ≡ None
none_is s r at = askings_at s.homes s.clients r ∙ ap (option_map (λ c. asking_in (request_at s.clients c r))) at

pub answer_is : (homes : List ℕ) (clients : List ClientState) (r home : ℕ) (a : Answer) → slice_get homes r ≡ Some home → option_map (λ (q : Request). answer_of q.asking) (request_at clients home r) ≡ Some a
    → option_map answer_of (slice_get (askings 0 homes clients) r) ≡ Some a
answer_is homes clients r home a at e = ap (option_map answer_of) (askings_at homes clients r ∙ ap (option_map (λ c. asking_in (request_at clients c r))) at) ∙ by (request_at clients home r) e
  where
    by : (o : Option Request) → option_map (λ (q : Request). answer_of q.asking) o ≡ Some a → option_map answer_of (Some (asking_in o)) ≡ Some a
    by None h = absurd (cc)
    by (Some q) h = h

pub many_askings : (from : ℕ) (homes : List ℕ) (clients : List ClientState) → length (askings from homes clients) ≡ length homes
many_askings from [] clients = refl
many_askings from (c ∷ homes) clients = ap suc (many_askings (suc from) homes clients)

-- ---- the events

-- a client's request stands otherwise, and a leg is sent
changed : {A : Type 0} (s : Scene) (clients : List ClientState) (letters : List Letter) (r home : ℕ) (k : ClientState) (q : Request) (x : Asking × A) (leg : A → Option Leg) (told : WorldState → A → Trace) (answer : A) (t : Trace)
    → slice_get s.homes r ≡ Some home → slice_get s.clients home ≡ Some k → find k.requests r ≡ Some q → clients ≡ slice_set s.clients home (with_asking k r x.0) → answer ≡ x.1
    → letters ≡ s.letters ++ map own (sent_leg (leg answer)) → IsTold s.letters (λ w. told w answer) t
    → ◌≡◌ {A = WorldState × Trace} (world_of (record s { clients = clients; letters = letters }), t) (world_with (world_of s) r x.0 (sent_leg (leg x.1)), told (world_of s) x.1)
changed s clients letters r home k q x leg told answer t at there found new is eq says =
    let zero_on : r ≡ 0 + r = omega arith in
    let stands : askings 0 s.homes clients ≡ slice_set (askings 0 s.homes s.clients) r x.0 = ap (askings 0 s.homes) new ∙ askings_set 0 s.homes s.clients home k r r x.0 q at zero_on there found in
    let sent : map letter_view letters ≡ (world_of s).letters ++ sent_leg (leg x.1) = letters_so s.letters letters (sent_leg (leg answer)) eq ∙ ap (λ z. (world_of s).letters ++ sent_leg (leg z)) is in
    let tells : t ≡ told (world_of s) x.1 = says (world_of s) (next_in s) ∙ ap (told (world_of s)) is in
    λ i. (record (world_of s) { asking = stands i; letters = sent i }, tells i)

pub does_so : {A : Type 0} (s : Scene) (clients : List ClientState) (base letters : List Letter) (r home : ℕ) (rule : ClientState → Request → Asking × A) (leg : A → Option Leg) (told : WorldState → A → Trace) (answer : A) (t : Trace)
    → slice_get s.homes r ≡ Some home → DoesAt s.clients clients home r rule answer → base ≡ s.letters → letters ≡ base ++ map own (sent_leg (leg answer)) → IsTold base (λ w. told w answer) t
    → Does rule (λ w n x. (world_with w n x.0 (sent_leg (leg x.1)), told w x.1)) s (record s { clients = clients; letters = letters }) r t
does_so s clients base letters r home rule leg told answer t at d b eq says = record {
  home = home;
  client = d.before;
  request = d.does.request;
  at = at;
  stands = d.stands;
  found = d.does.found;
  step = changed s clients letters r home d.before d.does.request (rule d.before d.does.request) leg told answer t at d.stands d.does.found (d.left ∙ ap (slice_set s.clients home) d.does.leaves) d.does.answers
      (eq ∙ ap (λ z. z ++ map own (sent_leg (leg answer))) b) (subst (λ z. IsTold z (λ w. told w answer) t) b says);
}

pub set_same : {A : Type 0} (xs : List A) (n : ℕ) (x : A) → slice_get xs n ≡ Some x → slice_set xs n x ≡ xs
set_same [] n x e = absurd (cc)
set_same (y ∷ xs) zero x e = let c : y ≡ x = cc in ap (λ z. z ∷ xs) (sym c)
set_same (y ∷ xs) (suc n) x e = ap (λ z. y ∷ z) (set_same xs n x e)

-- a client that hears a back: none of its requests does, or one
hears_by : (s : Scene) (clients : List ClientState) (letters : List Letter) (c : ℕ) (b : Back) (answer : Heard) (t : Trace) → IsScene s → (d : HearsAt s.clients clients c b answer) → (o : Option Request)
    → find d.before.requests b.request ≡ o → letters ≡ s.letters ++ map own (sent_leg (heard_leg answer)) → IsTold s.letters (λ w. told_heard w answer) t
    → HearsBy s (record s { clients = clients; letters = letters }) d.before b t o
hears_by s clients letters c b answer t h d None f eq says =
    let by = subst (λ o. Stood d.before d.after b answer o) f d.hears in
    let same : clients ≡ s.clients = d.left ∙ ap (slice_set s.clients c) by.1 ∙ set_same s.clients c d.before d.stands in
    let sent : map letter_view letters ≡ (world_of s).letters = letters_so s.letters letters [] (eq ∙ ap (λ z. s.letters ++ map own (sent_leg (heard_leg z))) by.0) ∙ append-nil (world_of s).letters in
    ((λ i. record (world_of s) { asking = askings 0 s.homes (same i); letters = sent i }), says (world_of s) (next_in s) ∙ ap (told_heard (world_of s)) by.0)
hears_by s clients letters c b answer t h d (Some q) f eq says =
    let by = subst (λ o. Stood d.before d.after b answer o) f d.hears in
    let has : IsSome (find d.before.requests b.request) = subst IsSome (sym f) (some_is q) in
    changed s clients letters b.request c d.before q (hear d.before.terms b q.asking) heard_leg told_heard answer t (h.owned b.request c (d.before, d.stands, has)) d.stands f (d.left ∙ ap (slice_set s.clients c) by.1) by.0 eq says

pub hears_so : (s : Scene) (clients : List ClientState) (base letters : List Letter) (c : ℕ) (b : Back) (answer : Heard) (t : Trace) → IsScene s → HearsAt s.clients clients c b answer
    → base ≡ s.letters → letters ≡ base ++ map own (sent_leg (heard_leg answer)) → IsTold base (λ w. told_heard w answer) t → Hears s (record s { clients = clients; letters = letters }) c b t
hears_so s clients base letters c b answer t h d e eq says = record {
  client = d.before;
  stands = d.stands;
  does = hears_by s clients letters c b answer t h d (find d.before.requests b.request) refl (eq ∙ ap (λ z. z ++ map own (sent_leg (heard_leg answer))) e) (subst (λ z. IsTold z (λ w. told_heard w answer) t) e says);
}

-- ---- what lasts of the clients

pub does_lasts : {A : Type 0} (old new : List ClientState) (c r : ℕ) (rule : ClientState → Request → Asking × A) (answer : A) → DoesAt old new c r rule answer → map lasting_of new ≡ map lasting_of old
does_lasts old new c r rule answer d =
    ap (map lasting_of) d.left ∙ map_set_same lasting_of old c d.before d.after d.stands (ap lasting_of d.does.leaves ∙ lasts d.before r (rule d.before d.does.request).0)

hears_lasts_by : (old new : ClientState) (b : Back) (answer : Heard) (o : Option Request) → Stood old new b answer o → lasting_of new ≡ lasting_of old
hears_lasts_by old new b a None h = ap lasting_of h.1
hears_lasts_by old new b a (Some q) h = ap lasting_of h.1 ∙ lasts old b.request (hear old.terms b q.asking).0

pub hears_lasts : (old new : List ClientState) (c : ℕ) (b : Back) (answer : Heard) → HearsAt old new c b answer → map lasting_of new ≡ map lasting_of old
hears_lasts old new c b answer d =
    ap (map lasting_of) d.left ∙ map_set_same lasting_of old c d.before d.after d.stands (hears_lasts_by d.before d.after b answer (find d.before.requests b.request) d.hears)

pub does_stays : (s : Scene) (clients : List ClientState) (base letters : List Letter) (o : Option Leg) → map lasting_of clients ≡ map lasting_of s.clients → base ≡ s.letters
    → letters ≡ base ++ map own (sent_leg o) → Stays s (record s { clients = clients; letters = letters })
does_stays s clients base letters o l b eq = record {
  switch = refl;
  images = refl;
  homes = refl;
  clients = l;
  plain = refl;
  sent = map own (sent_leg o);
  few = few o;
  letters = eq ∙ ap (λ z. z ++ map own (sent_leg o)) b;
}
  where
    few : (x : Option Leg) → length (map own (sent_leg x)) ≤ 1
    few None = omega arith
    few (Some l) = omega arith
