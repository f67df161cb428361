-- What lasts of the clients gives which requests they have, and which plans.
use Rattle.std.proofs.Common.{◌≡◌, ℕ, Bool, true, false, nat_eq, List, [], ◌∷◌, ◌++◌, length, Option, Some, None, IsSome, refl, sym, ap, ◌∙◌, map, subst, if◌then◌else◌}
use Rattle.std.specs.Prelude.{slice_get, option_map}
use Rattle.std.proofs.lemmas.List.{length-map}
use Rattle.std.proofs.lemmas.Option.{slice_get-map}
use Rattle.pulse_base.specs.declared.plan.RequestPlan.{RequestPlan}
use Rattle.frame_codec.specs.declared.frame.Leg.{Leg}
use Rattle.event_run.specs.Letters.{sent_leg}
use Rattle.code_image.specs.declared.image.Image.{Image}
use Rattle.run_rules.specs.Waiting.{Each}
use Rattle.client_core.specs.declared.request.Request.{Request}
use Rattle.client_core.specs.Requests.{ClientState, find}
use Rattle.world_core.specs.declared.letter.Letter.{Letter}
use Rattle.world_core.specs.Scene.{Scene, Lasting, lasting_of, requests_in, request_at}
use Rattle.world_core.specs.inner.Clients.{HasAt}
use Rattle.world_core.specs.inner.Fits.{IsScene, LetterFits, SwitchFits}
use Rattle.world_core.specs.inner.Sends.{own}
use Rattle.world_core.proofs.Scenes.{with_letters}

abbrev pub plan_in : Request → RequestPlan
plan_in q = q.plan

-- the plan of the request that is found
find_plans : (xs ys : List Request) (r : ℕ) → map plan_in ys ≡ map plan_in xs → option_map plan_in (find ys r) ≡ option_map plan_in (find xs r)
find_plans [] [] r e = refl
find_plans [] (y ∷ ys) r e = absurd (cc)
find_plans (x ∷ xs) [] r e = absurd (cc)
find_plans (x ∷ xs) (y ∷ ys) r e =
    let first : y.plan ≡ x.plan = cc in
    let others : map plan_in ys ≡ map plan_in xs = cc in
    by (nat_eq r y.plan.number) (nat_eq r x.plan.number) (ap (λ (p : RequestPlan). nat_eq r p.number) first) first (find_plans xs ys r others)
  where
    by : (b d : Bool) → b ≡ d → y.plan ≡ x.plan → option_map plan_in (find ys r) ≡ option_map plan_in (find xs r) → option_map plan_in (if b then Some y else find ys r) ≡ option_map plan_in (if d then Some x else find xs r)
    by true true e f o = ap Some f
    by true false e f o = absurd (cc)
    by false true e f o = absurd (cc)
    by false false e f o = o

plans_in : (x y : Option ClientState) (r : ℕ) → option_map lasting_of y ≡ option_map lasting_of x → option_map plan_in (find (requests_in y) r) ≡ option_map plan_in (find (requests_in x) r)
plans_in None None r e = refl
plans_in None (Some y) r e = absurd (cc)
plans_in (Some x) None r e = absurd (cc)
plans_in (Some x) (Some y) r e = let same : lasting_of y ≡ lasting_of x = cc in find_plans x.requests y.requests r (ap (λ (k : Lasting). k.plans) same)

pub lasts_at : (xs ys : List ClientState) (c : ℕ) → map lasting_of ys ≡ map lasting_of xs → option_map lasting_of (slice_get ys c) ≡ option_map lasting_of (slice_get xs c)
lasts_at xs ys c e = sym (slice_get-map lasting_of ys c) ∙ ap (λ z. slice_get z c) e ∙ slice_get-map lasting_of xs c

pub plans_at : (xs ys : List ClientState) (c r : ℕ) → map lasting_of ys ≡ map lasting_of xs → option_map plan_in (request_at ys c r) ≡ option_map plan_in (request_at xs c r)
plans_at xs ys c r e = plans_in (slice_get xs c) (slice_get ys c) r (lasts_at xs ys c e)

-- what was there, of what is there
pub was : {A B : Type 0} (f : A → B) (x y : Option A) (new : A) → option_map f y ≡ option_map f x → y ≡ Some new → (old : A) × (x ≡ Some old) × (f new ≡ f old)
was f None y new e is = let c : Some (f new) ≡ None = sym (ap (option_map f) is) ∙ e in absurd (cc)
was f (Some old) y new e is = let c : Some (f new) ≡ Some (f old) = sym (ap (option_map f) is) ∙ e in let d : f new ≡ f old = cc in (old, refl, d)

some_as : {A B : Type 0} (f : A → B) (x y : Option A) → option_map f y ≡ option_map f x → IsSome y → IsSome x
some_as f None None e h = h
some_as f None (Some y) e h = absurd (cc)
some_as f (Some x) y e h = refl

-- a client has a request just where it had it
has_lasting : (xs ys : List ClientState) (c r : ℕ) → map lasting_of ys ≡ map lasting_of xs → HasAt ys c r → HasAt xs c r
has_lasting xs ys c r e h =
    let o = was lasting_of (slice_get xs c) (slice_get ys c) h.0 (lasts_at xs ys c e) h.1 in
    (o.0, o.1, some_as plan_in (find (o.0).requests r) (find (h.0).requests r) (find_plans (o.0).requests (h.0).requests r (ap (λ (k : Lasting). k.plans) o.2)) h.2)

images_last : (xs ys : List ClientState) (images : List Image) → map lasting_of ys ≡ map lasting_of xs → Each (λ (k : ClientState). k.images ≡ images) xs → Each (λ (k : ClientState). k.images ≡ images) ys
images_last [] [] images e h = tt
images_last [] (y ∷ ys) images e h = absurd (cc)
images_last (x ∷ xs) [] images e h = absurd (cc)
images_last (x ∷ xs) (y ∷ ys) images e h =
    let first : lasting_of y ≡ lasting_of x = cc in
    let others : map lasting_of ys ≡ map lasting_of xs = cc in
    (ap (λ (k : Lasting). k.images) first ∙ h.0, images_last xs ys images others h.1)

pub with_clients : (s : Scene) (clients : List ClientState) → IsScene s → map lasting_of clients ≡ map lasting_of s.clients → IsScene (record s { clients = clients })
with_clients s clients h e =
    let long : length clients ≡ length s.clients = sym (length-map clients lasting_of) ∙ ap (λ (z : List Lasting). length z) e ∙ length-map s.clients lasting_of in
    record {
      switch = subst (λ k. SwitchFits s.switch (length s.nodes) k) (sym long) h.switch;
      nodes = h.nodes;
      clients = images_last s.clients clients s.images e h.clients;
      homes = λ r c at. has_lasting clients s.clients c r (sym e) (h.homes r c at);
      owned = λ r c has. h.owned r c (has_lasting s.clients clients c r e has);
      letters = subst (λ k. Each (LetterFits (length s.nodes) k) s.letters) (sym long) h.letters;
    }

-- and a leg is sent to the switch
pub client_fits : (s : Scene) (clients : List ClientState) (base letters : List Letter) (o : Option Leg) → IsScene s → map lasting_of clients ≡ map lasting_of s.clients → base ≡ s.letters
    → letters ≡ base ++ map own (sent_leg o) → IsScene (record s { clients = clients; letters = letters })
client_fits s clients base letters o h l b eq =
    with_letters (record s { clients = clients }) letters (map own (sent_leg o)) (with_clients s clients h l) (eq ∙ ap (λ z. z ++ map own (sent_leg o)) b) (sent o)
  where
    sent : (x : Option Leg) → Each (LetterFits (length s.nodes) (length clients)) (map own (sent_leg x))
    sent None = tt
    sent (Some m) = (tt, tt)
