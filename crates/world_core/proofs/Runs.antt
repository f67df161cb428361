-- An event of a world, as the event of a run of any setting to which the world belongs.
use Rattle.std.proofs.Common.{Result, Ok, Err, IfOk, OnErr, arith, ◌≡◌, ℕ, zero, suc, ◌<◌, List, [], ◌∷◌, length, Option, Some, None, IsSome, IsTrue, refl, sym, ap, ◌∙◌, map, subst}
use Rattle.std.specs.Prelude.{slice_get, option_map}
use Rattle.std.proofs.lemmas.List.{append-nil}
use Rattle.std.proofs.lemmas.Option.{slice_get-map}
use Rattle.pulse_base.specs.declared.event.Event.{Event}
use Rattle.pulse_base.specs.declared.event.Event.TheVariants as event
use Rattle.pulse_base.specs.declared.event.Trace.{Trace}
use Rattle.pulse_base.specs.declared.listed.Memory.{Memory}
use Rattle.pulse_base.specs.declared.plan.RequestPlan.{RequestPlan}
use Rattle.frame_codec.specs.declared.frame.Back.{Back}
use Rattle.run_rules.specs.Client.{ask, tick, hear}
use Rattle.run_rules.specs.Switch.{on}
use Rattle.run_rules.specs.Waiting.{Each}
use Rattle.run_laws.specs.Flat.{Flat}
use Rattle.run_laws.specs.Spines.Sound as sound
use Rattle.run_views.specs.Setting.{Setting, IsSetting}
use Rattle.run_views.specs.Clients.{terms_of}
use Rattle.run_views.specs.Nodes.{IsNodeOf}
use Rattle.scenario_run.specs.Code.{IsCodeOf}
use Rattle.client_core.specs.declared.request.Request.{Request}
use Rattle.client_core.specs.Begins.{begin_of}
use Rattle.client_core.specs.Requests.{ClientState, find}
use Rattle.event_run.specs.World as run
use Rattle.event_run.specs.World.{WorldState}
use Rattle.event_run.specs.Always.{IsRun, LetterOf}
use Rattle.world_core.specs.declared.letter.To.{To}
use Rattle.world_core.specs.declared.letter.To.TheVariants as to
use Rattle.world_core.specs.declared.letter.Content.{Content}
use Rattle.world_core.specs.declared.letter.Content.TheVariants as content
use Rattle.world_core.specs.declared.letter.Letter.{Letter}
use Rattle.world_core.specs.Letters.{frame_of, letter_view, to_view, content_view}
use Rattle.world_core.specs.Scene.{Member, Scene, Lasting, Stays, IsAsBefore, lasting_of, node_of, requests_in, request_at, world_of}
use Rattle.world_core.specs.Runs.{IsSceneOf, Steps, EventSo, EventPlain, IsThere}
use Rattle.world_core.specs.inner.Events.{Asks, Ticks, HearsBy, Delivers, DeliversAt, Turns, Happens, IsHere}
use Rattle.world_core.specs.inner.Fits.{IsScene}
use Rattle.world_core.proofs.Scenes.{each_at}
use Rattle.world_core.proofs.Asking.{asking_is, none_is, many_askings, find_number}
use Rattle.world_core.proofs.Lastings.{lasts_at, plans_at, plan_in, was}
use Rattle.world_core.proofs.Iterating.{turns_so, first_so}

-- ---- a world that belongs to a setting

-- the terms of a request's client
terms_at : (u : Setting) (s : Scene) (r home : ℕ) (k : ClientState) → IsSceneOf u s → slice_get s.homes r ≡ Some home → slice_get s.clients home ≡ Some k → k.terms ≡ terms_of u r
terms_at u s r home k h at stands = h.terms home k stands ∙ ap (λ c. record { client = c; budget = u.budget; rounds = u.rounds; tries = u.tries }) (h.homes r home at)

pub still_of : (u : Setting) (old new : Scene) → IsSceneOf u old → Stays old new → IsSceneOf u new
still_of u old new h s = record {
  switch = s.switch ∙ h.switch;
  code = subst (IsCodeOf u) (sym s.images) h.code;
  homes = λ r c at. h.homes r c (subst (λ z. slice_get z r ≡ Some c) s.homes at);
  terms = λ c k at. let o = was lasting_of (slice_get old.clients c) (slice_get new.clients c) k (lasts_at old.clients new.clients c s.clients) at in ap (λ (z : Lasting). z.terms) o.2 ∙ h.terms c o.0 o.1;
  requests = λ r c q at found.
      let o = was plan_in (request_at old.clients c r) (request_at new.clients c r) q (plans_at old.clients new.clients c r s.clients) found in
      let i = h.requests r c o.0 (subst (λ z. slice_get z r ≡ Some c) s.homes at) o.1 in
      record { program = ap (λ (p : RequestPlan). p.iter) o.2 ∙ i.program; begins = (λ j. begin_of (s.images j) (o.2 j)) ∙ i.begins };
}

-- ---- asks and ticks

asks_so : (u : Setting) (old new : Scene) (r : ℕ) (t : Trace) → IsScene old → IsSceneOf u old → Asks old new r t → ◌≡◌ {A = WorldState × Trace} (world_of new, t) (run.event u (world_of old) (event.Ask r))
asks_so u old new r t fits h d =
    let k = d.client in
    let q = d.request in
    let terms = terms_at u old r d.home k h d.at d.stands in
    let number = find_number k.requests r q d.found in
    let is = h.requests r d.home q d.at (ap (λ o. find (requests_in o) r) d.stands ∙ d.found) in
    let begins : begin_of k.images q.plan ≡ u.begin r = ap (λ z. begin_of z q.plan) (each_at _ old.clients d.home k fits.clients d.stands) ∙ is.begins in
    d.step ∙ (λ i. run.asks (world_of old) r (ask (terms i) (number i) (is.program i) (begins i) q.asking)) ∙ sym (ap (run.asks_at u (world_of old) r) (asking_is old r d.home k q d.at d.stands d.found))

ticks_so : (u : Setting) (old new : Scene) (r : ℕ) (t : Trace) → IsSceneOf u old → Ticks old new r t → ◌≡◌ {A = WorldState × Trace} (world_of new, t) (run.event u (world_of old) (event.Tick r))
ticks_so u old new r t h d =
    let terms = terms_at u old r d.home d.client h d.at d.stands in
    d.step ∙ (λ i. run.ticks (world_of old) r (tick (terms i) (d.request).asking)) ∙ sym (ap (run.ticks_at u (world_of old) r) (asking_is old r d.home d.client d.request d.at d.stands d.found))

-- ---- a delivery

-- the client of a back is its request's, so none of that number is elsewhere
none_home : (u : Setting) (s : Scene) (c : ℕ) (k : ClientState) (b : Back) → IsScene s → IsSceneOf u s → slice_get s.clients c ≡ Some k → c ≡ u.client b.request → find k.requests b.request ≡ None → (o : Option ℕ) → slice_get s.homes b.request ≡ o → o ≡ None
none_home u s c k b fits h stands own none None at = refl
none_home u s c k b fits h stands own none (Some d) at =
    let same : d ≡ c = h.homes b.request d at ∙ sym own in
    let has = fits.homes b.request d at in
    let is : Some has.0 ≡ Some k = sym has.1 ∙ ap (slice_get s.clients) same ∙ stands in
    let client : has.0 ≡ k = cc in
    absurd (let some = subst (λ (z : ClientState). IsSome (find z.requests b.request)) client has.2 in cc)

hears_by : (u : Setting) (old new : Scene) (c : ℕ) (k : ClientState) (b : Back) (t : Trace) → IsScene old → IsSceneOf u old → slice_get old.clients c ≡ Some k → c ≡ u.client b.request → (o : Option Request) → find k.requests b.request ≡ o
    → HearsBy old new k b t o → ◌≡◌ {A = WorldState × Trace} (world_of new, t) (run.to_client u (world_of old) c b (slice_get (world_of old).asking b.request))
hears_by u old new c k b t fits h stands own None f does =
    let home = none_home u old c k b fits h stands own f (slice_get old.homes b.request) refl in
    (λ i. (does.0 i, does.1 i)) ∙ sym (ap (run.to_client u (world_of old) c b) (none_is old b.request home))
hears_by u old new c k b t fits h stands own (Some q) f does =
    let has : IsSome (find k.requests b.request) = subst IsSome (sym f) refl in
    let home = fits.owned b.request c (k, stands, has) in
    let terms = h.terms c k stands in
    does ∙ (λ i. run.hears (world_of old) b.request (hear (terms i) b q.asking)) ∙ sym (ap (run.to_client u (world_of old) c b) (asking_is old b.request c k q home stands f))

to_frame_so : (x : Content) → frame_of x ≡ run.to_frame (content_view x)
to_frame_so (content.Leg l) = refl
to_frame_so (content.Back b) = refl

delivers_so : (u : Setting) (old new : Scene) (d : To) (x : Content) (t : Trace) → IsScene old → IsSceneOf u old → LetterOf u (length (world_of old).nodes) (to_view d) (content_view x)
    → Delivers old new d x t → ◌≡◌ {A = WorldState × Trace} (world_of new, t) (run.delivers u (world_of old) (to_view d) (content_view x))
delivers_so u old new to.Switch x t fits h of does = does ∙ (λ i. run.switches (world_of old) (on (h.switch i) (to_frame_so x i)))
delivers_so u old new (to.Node n) (content.Leg l) t fits h of does = does
delivers_so u old new (to.Node n) (content.Back b) t fits h of does = absurd does
delivers_so u old new (to.Client c) (content.Leg l) t fits h of does = absurd does
delivers_so u old new (to.Client c) (content.Back b) t fits h of does = hears_by u old new c does.client b t fits h does.stands of.0 (find (does.client).requests b.request) refl does.does

same_each : {A : Type 0} (P : A → Type 0) (xs : List A) (n : ℕ) (x : A) → sound.Each P xs → slice_get xs n ≡ Some x → P x
same_each P [] n x f e = absurd (cc)
same_each P (y ∷ xs) zero x f e = let c : y ≡ x = cc in subst P c f.0
same_each P (y ∷ xs) (suc n) x f e = same_each P xs n x f.1 e

delivers_by : (u : Setting) (start : Flat) (old new : Scene) (k : ℕ) (t : Trace) (o : Option Letter) → IsScene old → IsSceneOf u old → IsRun u start (world_of old) → slice_get old.letters k ≡ o
    → DeliversAt old new o t → ◌≡◌ {A = WorldState × Trace} (world_of new, t) (run.event u (world_of old) (event.Deliver k))
delivers_by u start old new k t None fits h is at does =
    let none : slice_get (world_of old).letters k ≡ None = slice_get-map letter_view old.letters k ∙ ap (option_map letter_view) at in
    (λ i. (world_of (does.0 i), does.1 i)) ∙ sym (ap (run.delivers_at u (world_of old)) none)
delivers_by u start old new k t (Some m) fits h is at does =
    let some : slice_get (world_of old).letters k ≡ Some (letter_view m) = slice_get-map letter_view old.letters k ∙ ap (option_map letter_view) at in
    let of = same_each (λ z. LetterOf u (length (world_of old).nodes) z.to z.content) (world_of old).letters k (letter_view m) is.of.letters some in
    delivers_so u old new m.to m.content t fits h of does ∙ sym (ap (run.delivers_at u (world_of old)) some)

-- ---- any event

node_of_run : (u : Setting) (start : Flat) (old new : Scene) (n : ℕ) (t : Trace) → IsRun u start (world_of old) → (x : Turns old new n t) → IsNodeOf u n x.makes.before.part.node
node_of_run u start old new n t is x = is.of.nodes n x.makes.before.part.node (slice_get-map node_of old.nodes n ∙ ap (option_map node_of) x.makes.stands)

steps_so : (u : Setting) (start : Flat) (old new : Scene) (x : Event) (t : Trace) → IsSetting u → IsScene old → IsSceneOf u old → IsRun u start (world_of old) → Happens old new x t → Steps u (world_of old) (world_of new) x t
steps_so u start old new (event.Ask r) t set fits h is does = asks_so u old new r t fits h does
steps_so u start old new (event.Tick r) t set fits h is does = ticks_so u old new r t h does
steps_so u start old new (event.Deliver k) t set fits h is does = delivers_by u start old new k t (slice_get old.letters k) fits h is refl does
steps_so u start old new (event.Turn n) t set fits h is does = turns_so u old new n t does set h.code (node_of_run u start old new n t is does) fits

plain_so : (u : Setting) (start : Flat) (old new : Scene) (x : Event) (t : Trace) → IsSetting u → IsScene old → IsSceneOf u old → IsRun u start (world_of old) → Each (λ (m : Member). IsTrue m.plain) old.nodes
    → Happens old new x t → ◌≡◌ {A = WorldState × Trace} (world_of new, t) (run.event u (world_of old) x)
plain_so u start old new (event.Ask r) t set fits h is plain does = asks_so u old new r t fits h does
plain_so u start old new (event.Tick r) t set fits h is plain does = ticks_so u old new r t h does
plain_so u start old new (event.Deliver k) t set fits h is plain does = delivers_by u start old new k t (slice_get old.letters k) fits h is refl does
plain_so u start old new (event.Turn n) t set fits h is plain does =
    first_so u old new n t does set h.code (node_of_run u start old new n t is does) fits (each_at (λ (m : Member). IsTrue m.plain) old.nodes n does.makes.before plain does.makes.stands)

pub event_so : (old new : Scene) (x : Event) (t : Trace) → IsScene old → Happens old new x t → Stays old new → EventSo old new x t
event_so old new x t fits does stays u start set numbers h is = (steps_so u start old new x t set fits h is does, still_of u old new h stays)

pub event_plain : (old new : Scene) (x : Event) (t : Trace) → IsScene old → Happens old new x t → EventPlain old new x t
event_plain old new x t fits does plain u start set numbers h is = plain_so u start old new x t set fits h is plain does

-- ---- what happens, by its result

pub result_so : (old new : Scene) (x : Event) (r : Result Trace Memory) → IsScene old → IfOk r (λ t. Happens old new x t) → IfOk r (λ t. Stays old new) → IfOk r (λ t. EventSo old new x t)
result_so old new x (Ok t) fits does stays = event_so old new x t fits does stays
result_so old new x (Err m) fits does stays = tt

pub result_plain : (old new : Scene) (x : Event) (r : Result Trace Memory) → IsScene old → IfOk r (λ t. Happens old new x t) → IfOk r (λ t. EventPlain old new x t)
result_plain old new x (Ok t) fits does = event_plain old new x t fits does
result_plain old new x (Err m) fits does = tt

-- what is there for the event run is there
pub here_of : (s : Scene) (x : Event) → IsThere s x → IsHere s x
here_of s (event.Ask r) h = subst (λ n. r < n) (many_askings 0 s.homes s.clients) h.0
here_of s (event.Tick r) h = subst (λ n. r < n) (many_askings 0 s.homes s.clients) h.0
here_of s (event.Deliver k) h = tt
here_of s (event.Turn n) h = h.1

-- what no event changes stays where there was no memory, too
before_stays : (old new : Scene) → IsAsBefore old new → Stays old new
before_stays old new b = record {
  switch = ap (λ (s : Scene). s.switch) b.others;
  images = ap (λ (s : Scene). s.images) b.others;
  homes = ap (λ (s : Scene). s.homes) b.others;
  clients = ap (λ (s : Scene). map lasting_of s.clients) b.others;
  plain = b.plain;
  sent = [];
  few = omega arith;
  letters = ap (λ (s : Scene). s.letters) b.others ∙ sym (append-nil old.letters);
}

pub result_stays : (old new : Scene) (r : Result Trace Memory) → IfOk r (λ t. Stays old new) → OnErr r (IsAsBefore old new) → Stays old new
result_stays old new (Ok t) s b = s
result_stays old new (Err m) s b = before_stays old new b
