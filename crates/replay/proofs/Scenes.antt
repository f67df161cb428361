-- The first scene of a scenario stands as its first world, and each request at its client.
use Rattle.std.proofs.Common.{◌≡◌, ℕ, zero, suc, ◌+◌, ◌<◌, Bool, true, false, List, [], ◌∷◌, length, map, nat_eq, replicate, Option, None, Some, IsSome, refl, rules, sym, ap, ◌∙◌, subst, arith, eqb-true, if◌then◌else◌}
use Rattle.std.specs.Prelude.{slice_get, All}
use Rattle.std.proofs.lemmas.List.{length-map}
use Rattle.pulse_base.specs.declared.plan.RequestPlan.{RequestPlan}
use Rattle.code_image.specs.declared.image.Image.{Image}
use Rattle.run_rules.specs.declared.client.Asking.TheVariants.{NotAsked}
use Rattle.run_rules.specs.Node.{NodeState}
use Rattle.run_rules.specs.Waiting.{Each}
use Rattle.run_rules.proofs.Finds.{by_bool}
use Rattle.node_core.specs.Part.{PartState}
use Rattle.client_core.specs.declared.request.Request.{Request}
use Rattle.client_core.specs.Requests.{ClientState, find}
use Rattle.scenario_text.specs.declared.plan.Plan.{Plan}
use Rattle.scenario_text.specs.declared.plan.PlanRegion.{PlanRegion}
use Rattle.scenario_text.specs.declared.scenario.Scenario.{Scenario}
use Rattle.scenario_text.specs.Accepted.{IsRunnable}
use Rattle.scenario_run.specs.Start.{first_nodes, start_of}
use Rattle.scenario_run.proofs.Lists.{all_at}
use Rattle.world_core.specs.Scene.{Member, node_of, asking_in, request_at, askings, world_of}
use Rattle.world_core.specs.inner.Clients.{HasAt}
use Rattle.world_core.specs.inner.Fits.{IsScene}
use Rattle.scenario_parts.specs.Clients.{requests_by, first_client, first_clients}
use Rattle.scenario_parts.specs.Parts.{with_images, first_parts}
use Rattle.replay.specs.inner.First.{first_scene}
use Rattle.scenario_parts.proofs.Lists.{all_head, all_tail}

-- ---- nodes

nodes_same : (images : List Image) (members : List Member) (nodes : List NodeState) → map (λ (m : Member). m.part) members ≡ map (with_images images) nodes → map node_of members ≡ nodes
nodes_same images [] [] e = refl
nodes_same images [] (n ∷ nodes) e = absurd (cc)
nodes_same images (m ∷ members) [] e = absurd (cc)
nodes_same images (m ∷ members) (n ∷ nodes) e =
    let one : m.part ≡ with_images images n = cc in
    let rest : map (λ (m : Member). m.part) members ≡ map (with_images images) nodes = cc in
    ap (λ (p : PartState). p.node ∷ map node_of members) one ∙ ap (λ k. n ∷ k) (nodes_same images members nodes rest)

nodes_have : (images : List Image) (members : List Member) (nodes : List NodeState) → map (λ (m : Member). m.part) members ≡ map (with_images images) nodes → Each (λ (m : Member). m.part.images ≡ images) members
nodes_have images [] nodes e = tt
nodes_have images (m ∷ members) [] e = absurd (cc)
nodes_have images (m ∷ members) (n ∷ nodes) e =
    let one : m.part ≡ with_images images n = cc in
    let rest : map (λ (m : Member). m.part) members ≡ map (with_images images) nodes = cc in
    (ap (λ (p : PartState). p.images) one, nodes_have images members nodes rest)

first_count : (s : Scenario) (n count : ℕ) → length (first_nodes s n count) ≡ count
first_count s n zero = refl
first_count s n (suc count) = ap suc (first_count s (suc n) count)

-- ---- clients

clients_count : (plan : Plan) (images : List Image) (c count : ℕ) → length (first_clients plan images c count) ≡ count
clients_count plan images c zero = refl
clients_count plan images c (suc count) = ap suc (clients_count plan images (suc c) count)

pub each_client : (P : ClientState → Type 0) (plan : Plan) (images : List Image) → ((c : ℕ) → P (first_client plan images c)) → (c count : ℕ) → Each P (first_clients plan images c count)
each_client P plan images all c zero = tt
each_client P plan images all c (suc count) = (all c, each_client P plan images all (suc c) count)

pub client_at : (plan : Plan) (images : List Image) (c count k : ℕ) → k < count → slice_get (first_clients plan images c count) k ≡ Some (first_client plan images (c + k))
client_at plan images c zero k low = absurd (omega (arith, low))
client_at plan images c (suc count) zero low = ap (λ n. Some (first_client plan images n)) (omega arith)
client_at plan images c (suc count) (suc k) low = client_at plan images (suc c) count k (omega (arith, low)) ∙ ap (λ n. Some (first_client plan images n)) (omega arith)

pub client_is : (plan : Plan) (images : List Image) (c count k : ℕ) (x : ClientState) → slice_get (first_clients plan images c count) k ≡ Some x → (k < count) × (x ≡ first_client plan images (c + k))
client_is plan images c zero k x e = absurd (cc)
client_is plan images c (suc count) zero x e =
    let same : first_client plan images c ≡ x = cc in
    (omega arith, sym same ∙ ap (first_client plan images) (omega arith))
client_is plan images c (suc count) (suc k) x e =
    let r = client_is plan images (suc c) count k x e in
    (let low = r.0 in omega (arith, low), r.1 ∙ ap (first_client plan images) (omega arith))

-- ---- no request is asked

abbrev IsNew : Request → Type 0
IsNew q = q.asking ≡ NotAsked

abbrev new : RequestPlan → Request
new q = record { plan = q; asking = NotAsked }

all_new : (requests : List RequestPlan) → Each IsNew (map new requests)
all_new [] = tt
all_new (q ∷ requests) = (refl, all_new requests)

found_new : (requests : List Request) (r : ℕ) → Each IsNew requests → asking_in (find requests r) ≡ NotAsked
found_new [] r h = refl
found_new (q ∷ requests) r h = by_bool (nat_eq r q.plan.number)
    (λ t. ap (λ b. asking_in (if b then Some q else find requests r)) t ∙ h.0)
    (λ t. ap (λ b. asking_in (if b then Some q else find requests r)) t ∙ found_new requests r h.1)

new_at : (clients : List ClientState) (c r : ℕ) → Each (λ (k : ClientState). Each IsNew k.requests) clients → asking_in (request_at clients c r) ≡ NotAsked
new_at [] c r h = refl
new_at (k ∷ clients) zero r h = found_new k.requests r h.0
new_at (k ∷ clients) (suc c) r h = new_at clients c r h.1

askings_new : (clients : List ClientState) (r : ℕ) (homes : List ℕ) → Each (λ (k : ClientState). Each IsNew k.requests) clients → askings r homes clients ≡ replicate (length homes) NotAsked
askings_new clients r [] h = refl
askings_new clients r (home ∷ homes) h =
    ap (λ a. a ∷ askings (suc r) homes clients) (new_at clients home r h) ∙ ap (λ k. NotAsked ∷ k) (askings_new clients (suc r) homes h)

pub world_is : (s : Scenario) (images : List Image) (members : List Member) → map (λ (m : Member). m.part) members ≡ first_parts s images 0 (s.plan).nodes → world_of (first_scene s images members) ≡ start_of s
world_is s images members e =
    ap (λ nodes. record (start_of s) { nodes = nodes; asking = askings 0 (map (λ q. q.client) (s.plan).requests) (first_clients s.plan images 0 (s.plan).clients) }) (nodes_same images members (first_nodes s 0 (s.plan).nodes) e)
    ∙ ap (λ k. record (start_of s) { asking = k }) (askings_new (first_clients s.plan images 0 (s.plan).clients) 0 (map (λ q. q.client) (s.plan).requests) (each_client (λ (k : ClientState). Each IsNew k.requests) s.plan images (λ c. all_new (requests_by c (s.plan).requests)) 0 (s.plan).clients))
    ∙ ap (λ n. record (start_of s) { asking = replicate n NotAsked }) (length-map (s.plan).requests (λ q. q.client))

-- ---- each request is at its client, and at no other

abbrev Numbered : ℕ → List RequestPlan → Type 0
Numbered k requests = (i : ℕ) (q : RequestPlan) → slice_get requests i ≡ Some q → q.number ≡ k + i

numbered_tail : (k : ℕ) (q : RequestPlan) (requests : List RequestPlan) → Numbered k (q ∷ requests) → Numbered (suc k) requests
numbered_tail k q requests f = λ i x e. (let h = f (suc i) x e in omega (arith, h))

-- a front request is the client's, or it is not
keep : (c : ℕ) (q : RequestPlan) (requests : List RequestPlan) → nat_eq q.client c ≡ true → requests_by c (q ∷ requests) ≡ q ∷ requests_by c requests
keep c q requests t = ap (λ b. if b then q ∷ requests_by c requests else requests_by c requests) t

pass : (c : ℕ) (q : RequestPlan) (requests : List RequestPlan) → nat_eq q.client c ≡ false → requests_by c (q ∷ requests) ≡ requests_by c requests
pass c q requests t = ap (λ b. if b then q ∷ requests_by c requests else requests_by c requests) t

find_here : (q : Request) (qs : List Request) (r : ℕ) → nat_eq r q.plan.number ≡ true → find (q ∷ qs) r ≡ Some q
find_here q qs r t = ap (λ b. if b then Some q else find qs r) t

find_later : (q : Request) (qs : List Request) (r : ℕ) → nat_eq r q.plan.number ≡ false → find (q ∷ qs) r ≡ find qs r
find_later q qs r t = ap (λ b. if b then Some q else find qs r) t

pub find_own : (c k : ℕ) (requests : List RequestPlan) (i : ℕ) (q : RequestPlan) → Numbered k requests → slice_get requests i ≡ Some q → q.client ≡ c → find (map new (requests_by c requests)) (k + i) ≡ Some (new q)
find_own c k [] i q f e own = absurd (cc)
find_own c k (x ∷ requests) zero q f e own =
    let same : x ≡ q = cc in
    let is = f zero x refl in
    ap (λ qs. find (map new qs) (k + zero)) (keep c x requests (let mine : x.client ≡ c = ap (λ (z : RequestPlan). z.client) same ∙ own in grind arith))
    ∙ find_here (new x) (map new (requests_by c requests)) (k + zero) (grind (arith, is)) ∙ ap (λ z. Some (new z)) same
find_own c k (x ∷ requests) (suc i) q f e own =
    let rest = find_own c (suc k) requests i q (numbered_tail k x requests f) e own in
    let is = f zero x refl in
    let next : suc k + i ≡ k + suc i = omega arith in
    by_bool (nat_eq x.client c)
    (λ t. ap (λ qs. find (map new qs) (k + suc i)) (keep c x requests t) ∙ find_later (new x) (map new (requests_by c requests)) (k + suc i) (grind (arith, is)) ∙ ap (find (map new (requests_by c requests))) (sym next) ∙ rest)
    (λ t. ap (λ qs. find (map new qs) (k + suc i)) (pass c x requests t) ∙ ap (find (map new (requests_by c requests))) (sym next) ∙ rest)

-- a request that a client has, by its place
pub record IsOwn (c k : ℕ) (requests : List RequestPlan) (r : ℕ) (x : Request) : Type 0 where
  pub place : ℕ
  pub plan : RequestPlan
  pub stands : slice_get requests place ≡ Some plan
  pub mine : plan.client ≡ c
  pub number : r ≡ k + place
  pub is : x ≡ new plan

own_later : (c k : ℕ) (q : RequestPlan) (requests : List RequestPlan) (r : ℕ) (x : Request) → IsOwn c (suc k) requests r x → IsOwn c k (q ∷ requests) r x
own_later c k q requests r x o = record { place = suc o.place; plan = o.plan; stands = o.stands; mine = o.mine; number = o.number ∙ omega arith; is = o.is }

pub own_found : (c k : ℕ) (requests : List RequestPlan) (r : ℕ) (x : Request) → Numbered k requests → find (map new (requests_by c requests)) r ≡ Some x → IsOwn c k requests r x
own_found c k [] r x f e = absurd (cc)
own_found c k (q ∷ requests) r x f e =
    let is = f zero q refl in
    by_bool (nat_eq q.client c)
    (λ t. let here = ap (λ qs. find (map new qs) r) (keep c q requests t) in
    by_bool (nat_eq r q.number)
    (λ a. (let same : Some (new q) ≡ Some x = sym (find_here (new q) (map new (requests_by c requests)) r a) ∙ sym here ∙ e in
    record { place = zero; plan = q; stands = refl; mine = eqb-true q.client c t; number = eqb-true r q.number a ∙ is; is = cc }))
    (λ a. own_later c k q requests r x (own_found c (suc k) requests r x (numbered_tail k q requests f) (sym (find_later (new q) (map new (requests_by c requests)) r a) ∙ sym here ∙ e))))
    (λ t. own_later c k q requests r x (own_found c (suc k) requests r x (numbered_tail k q requests f) (sym (ap (λ qs. find (map new qs) r) (pass c q requests t)) ∙ e)))

pub numbered_all : (s : Scenario) → IsRunnable s → Numbered 0 (s.plan).requests
numbered_all s h = λ i q e. h.requests.numbered i q e ∙ omega arith

-- the request of a place, whose home stands there
pub home_of : (requests : List RequestPlan) (r c : ℕ) → slice_get (map (λ (q : RequestPlan). q.client) requests) r ≡ Some c → (q : RequestPlan) × (slice_get requests r ≡ Some q) × (q.client ≡ c)
home_of [] r c e = absurd (cc)
home_of (q ∷ requests) zero c e = (q, refl, cc)
home_of (q ∷ requests) (suc r) c e = home_of requests r c e

home_at : (requests : List RequestPlan) (r : ℕ) (q : RequestPlan) → slice_get requests r ≡ Some q → slice_get (map (λ (q : RequestPlan). q.client) requests) r ≡ Some q.client
home_at [] r q e = absurd (cc)
home_at (x ∷ requests) zero q e = let same : x ≡ q = cc in ap (λ (z : RequestPlan). Some z.client) same
home_at (x ∷ requests) (suc r) q e = home_at requests r q e

some_of : {A : Type 0} (o : Option A) → IsSome o → (x : A) × (o ≡ Some x)
some_of None h = absurd (cc)
some_of (Some x) h = (x, refl)

homes_have : (s : Scenario) (images : List Image) → IsRunnable s → (r c : ℕ) → slice_get (map (λ (q : RequestPlan). q.client) (s.plan).requests) r ≡ Some c → HasAt (first_clients s.plan images 0 (s.plan).clients) c r
homes_have s images h r c e =
    let q = home_of (s.plan).requests r c e in
    let low = all_at (λ (q : RequestPlan). q.client < (s.plan).clients) (s.plan).requests r q.0 h.requests.asked q.1 in
    let here = q.2 in
    let there = find_own c 0 (s.plan).requests r q.0 (numbered_all s h) q.1 q.2 in (
      first_client s.plan images c,
      client_at s.plan images 0 (s.plan).clients c (omega (arith, low, here)) ∙ ap (λ n. Some (first_client s.plan images n)) (omega arith),
      subst IsSome (sym there ∙ ap (find (map new (requests_by c (s.plan).requests))) (omega arith)) (some_is (new q.0)),
    )
  where
    some_is : (x : Request) → IsSome (Some x)
    some_is x = search rules

have_homes : (s : Scenario) (images : List Image) → IsRunnable s → (r c : ℕ) → HasAt (first_clients s.plan images 0 (s.plan).clients) c r → slice_get (map (λ (q : RequestPlan). q.client) (s.plan).requests) r ≡ Some c
have_homes s images h r c (k, stands, has) =
    let is = client_is s.plan images 0 (s.plan).clients c k stands in
    let x = some_of (find k.requests r) has in
    let own = own_found c 0 (s.plan).requests r x.0 (numbered_all s h) (ap (λ (z : ClientState). find z.requests r) (sym (is.1 ∙ ap (first_client s.plan images) (omega arith))) ∙ x.1) in
    let number = own.number in
    ap (slice_get (map (λ (q : RequestPlan). q.client) (s.plan).requests)) (omega (arith, number)) ∙ home_at (s.plan).requests own.place own.plan own.stands ∙ ap Some own.mine

each_owner : (nodes : ℕ) (regions : List PlanRegion) → All (λ (r : PlanRegion). r.node < nodes) regions → Each (λ o. o < nodes) (map (λ (r : PlanRegion). r.node) regions)
each_owner nodes [] h = tt
each_owner nodes (r ∷ regions) h = (all_head (λ (r : PlanRegion). r.node < nodes) r regions h, each_owner nodes regions (all_tail (λ (r : PlanRegion). r.node < nodes) r regions h))

pub members_count : (s : Scenario) (images : List Image) (members : List Member) → map (λ (m : Member). m.part) members ≡ first_parts s images 0 (s.plan).nodes → length members ≡ (s.plan).nodes
members_count s images members e = sym (length-map members (λ (m : Member). m.part)) ∙ ap length e ∙ length-map (first_nodes s 0 (s.plan).nodes) (with_images images) ∙ first_count s 0 (s.plan).nodes

pub scene_is : (s : Scenario) (images : List Image) (members : List Member) → IsRunnable s → map (λ (m : Member). m.part) members ≡ first_parts s images 0 (s.plan).nodes → IsScene (first_scene s images members)
scene_is s images members h e = record {
  switch = record {
    known = sym (clients_count s.plan images 0 (s.plan).clients);
    owned = length-map (s.plan).regions (λ (r : PlanRegion). r.node) ∙ sym (length-map (s.plan).regions (λ (r : PlanRegion). r.span));
    owners = subst (λ n. Each (λ o. o < n) (map (λ (r : PlanRegion). r.node) (s.plan).regions)) (sym (members_count s images members e)) (each_owner (s.plan).nodes (s.plan).regions h.regions.placed);
  };
  nodes = nodes_have images members (first_nodes s 0 (s.plan).nodes) e;
  clients = each_client (λ (k : ClientState). k.images ≡ images) s.plan images (λ c. refl) 0 (s.plan).clients;
  homes = homes_have s images h;
  owned = have_homes s images h;
  letters = tt;
}

-- ---- as the parts of a world give it

pub parts_same : {A : Type 0} (state : A → PartState) (rest : A → ℕ) (plain : A → Bool) (nodes : List A) → map (λ (m : Member). m.part) (map (λ n. record { part = state n; rest = rest n; plain = plain n }) nodes) ≡ map state nodes
parts_same state rest plain [] = refl
parts_same state rest plain (n ∷ nodes) = ap (λ k. state n ∷ k) (parts_same state rest plain nodes)
