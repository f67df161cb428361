-- A world of nodes, clients and letters, seen as the state of an event run.
use Rattle.std.specs.Prelude.{◌≡◌, ℕ, suc, ◌≤◌, Bool, List, [], ◌∷◌, ◌++◌, length, map, Option, Some, None, slice_get, slice_index_or}
use Rattle.code_image.specs.declared.image.Image.{Image}
use Rattle.pulse_base.specs.declared.plan.RequestPlan.{RequestPlan}
use Rattle.run_rules.specs.declared.client.Terms.{Terms}
use Rattle.run_rules.specs.declared.client.Asking.{Asking}
use Rattle.run_rules.specs.declared.client.Asking.TheVariants.{NotAsked}
use Rattle.run_rules.specs.Node.{NodeState}
use Rattle.run_rules.specs.Switch.{SwitchState}
use Rattle.node_core.specs.Part.{PartState, HoldsRange, IsRange}
use Rattle.client_core.specs.declared.request.Request.{Request}
use Rattle.client_core.specs.Requests.{ClientState, find}
use Rattle.event_run.specs.World.{WorldState}
use Rattle.world_core.specs.declared.letter.Letter.{Letter}
use Rattle.world_core.specs.Letters.{letter_view}

-- a node of a world: its state, a number that its turns lower, and whether each of its turns is an iteration of the first live leg
pub record Member : Type 0 where
  pub part : PartState
  pub rest : ℕ
  pub plain : Bool

-- the switch, the images of the programs, the client of each request, and what events change
pub record Scene : Type 0 where
  pub switch : SwitchState
  pub images : List Image
  pub homes : List ℕ
  pub nodes : List Member
  pub clients : List ClientState
  pub letters : List Letter
  pub order : List ℕ

abbrev pub node_of : Member → NodeState
node_of m = m.part.node

abbrev pub nodes_of : List Member → List NodeState
nodes_of nodes = map node_of nodes

-- how a request stands at its client
abbrev pub asking_in : Option Request → Asking
asking_in None = NotAsked
asking_in (Some q) = q.asking

abbrev pub requests_in : Option ClientState → List Request
requests_in None = []
requests_in (Some c) = c.requests

abbrev pub request_at : List ClientState → (client number : ℕ) → Option Request
request_at clients client number = find (requests_in (slice_get clients client)) number

-- how each request stands at its client, from request r on
abbrev pub askings : ℕ → (homes : List ℕ) → List ClientState → List Asking
askings r [] clients = []
askings r (home ∷ homes) clients = asking_in (request_at clients home r) ∷ askings (suc r) homes clients

abbrev pub world_of : Scene → WorldState
world_of s = record { nodes = nodes_of s.nodes; asking = askings 0 s.homes s.clients; letters = map letter_view s.letters; order = s.order }

-- ---- regions

-- node n has the region of this number, and so many bytes of it from `at` on
abbrev pub HoldsAt : List Member → (n region at count : ℕ) → Type 0
HoldsAt nodes n region at count = (m : Member) → slice_get nodes n ≡ Some m → HoldsRange m.part region at count

-- these are the bytes of that region from `at` on
abbrev pub ReadsAt : List Member → (n region at : ℕ) → List ℕ → Type 0
ReadsAt nodes n region at bytes = (m : Member) → slice_get nodes n ≡ Some m → IsRange m.part region at bytes

-- the node that owns region i
abbrev pub owner_in : Scene → ℕ → ℕ
owner_in s i = slice_index_or s.switch.owners i 0

-- ---- what events keep

-- what lasts of a client: all but how its requests stand
pub record Lasting : Type 0 where
  pub terms : Terms
  pub images : List Image
  pub plans : List RequestPlan

abbrev pub lasting_of : ClientState → Lasting
lasting_of k = record { terms = k.terms; images = k.images; plans = map (λ q. q.plan) k.requests }

-- what no event changes: switch, images, the home of each request, the terms and the plans of clients, and which nodes are plain.
-- At most one letter is sent
pub record Stays (old new : Scene) : Type 0 where
  pub switch : new.switch ≡ old.switch
  pub images : new.images ≡ old.images
  pub homes : new.homes ≡ old.homes
  pub clients : map lasting_of new.clients ≡ map lasting_of old.clients
  pub plain : map (λ m. m.plain) new.nodes ≡ map (λ m. m.plain) old.nodes
  pub sent : List Letter
  pub few : length sent ≤ 1
  pub letters : new.letters ≡ old.letters ++ sent

-- nothing changed; of the numbers that turns lower nothing is said
pub record IsAsBefore (old new : Scene) : Type 0 where
  pub nodes : map (λ m. m.part) new.nodes ≡ map (λ m. m.part) old.nodes
  pub plain : map (λ m. m.plain) new.nodes ≡ map (λ m. m.plain) old.nodes
  pub others : new ≡ record old { nodes = new.nodes }
