-- A client and its requests, each known by its number.
use Rattle.std.specs.Prelude.{◌≡◌, ℕ, List, [], ◌∷◌, length, map, slice_get, Option, Some, None, IsSome, All, nat_eq, if◌then◌else◌}
use Rattle.std.specs.List.{IsDistinct}
use Rattle.pulse_base.specs.declared.plan.RequestPlan.{RequestPlan}
use Rattle.code_image.specs.declared.image.Image.{Image}
use Rattle.run_rules.specs.declared.client.Terms.{Terms}
use Rattle.run_rules.specs.declared.client.Asking.{Asking}
use Rattle.run_rules.specs.declared.client.Asking.TheVariants.{NotAsked}
use Rattle.client_core.specs.declared.request.Request.{Request}

-- what its requests share, the images of the programs, and its requests in their order
pub record ClientState : Type 0 where
  pub terms : Terms
  pub images : List Image
  pub requests : List Request

-- ---- one request among all

-- the request of a number
abbrev pub find : List Request → ℕ → Option Request
find [] number = None
find (q ∷ qs) number = if nat_eq number q.plan.number then Some q else find qs number

abbrev pub Has : ClientState → ℕ → Type 0
Has c number = IsSome (find c.requests number)

-- the request of a number stands so now, and all others as they did
abbrev pub put : List Request → ℕ → Asking → List Request
put [] number asking = []
put (q ∷ qs) number asking = if nat_eq number q.plan.number then record q { asking = asking } ∷ qs else q ∷ put qs number asking

abbrev pub with_asking : ClientState → ℕ → Asking → ClientState
with_asking c number asking = record c { requests = put c.requests number asking }

-- ---- a new client

abbrev pub numbers : List RequestPlan → List ℕ
numbers plans = map (λ p. p.number) plans

-- a request of this client's, with as many arguments as the image of its iterator takes
pub record IsPlan (client : ℕ) (images : List Image) (plan : RequestPlan) : Type 0 where
  pub own : plan.client ≡ client
  pub image : Image
  pub program : slice_get images plan.iter ≡ Some image
  pub args : length plan.args.items ≡ image.args

-- a client's requests differ in their numbers
pub record ArePlans (client : ℕ) (images : List Image) (plans : List RequestPlan) : Type 0 where
  pub each : All (IsPlan client images) plans
  pub differ : IsDistinct nat_eq (numbers plans)

-- none of its requests is asked
abbrev pub new_client : Terms → List Image → List RequestPlan → ClientState
new_client terms images plans = record { terms = terms; images = images; requests = map (λ p. record { plan = p; asking = NotAsked }) plans }
