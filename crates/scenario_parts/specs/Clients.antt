-- The clients of a scenario before the first event.
use Rattle.std.specs.Prelude.{ℕ, zero, suc, List, [], ◌∷◌, filter, nat_eq}
use Rattle.pulse_base.specs.declared.plan.RequestPlan.{RequestPlan}
use Rattle.code_image.specs.declared.image.Image.{Image}
use Rattle.run_rules.specs.declared.client.Terms.{Terms}
use Rattle.client_core.specs.Requests.{ClientState, new_client}
use Rattle.scenario_text.specs.declared.plan.Plan.{Plan}

abbrev pub requests_by : ℕ → List RequestPlan → List RequestPlan
requests_by c requests = filter (λ q. nat_eq q.client c) requests

abbrev pub terms_of : Plan → ℕ → Terms
terms_of plan c = record { client = c; budget = plan.budget; rounds = plan.rounds; tries = plan.tries }

abbrev pub first_client : Plan → List Image → ℕ → ClientState
first_client plan images c = new_client (terms_of plan c) images (requests_by c plan.requests)

-- a count of clients, from client c on
abbrev pub first_clients : Plan → List Image → (c count : ℕ) → List ClientState
first_clients plan images c zero = []
first_clients plan images c (suc count) = first_client plan images c ∷ first_clients plan images (suc c) count
