-- What holds of each request of a client, for the proofs alone.
use Rattle.std.specs.Prelude.{◌≡◌, ℕ, ◌<◌, ◌≤◌, List}
use Rattle.code_image.specs.declared.image.Image.{Image}
use Rattle.run_rules.specs.declared.client.Terms.{Terms}
use Rattle.run_rules.specs.declared.client.Asking.{Asking}
use Rattle.run_rules.specs.declared.client.Asking.TheVariants.{NotAsked, Waiting, Answered}
use Rattle.client_core.specs.declared.request.Request.{Request}
use Rattle.client_core.specs.Requests.{IsPlan}

pub record TermsFit (t : Terms) : Type 0 where
  pub budget : 1 ≤ t.budget
  pub rounds : 1 ≤ t.rounds

-- a request that waits has a round left, and its leg the full budget
abbrev pub AskingFits : Terms → Asking → Type 0
AskingFits t NotAsked = Unit {0}
AskingFits t (Waiting leg accepted ticks) = (accepted < t.rounds) × (leg.left ≡ t.budget)
AskingFits t (Answered answer) = Unit {0}

-- under its number stands a request of this client's
pub record EntryFits (t : Terms) (images : List Image) (e : ℕ × Request) : Type 0 where
  pub number : e.0 ≡ e.1.plan.number
  pub plan : IsPlan t.client images e.1.plan
  pub asking : AskingFits t e.1.asking

-- a rule's answer, and how the request stands then
abbrev pub Goes : {A : Type 0} → (old new : Request) → Asking × A → A → Type 0
Goes old new given answer = (new ≡ record old { asking = given.0 }) × (answer ≡ given.1)
