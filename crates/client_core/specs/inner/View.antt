-- What holds of the fields of a client, and where a request stands among them, for the proofs alone.
use Rattle.std.specs.Prelude.{◌≡◌, ℕ, List, Option, Some, None, slice_get, slice_set}
use Rattle.std.specs.List.{AllByRecursion}
use Rattle.pulse_base.specs.declared.answer.Answer.{Answer}
use Rattle.pulse_base.specs.declared.answer.Answer.TheVariants as answer
use Rattle.code_image.specs.declared.image.Image.{Image}
use Rattle.run_rules.specs.declared.client.Terms.{Terms}
use Rattle.pulse_base.specs.declared.plan.RequestPlan.{RequestPlan}
use Rattle.run_rules.specs.declared.client.Asking.{Asking}
use Rattle.run_rules.specs.declared.client.Asking.TheVariants.{NotAsked}
use Rattle.client_core.specs.declared.request.Request.{Request}
use Rattle.client_core.specs.Requests.{find, put}
use Rattle.client_core.specs.inner.Standing.{TermsFit, EntryFits}

pub record IsClient (t : Terms) (images : List Image) (entries : List (ℕ × Request)) (unasked waiting : Answer) : Type 0 where
  pub terms : TermsFit t
  pub no_ask : unasked ≡ answer.Unasked
  pub no_answer : waiting ≡ answer.Waiting
  pub each : AllByRecursion (EntryFits t images) entries

-- the request of a number is the one at this place
pub record StandsAt (requests : List Request) (number place : ℕ) : Type 0 where
  pub request : Request
  pub at : slice_get requests place ≡ Some request
  pub found : find requests number ≡ Some request
  pub puts : (asking : Asking) → put requests number asking ≡ slice_set requests place (record request { asking = asking })

abbrev pub IsPlaceOf : List Request → ℕ → Option ℕ → Type 0
IsPlaceOf requests number None = find requests number ≡ None
IsPlaceOf requests number (Some place) = StandsAt requests number place

-- the entry of a request that is not asked
abbrev pub new_entry : RequestPlan → ℕ × Request
new_entry plan = (plan.number, record { plan = plan; asking = NotAsked })
