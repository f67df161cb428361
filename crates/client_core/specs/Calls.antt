-- What the calls of a client are held to.
use Rattle.std.specs.Prelude.{◌≡◌, ℕ, Option, Some, None}
use Rattle.frame_codec.specs.declared.frame.Back.{Back}
use Rattle.frame_codec.specs.declared.frame.Leg.{Leg}
use Rattle.frame_codec.specs.declared.frame.Frame.TheVariants as frame
use Rattle.frame_codec.specs.Spelling.{MeetsRules}
use Rattle.run_rules.specs.declared.client.Asking.{Asking}
use Rattle.run_rules.specs.declared.client.Asked.{Asked}
use Rattle.run_rules.specs.declared.client.Asked.TheVariants as asked
use Rattle.run_rules.specs.declared.client.Ticked.{Ticked}
use Rattle.run_rules.specs.declared.client.Ticked.TheVariants as ticked
use Rattle.run_rules.specs.declared.client.Heard.{Heard}
use Rattle.run_rules.specs.declared.client.Heard.TheVariants as heard
use Rattle.run_rules.specs.Client.{ask, hear}
use Rattle.client_core.specs.declared.request.Request.{Request}
use Rattle.client_core.specs.Begins.{begin_of}
use Rattle.client_core.specs.Requests.{ClientState, find, with_asking}

-- the request of a number does by a rule, and nothing else of the client changes: the rule gives how it stands then,
-- and the answer
pub record Does {A : Type 0} (old new : ClientState) (number : ℕ) (rule : Request → Asking × A) (answer : A) : Type 0 where
  pub request : Request
  pub found : find old.requests number ≡ Some request
  pub answers : answer ≡ (rule request).1
  pub leaves : new ≡ with_asking old number (rule request).0

-- asking it runs the init of its iterator
abbrev pub asks : ClientState → Request → Asking × Asked
asks c q = ask c.terms q.plan.number q.plan.iter (begin_of c.images q.plan) q.asking

-- a back is heard by the request that it names; where there is none it is stale
abbrev pub Hears : (old new : ClientState) → Back → Heard → Option Request → Type 0
Hears old new b answer None = (answer ≡ heard.Stale) × (new ≡ old)
Hears old new b answer (Some q) = (answer ≡ (hear old.terms b q.asking).1) × (new ≡ with_asking old b.request (hear old.terms b q.asking).0)

-- ---- a leg that is to be sent meets the rules of a frame's fields

abbrev pub LegFits : Leg → Type 0
LegFits leg = MeetsRules (frame.Leg leg)

abbrev pub AskedFits : Asked → Type 0
AskedFits (asked.Sent leg) = LegFits leg
AskedFits asked.Answered = Unit {0}
AskedFits asked.Again = Unit {0}

abbrev pub TickedFits : Ticked → Type 0
TickedFits (ticked.Resent leg) = LegFits leg
TickedFits ticked.Silent = Unit {0}
TickedFits ticked.Nothing = Unit {0}

abbrev pub HeardFits : Heard → Type 0
HeardFits (heard.Sent leg) = LegFits leg
HeardFits heard.Answered = Unit {0}
HeardFits heard.Stale = Unit {0}
