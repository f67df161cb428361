-- A client's request, as the laws of runs see it.
use Rattle.std.specs.Prelude.{◌≡◌, ℕ, List, [], ◌∷◌, Option, Some, None}
use Rattle.pulse_base.specs.declared.answer.Answer.{Answer}
use Rattle.pulse_base.specs.declared.answer.Answer.TheVariants as answer
use Rattle.frame_codec.specs.declared.frame.Leg.{Leg}
use Rattle.run_rules.specs.declared.client.Terms.{Terms}
use Rattle.run_rules.specs.declared.client.Asking.{Asking}
use Rattle.run_rules.specs.declared.client.Asking.TheVariants.{NotAsked, Waiting, Answered}
use Rattle.run_rules.specs.declared.client.Asked.{Asked}
use Rattle.run_rules.specs.declared.client.Asked.TheVariants as asked
use Rattle.run_rules.specs.declared.client.Ticked.{Ticked}
use Rattle.run_rules.specs.declared.client.Ticked.TheVariants as ticked
use Rattle.run_rules.specs.declared.client.Heard.{Heard}
use Rattle.run_rules.specs.declared.client.Heard.TheVariants as heard
use Rattle.run_laws.specs.Plan as p
use Rattle.run_laws.specs.Flat as f
use Rattle.run_laws.specs.Client as c
use Rattle.run_laws.specs.World as w
use Rattle.run_views.specs.Frames.{kind_view, leg_view}
use Rattle.run_views.specs.Setting.{Setting, IsLegOf}

-- the terms of a request's client
abbrev pub terms_of : Setting → ℕ → Terms
terms_of u r = record { client = u.client r; budget = u.budget; rounds = u.rounds; tries = u.tries }

-- no request is answered with Unasked or Waiting
abbrev pub asking_view : Asking → c.Asking
asking_view NotAsked = c.NotAsked
asking_view (Waiting leg accepted ticks) = c.Asked (leg_view leg) accepted ticks
asking_view (Answered (answer.Done pad count)) = c.Answered (f.DoneWith pad count)
asking_view (Answered (answer.Fault kind cur count)) = c.Answered (f.FaultAt (kind_view kind) cur count)
asking_view (Answered (answer.Spent count)) = c.Answered (f.Spent count)
asking_view (Answered answer.Silent) = c.Answered f.Silent
asking_view (Answered answer.Unasked) = c.NotAsked
asking_view (Answered answer.Waiting) = c.NotAsked

-- a leg that a client sends goes to the switch
abbrev pub sent_leg : Option Leg → List w.Letter
sent_leg None = []
sent_leg (Some l) = w.to_switch (p.AsLeg (leg_view l)) ∷ []

abbrev pub asked_leg : Asked → Option Leg
asked_leg (asked.Sent l) = Some l
asked_leg asked.Answered = None
asked_leg asked.Again = None

abbrev pub ticked_leg : Ticked → Option Leg
ticked_leg (ticked.Resent l) = Some l
ticked_leg ticked.Silent = None
ticked_leg ticked.Nothing = None

abbrev pub heard_leg : Heard → Option Leg
heard_leg heard.Answered = None
heard_leg (heard.Sent l) = Some l
heard_leg heard.Stale = None

-- what is always true of a request: it waits at a leg of its own, and its answer is one
abbrev pub IsAnswer : Answer → Type 0
IsAnswer (answer.Done pad count) = Unit {0}
IsAnswer (answer.Fault kind cur count) = Unit {0}
IsAnswer (answer.Spent count) = Unit {0}
IsAnswer answer.Silent = Unit {0}
IsAnswer answer.Unasked = ⊥
IsAnswer answer.Waiting = ⊥

abbrev pub IsAskingOf : Setting → ℕ → Asking → Type 0
IsAskingOf u r NotAsked = Unit {0}
IsAskingOf u r (Waiting l accepted ticks) = (l.request ≡ r) × IsLegOf u l
IsAskingOf u r (Answered a) = IsAnswer a
