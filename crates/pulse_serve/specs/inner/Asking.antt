-- What the calls of a client's loop did, for the proofs alone.
use Rattle.std.specs.Prelude.{◌≡◌, ℕ, List, [], ◌∷◌, ◌++◌, take, Option, Result, Ok, Err}
use Rattle.pulse_base.specs.Link.{Sent, Traffic}
use Rattle.run_rules.specs.Waiting.{Each}
use Rattle.client_core.specs.Requests.{ClientState}
use Rattle.pulse_serve.specs.declared.frames.Came.{Came}
use Rattle.pulse_serve.specs.Frames.{Grew, Posts}
use Rattle.pulse_serve.specs.Runs.{TurnOn, Runs}
use Rattle.pulse_serve.specs.ClientRun.{numbers, HasAnswer, Makes, MakesUpTo}

-- one request was asked or ticked, and its leg sent where there is one
abbrev pub DoesOne : {E : Type 0} → TurnOn ClientState ℕ → ClientState → ℕ → ClientState → Option Traffic → Option Traffic → Result (Unit {0}) E → Type 0
DoesOne Turn c number now a b r = (ss : List Sent) × Turn c number now ss × Posts a b ss r

-- all requests were, in order; or some, of which the leg of the last was lost
abbrev pub DoesAll : {E : Type 0} → TurnOn ClientState ℕ → ClientState → ClientState → Option Traffic → Option Traffic → Result (Unit {0}) E → Type 0
DoesAll Turn c now a b (Ok u) = (ss : List Sent) × Grew a b [] ss × Runs Turn c (numbers c) now ss
DoesAll Turn c now a b (Err e) = (ss : List Sent) × Grew a b [] ss × (lost : Sent) × (count : ℕ) × Runs Turn c (take count (numbers c)) now (ss ++ lost ∷ [])

-- what an item made of a client
abbrev pub Hearing : {E : Type 0} → ℕ → ClientState → Came → ClientState → Option Traffic → Option Traffic → Result (Unit {0}) E → Type 0
Hearing port c item now a b (Ok u) = (ss : List Sent) × Grew a b [] ss × Makes port c item now ss
Hearing port c item now a b (Err e) = (ss : List Sent) × Grew a b [] ss × (lost : Sent) × MakesUpTo port c item now (ss ++ lost ∷ [])

-- the requests before a place have their answers, and still do after a call
abbrev pub AnsweredBefore : ClientState → ℕ → Type 0
AnsweredBefore c place = Each (HasAnswer c) (take place (numbers c))

abbrev pub KeepsAnswers : ClientState → ClientState → Type 0
KeepsAnswers c now = (numbers now ≡ numbers c) × ((number : ℕ) → HasAnswer c number → HasAnswer now number)
