-- The served run of a client: the asks, and then a turn for each item while some request has no answer.
use Rattle.std.specs.Prelude.{◌≡◌, ◌≤◌, ℕ, true, List, [], ◌∷◌, ◌++◌, length, map, take, Option, Some, None, ◌⊎◌}
use Rattle.pulse_base.specs.Link.{Receipt, Sent}
use Rattle.frame_codec.specs.declared.frame.Back.{Back}
use Rattle.frame_codec.specs.declared.frame.Frame.TheVariants as frames
use Rattle.pulse_base.specs.declared.answer.Answer.{Answer}
use Rattle.pulse_base.specs.declared.answer.Answer.TheVariants as answer
use Rattle.run_rules.specs.declared.client.Asked.{Asked}
use Rattle.run_rules.specs.declared.client.Asked.TheVariants as asked
use Rattle.run_rules.specs.declared.client.Ticked.{Ticked}
use Rattle.run_rules.specs.declared.client.Ticked.TheVariants as ticked
use Rattle.run_rules.specs.declared.client.Heard.{Heard}
use Rattle.run_rules.specs.declared.client.Heard.TheVariants as heard
use Rattle.run_rules.specs.Client.{tick, answer_of}
use Rattle.run_rules.specs.Waiting.{Each}
use Rattle.client_core.specs.declared.request.Request.{Request}
use Rattle.client_core.specs.Requests.{ClientState, find}
use Rattle.client_core.specs.Calls.{Does, Hears, asks}
use Rattle.pulse_serve.specs.declared.frames.Came.{Came}
use Rattle.pulse_serve.specs.declared.frames.Came.TheVariants as came
use Rattle.pulse_serve.specs.declared.served.Served.{Served}
use Rattle.pulse_serve.specs.declared.served.Served.TheVariants as served
use Rattle.pulse_serve.specs.Frames.{Says, letter}
use Rattle.pulse_serve.specs.Runs.{Runs, Loop, Ended}

-- ---- requests

abbrev pub numbers : ClientState → List ℕ
numbers c = map (λ q. q.plan.number) c.requests

abbrev pub IsAnswer : Answer → Type 0
IsAnswer answer.Unasked = ⊥
IsAnswer answer.Waiting = ⊥
IsAnswer (answer.Done pad count) = Unit {0}
IsAnswer (answer.Fault kind cur count) = Unit {0}
IsAnswer (answer.Spent count) = Unit {0}
IsAnswer answer.Silent = Unit {0}

abbrev pub FindsAnswer : Option Request → Type 0
FindsAnswer None = ⊥
FindsAnswer (Some q) = IsAnswer (answer_of q.asking)

abbrev pub HasAnswer : ClientState → ℕ → Type 0
HasAnswer c number = FindsAnswer (find c.requests number)

abbrev pub AllAnswered : ClientState → Type 0
AllAnswered c = Each (HasAnswer c) (numbers c)

-- ---- one request: asked, or ticked. A tick of one that has its answer changes nothing

abbrev pub asked_sent : ℕ → Asked → List Sent
asked_sent port (asked.Sent leg) = letter port (frames.Leg leg) ∷ []
asked_sent port asked.Answered = []
asked_sent port asked.Again = []

abbrev pub Asks : ℕ → ClientState → ℕ → ClientState → List Sent → Type 0
Asks port c number now ss = (a : Asked) × Does c now number (asks c) a × (ss ≡ asked_sent port a)

abbrev pub ticked_sent : ℕ → Ticked → List Sent
ticked_sent port (ticked.Resent leg) = letter port (frames.Leg leg) ∷ []
ticked_sent port ticked.Silent = []
ticked_sent port ticked.Nothing = []

abbrev pub Ticks : ℕ → ClientState → ℕ → ClientState → List Sent → Type 0
Ticks port c number now ss = (t : Ticked) × Does c now number (λ q. tick c.terms q.asking) t × (ss ≡ ticked_sent port t)

-- ---- one turn

abbrev pub heard_sent : ℕ → Heard → List Sent
heard_sent port (heard.Sent leg) = letter port (frames.Leg leg) ∷ []
heard_sent port heard.Answered = []
heard_sent port heard.Stale = []

abbrev pub HearsBack : ℕ → ClientState → Back → ClientState → List Sent → Type 0
HearsBack port c b now ss = (h : Heard) × Hears c now b h (find c.requests b.request) × (ss ≡ heard_sent port h)

-- a gap ticks each request, in order; a back is heard; anything else changes nothing
abbrev pub Makes : ℕ → ClientState → Came → ClientState → List Sent → Type 0
Makes port c came.Gap now ss = Runs (Ticks port) c (numbers c) now ss
Makes port c came.Noise now ss = (now ≡ c) × (ss ≡ [])
Makes port c (came.Frame (frames.Leg l)) now ss = (now ≡ c) × (ss ≡ [])
Makes port c (came.Frame (frames.Back b)) now ss = HearsBack port c b now ss
Makes port c (came.Frame frames.Stop) now ss = (now ≡ c) × (ss ≡ [])

-- the same up to some tick
abbrev pub MakesUpTo : ℕ → ClientState → Came → ClientState → List Sent → Type 0
MakesUpTo port c came.Gap now ss = (count : ℕ) × Runs (Ticks port) c (take count (numbers c)) now ss
MakesUpTo port c came.Noise now ss = Makes port c came.Noise now ss
MakesUpTo port c (came.Frame f) now ss = Makes port c (came.Frame f) now ss

-- some request has no answer, and the client waits for an item
pub record ClientTurn (Does : ℕ → ClientState → Came → ClientState → List Sent → Type 0) (port : ℕ) (c : ClientState) (r : Receipt) (now : ClientState) (ss : List Sent) : Type 0 where
  pub unfinished : AllAnswered c → ⊥
  pub waits : r.wait ≡ true
  pub item : Came
  pub says : Says r.item item
  pub makes : Does port c item now ss

abbrev pub client_loop : ℕ → Loop ClientState
client_loop port = record { Turn = ClientTurn Makes port; UpTo = ClientTurn MakesUpTo port; IsStop = λ c r. ⊥; WantsMemory = λ c r. ⊥ }

-- ---- the whole

-- the turns end where all requests have their answers; or as those of each loop
abbrev pub TurnsEnd : ℕ → ℕ → Served → ClientState → List Receipt → ClientState → List Sent → Type 0
TurnsEnd port turns served.Stopped c rs now ss = Runs (ClientTurn Makes port) c rs now ss × AllAnswered now
TurnsEnd port turns served.TurnsUsed c rs now ss = Ended (client_loop port) turns served.TurnsUsed c rs now ss × (AllAnswered now → ⊥)
TurnsEnd port turns served.LinkFault c rs now ss = Ended (client_loop port) turns served.LinkFault c rs now ss
TurnsEnd port turns served.Memory c rs now ss = ⊥

-- all requests were asked, in order, and then turns were made
pub record AsksAll (port turns : ℕ) (result : Served) (c : ClientState) (rs : List Receipt) (now : ClientState) (ss : List Sent) : Type 0 where
  pub mid : ClientState
  pub early : List Sent
  pub asks : Runs (Asks port) c (numbers c) mid early
  pub late : List Sent
  pub turns_made : TurnsEnd port turns result mid rs now late
  pub sent : ss ≡ early ++ late

-- some requests were asked, in order, and the leg of the last was lost
pub record CutAsking (port : ℕ) (result : Served) (c : ClientState) (rs : List Receipt) (now : ClientState) (ss : List Sent) : Type 0 where
  pub fault : result ≡ served.LinkFault
  pub nothing : rs ≡ []
  pub lost : Sent
  pub count : ℕ
  pub asks : Runs (Asks port) c (take count (numbers c)) now (ss ++ lost ∷ [])

abbrev pub ServesClient : (port turns : ℕ) → Served → ClientState → List Receipt → ClientState → List Sent → Type 0
ServesClient port turns result c rs now ss = (length rs ≤ turns) × (AsksAll port turns result c rs now ss ⊎ CutAsking port result c rs now ss)
