-- The served run of a node.
use Rattle.std.specs.Prelude.{◌≡◌, ◌≢◌, ◌↔◌, ℕ, Bool, IsTrue, List, [], ◌∷◌, ◌++◌, Option, Some, None, ◌⊎◌}
use Rattle.pulse_base.specs.Link.{Receipt, Sent}
use Rattle.frame_codec.specs.declared.frame.Back.{Back}
use Rattle.frame_codec.specs.declared.frame.Frame.TheVariants as frames
use Rattle.frame_codec.specs.declared.frame.Leg.{Leg}
use Rattle.run_rules.specs.declared.node.Accepted.{Accepted}
use Rattle.run_rules.specs.declared.node.Accepted.TheVariants as accepted
use Rattle.run_rules.specs.Accepting.{accept}
use Rattle.node_core.specs.declared.part.Turned.{Turned}
use Rattle.node_core.specs.declared.part.Turned.TheVariants as turned
use Rattle.node_core.specs.Part.{PartState, HasTurned, IsFirst}
use Rattle.pulse_serve.specs.declared.frames.Came.{Came}
use Rattle.pulse_serve.specs.declared.frames.Came.TheVariants as came
use Rattle.pulse_serve.specs.Frames.{Says, letter}
use Rattle.pulse_serve.specs.Runs.{Loop}

-- it waits for an item exactly where no leg is live
abbrev pub WaitsIdle : PartState → Receipt → Type 0
WaitsIdle p r = IsTrue r.wait ↔ (p.node.live ≡ [])

-- a back that a leg is answered with, and a leg that is elsewhere, go to the switch
abbrev pub answers : ℕ → Leg → Accepted → List Sent
answers port l (accepted.Answer back) = letter port (frames.Back back) ∷ []
answers port l accepted.Elsewhere = letter port (frames.Leg l) ∷ []
answers port l accepted.Foreign = []
answers port l accepted.Running = []
answers port l accepted.Full = []
answers port l accepted.Started = []
answers port l accepted.Memory = []

-- a leg is accepted; anything else changes nothing
abbrev pub after_item : PartState → Came → PartState
after_item p (came.Frame (frames.Leg l)) = record p { node = (accept p.node l).0 }
after_item p (came.Frame (frames.Back b)) = p
after_item p (came.Frame frames.Stop) = p
after_item p came.Gap = p
after_item p came.Noise = p

abbrev pub answered : ℕ → PartState → Came → List Sent
answered port p (came.Frame (frames.Leg l)) = answers port l (accept p.node l).1
answered port p (came.Frame (frames.Back b)) = []
answered port p (came.Frame frames.Stop) = []
answered port p came.Gap = []
answered port p came.Noise = []

abbrev pub back_sent : ℕ → Option Back → List Sent
back_sent port None = []
back_sent port (Some back) = letter port (frames.Back back) ∷ []

-- the back of a leg that ended goes to the switch
abbrev pub turn_sent : ℕ → Turned → List Sent
turn_sent port (turned.Iterated key back) = back_sent port back
turn_sent port (turned.Part key) = []
turn_sent port (turned.Waits key) = []
turn_sent port turned.Idle = []

-- an item, which is no Stop, and what it made of the node
pub record NodeHears (port : ℕ) (p : PartState) (r : Receipt) (now : PartState) (ss : List Sent) : Type 0 where
  pub waits : WaitsIdle p r
  pub item : Came
  pub says : Says r.item item
  pub goes_on : item ≢ came.Frame frames.Stop
  pub after : now ≡ after_item p item
  pub sent : ss ≡ answered port p item

-- one turn of the node; a plain one iterates its first live leg
pub record NodeSteps (plain : Bool) (port : ℕ) (p now : PartState) (ss : List Sent) : Type 0 where
  pub turned : Turned
  pub turns : HasTurned turned p now
  pub first : IsTrue plain → IsFirst turned p
  pub sent : ss ≡ turn_sent port turned

-- a turn of the loop: an item, and then a turn of the node
pub record NodeTurn (plain : Bool) (port : ℕ) (p : PartState) (r : Receipt) (now : PartState) (ss : List Sent) : Type 0 where
  pub mid : PartState
  pub early : List Sent
  pub hears : NodeHears port p r mid early
  pub late : List Sent
  pub steps : NodeSteps plain port mid now late
  pub sent : ss ≡ early ++ late

pub record NodeStops (p : PartState) (r : Receipt) : Type 0 where
  pub waits : WaitsIdle p r
  pub says : Says r.item (came.Frame frames.Stop)

-- a leg that would be started
pub record WouldStart (p : PartState) (r : Receipt) : Type 0 where
  pub waits : WaitsIdle p r
  pub leg : Leg
  pub says : Says r.item (came.Frame (frames.Leg leg))
  pub starts : (accept p.node leg).1 ≡ accepted.Started

abbrev pub node_loop : Bool → ℕ → Loop PartState
node_loop plain port = record {
  Turn = NodeTurn plain port;
  UpTo = λ p r now ss. NodeHears port p r now ss ⊎ NodeTurn plain port p r now ss;
  IsStop = NodeStops;
  WantsMemory = WouldStart;
}
