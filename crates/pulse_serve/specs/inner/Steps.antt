-- What one turn of a loop did, for the proofs alone.
use Rattle.std.specs.Prelude.{◌≡◌, ℕ, Bool, IsTrue, Result, List, [], ◌∷◌, ◌++◌, Option, Some, None, ◌⊎◌}
use Rattle.pulse_base.specs.Link.{Receipt, Sent, Traffic}
use Rattle.frame_codec.specs.declared.frame.Frame.TheVariants as frames
use Rattle.frame_codec.specs.declared.frame.Leg.{Leg}
use Rattle.run_rules.specs.declared.node.Accepted.TheVariants as accepted
use Rattle.run_rules.specs.Accepting.{accept}
use Rattle.node_core.specs.declared.part.Turned.{Turned}
use Rattle.node_core.specs.Part.{PartState, HasTurned, IsFirst}
use Rattle.pulse_serve.specs.declared.frames.Came.{Came}
use Rattle.pulse_serve.specs.declared.frames.Came.TheVariants as came
use Rattle.pulse_serve.specs.Frames.{Grew, Posts}
use Rattle.pulse_serve.specs.NodeRun.{after_item, answered, turn_sent}
use Rattle.pulse_serve.specs.declared.served.Served.{Served}
use Rattle.pulse_serve.specs.declared.served.Served.TheVariants as served
use Rattle.pulse_serve.specs.Runs.{Loop}

-- a whole turn, or how the loop ended in it
abbrev pub Goes : {S : Type 0} → Loop S → Option Served → S → S → List Receipt → List Sent → Type 0
Goes loop None s now rs ss = (r : Receipt) × (rs ≡ r ∷ []) × loop.Turn s r now ss
Goes loop (Some served.Stopped) s now rs ss = (r : Receipt) × (rs ≡ r ∷ []) × (ss ≡ []) × (now ≡ s) × loop.IsStop s r
Goes loop (Some served.TurnsUsed) s now rs ss = ⊥
Goes loop (Some served.LinkFault) s now rs ss =
    ((rs ≡ []) × (ss ≡ []) × (now ≡ s)) ⊎ ((r : Receipt) × (lost : Sent) × (rs ≡ r ∷ []) × loop.UpTo s r now (ss ++ lost ∷ []))
Goes loop (Some served.Memory) s now rs ss = (r : Receipt) × (rs ≡ r ∷ []) × (ss ≡ []) × (now ≡ s) × loop.WantsMemory s r

-- what a node did with an item: it went on, or ended the loop
abbrev pub Heard : ℕ → PartState → Came → PartState → Option Traffic → Option Traffic → Option Served → Type 0
Heard port p item now a b None = (now ≡ after_item p item) × Grew a b [] (answered port p item)
Heard port p item now a b (Some served.Stopped) = ⊥
Heard port p item now a b (Some served.TurnsUsed) = ⊥
Heard port p item now a b (Some served.LinkFault) = (now ≡ after_item p item) × ((lost : Sent) × (answered port p item ≡ lost ∷ []) × Grew a b [] [])
Heard port p item now a b (Some served.Memory) =
    (leg : Leg) × (item ≡ came.Frame (frames.Leg leg)) × ((accept p.node leg).1 ≡ accepted.Started) × (now ≡ p) × Grew a b [] []

-- one turn of a node
abbrev pub Stepped : {E : Type 0} → Bool → ℕ → PartState → PartState → Option Traffic → Option Traffic → Result (Unit {0}) E → Type 0
Stepped plain port p now a b r = (t : Turned) × HasTurned t p now × (IsTrue plain → IsFirst t p) × Posts a b (turn_sent port t) r
