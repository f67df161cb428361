-- The served run of the switch.
use Rattle.std.specs.Prelude.{◌≡◌, ◌≢◌, ℕ, ◌+◌, true, List, [], ◌∷◌}
use Rattle.pulse_base.specs.Link.{Receipt, Sent}
use Rattle.frame_codec.specs.declared.frame.Frame.TheVariants as frames
use Rattle.run_rules.specs.declared.switch.Out.{Out}
use Rattle.run_rules.specs.declared.switch.Out.TheVariants.{ToNode, ToClient, Nothing}
use Rattle.run_rules.specs.Switch.{SwitchState, on}
use Rattle.pulse_serve.specs.declared.frames.Came.{Came}
use Rattle.pulse_serve.specs.declared.frames.Came.TheVariants as came
use Rattle.pulse_serve.specs.Frames.{Says, letter}
use Rattle.pulse_serve.specs.Runs.{Loop}

-- a leg goes to the port of its node, a back to that of its client
abbrev pub letters_of : ℕ → Out → List Sent
letters_of port (ToNode node leg) = letter (port + 1 + node) (frames.Leg leg) ∷ []
letters_of port (ToClient client back) = letter (port + 65 + client) (frames.Back back) ∷ []
letters_of port Nothing = []

abbrev pub passed_on : ℕ → SwitchState → Came → List Sent
passed_on port s came.Gap = []
passed_on port s came.Noise = []
passed_on port s (came.Frame f) = letters_of port (on s f)

-- it waits for an item, which is no Stop, and sends what the switch makes of it
pub record SwitchTurn (port : ℕ) (s : SwitchState) (r : Receipt) (now : SwitchState) (ss : List Sent) : Type 0 where
  pub waits : r.wait ≡ true
  pub item : Came
  pub says : Says r.item item
  pub goes_on : item ≢ came.Frame frames.Stop
  pub same : now ≡ s
  pub sent : ss ≡ passed_on port s item

pub record TakesStop (s : SwitchState) (r : Receipt) : Type 0 where
  pub waits : r.wait ≡ true
  pub says : Says r.item (came.Frame frames.Stop)

abbrev pub switch_loop : ℕ → Loop SwitchState
switch_loop port = record { Turn = SwitchTurn port; UpTo = SwitchTurn port; IsStop = TakesStop; WantsMemory = λ s r. ⊥ }
