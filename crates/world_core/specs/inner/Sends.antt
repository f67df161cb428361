-- What the answer of a rule sends, as letters, and what is told of it.
use Rattle.std.specs.Prelude.{◌≡◌, ℕ, List, [], ◌∷◌, length, Option, None}
use Rattle.pulse_base.specs.declared.event.Trace.{Trace}
use Rattle.pulse_base.specs.declared.event.Trace.TheVariants as trace
use Rattle.frame_codec.specs.declared.frame.Back.{Back}
use Rattle.node_core.specs.declared.part.Turned.{Turned}
use Rattle.node_core.specs.declared.part.Turned.TheVariants as turned
use Rattle.event_run.specs.Letters as e
use Rattle.event_run.specs.World.{WorldState, next_number, told_turn}
use Rattle.world_core.specs.declared.letter.To.{To}
use Rattle.world_core.specs.declared.letter.To.TheVariants as to
use Rattle.world_core.specs.declared.letter.Content.{Content}
use Rattle.world_core.specs.declared.letter.Content.TheVariants as content
use Rattle.world_core.specs.declared.letter.Letter.{Letter}

-- the letters of an event run, as letters of a world
abbrev pub own_to : e.To → To
own_to e.ToSwitch = to.Switch
own_to (e.ToNode n) = to.Node n
own_to (e.ToClient c) = to.Client c

abbrev pub own_content : e.Content → Content
own_content (e.OfLeg l) = content.Leg l
own_content (e.OfBack b) = content.Back b

abbrev pub own : e.Letter → Letter
own m = record { to = own_to m.to; content = own_content m.content }

-- what is told after so many letters
abbrev pub IsTold : List Letter → (WorldState → Trace) → Trace → Type 0
IsTold sent told t = (w : WorldState) → next_number w ≡ length sent → t ≡ told w

-- ---- of a turn

abbrev pub ended_by : Turned → Option Back
ended_by (turned.Iterated q back) = back
ended_by (turned.Part q) = None
ended_by (turned.Waits q) = None
ended_by turned.Idle = None

abbrev pub told_turned : Turned → WorldState → Trace
told_turned (turned.Iterated q back) w = told_turn w q.request back
told_turned (turned.Part q) w = trace.Part q.request
told_turned (turned.Waits q) w = trace.Waits q.request
told_turned turned.Idle w = trace.Idle

-- the request of an iteration is the next of the order
abbrev pub ordered_by : Turned → List ℕ
ordered_by (turned.Iterated q back) = q.request ∷ []
ordered_by (turned.Part q) = []
ordered_by (turned.Waits q) = []
ordered_by turned.Idle = []
