-- The letters of a run, and the bytes of their frames.
use Rattle.std.specs.Prelude.{◌≡◌, ℕ, Bool, List, Some, slice_get}
use Rattle.frame_codec.specs.declared.frame.Frame.{Frame}
use Rattle.frame_codec.specs.declared.frame.Frame.TheVariants as frame
use Rattle.frame_codec.specs.Spelling.{Spells}
use Rattle.event_run.specs.Letters as e
use Rattle.world_core.specs.declared.letter.To.{To}
use Rattle.world_core.specs.declared.letter.To.TheVariants as to
use Rattle.world_core.specs.declared.letter.Content.{Content}
use Rattle.world_core.specs.declared.letter.Content.TheVariants as content
use Rattle.world_core.specs.declared.letter.Letter.{Letter}

-- the letters in the order in which they were sent, and whether there is room for one more
pub record LettersState : Type 0 where
  pub sent : List Letter
  pub room : Bool

abbrev pub frame_of : Content → Frame
frame_of (content.Leg l) = frame.Leg l
frame_of (content.Back b) = frame.Back b

-- the bytes spell the frame of letter k
abbrev pub IsLetterOf : List Letter → ℕ → List ℕ → Type 0
IsLetterOf letters k bytes = (m : Letter) × (slice_get letters k ≡ Some m) × Spells bytes (frame_of m.content)

-- letter k goes there
abbrev pub IsTo : List Letter → ℕ → To → Type 0
IsTo letters k to = (m : Letter) × (slice_get letters k ≡ Some m) × (m.to ≡ to)

-- ---- as the letters of an event run

abbrev pub to_view : To → e.To
to_view to.Switch = e.ToSwitch
to_view (to.Node n) = e.ToNode n
to_view (to.Client c) = e.ToClient c

abbrev pub content_view : Content → e.Content
content_view (content.Leg l) = e.OfLeg l
content_view (content.Back b) = e.OfBack b

abbrev pub letter_view : Letter → e.Letter
letter_view m = record { to = to_view m.to; content = content_view m.content }
