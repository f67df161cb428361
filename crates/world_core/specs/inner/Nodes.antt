-- One node of many has a leg or makes a turn.
use Rattle.std.specs.Prelude.{◌≡◌, ◌≢◌, ℕ, ◌<◌, IsTrue, List, Option, Some, None, slice_get, slice_set}
use Rattle.frame_codec.specs.declared.frame.Leg.{Leg}
use Rattle.frame_codec.specs.declared.frame.Back.{Back}
use Rattle.frame_codec.specs.declared.frame.Frame.TheVariants as frame
use Rattle.frame_codec.specs.Spelling.{MeetsRules}
use Rattle.run_rules.specs.declared.node.Accepted.{Accepted}
use Rattle.run_rules.specs.declared.node.Accepted.TheVariants as accepted
use Rattle.run_rules.specs.Waiting.{Apart}
use Rattle.node_core.specs.declared.part.Turned.{Turned}
use Rattle.node_core.specs.declared.part.Turned.TheVariants as turned
use Rattle.node_core.specs.Part.{HasAccepted, HasTurned, IsFirst}
use Rattle.world_core.specs.Scene.{Member}

pub record Takes (a : Accepted) (old new : List Member) (n : ℕ) (l : Leg) : Type 0 where
  pub before : Member
  pub after : Member
  pub stands : slice_get old n ≡ Some before
  pub rule : HasAccepted a before.part after.part l
  pub plain : after.plain ≡ before.plain
  pub left : new ≡ slice_set old n after

pub record Makes (t : Turned) (old new : List Member) (n : ℕ) : Type 0 where
  pub before : Member
  pub after : Member
  pub stands : slice_get old n ≡ Some before
  pub rule : HasTurned t before.part after.part
  pub plain : after.plain ≡ before.plain
  pub first : IsTrue before.plain → IsFirst t before.part
  pub apart : Apart after.part.node.live
  pub rest : t ≢ turned.Idle → after.rest < before.rest
  pub left : new ≡ slice_set old n after

-- a back that is answered meets the rules of its fields

abbrev pub AnswerFits : Accepted → Type 0
AnswerFits (accepted.Answer b) = MeetsRules (frame.Back b)
AnswerFits accepted.Foreign = Unit {0}
AnswerFits accepted.Running = Unit {0}
AnswerFits accepted.Elsewhere = Unit {0}
AnswerFits accepted.Full = Unit {0}
AnswerFits accepted.Started = Unit {0}
AnswerFits accepted.Memory = Unit {0}

abbrev pub BackFits : Option Back → Type 0
BackFits None = Unit {0}
BackFits (Some b) = MeetsRules (frame.Back b)

abbrev pub TurnFits : Turned → Type 0
TurnFits (turned.Iterated q back) = BackFits back
TurnFits (turned.Part q) = Unit {0}
TurnFits (turned.Waits q) = Unit {0}
TurnFits turned.Idle = Unit {0}
