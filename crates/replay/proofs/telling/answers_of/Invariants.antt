use Rattle.std.proofs.Common.{◌≡◌, map, take}
use Rattle.run_rules.specs.Client.{answer_of}
use Rattle.world_core.specs.Scene.{world_of}
use Rattle.replay.proofs.telling.answers_of.Given as goal

abbrev pub invariant-answers : goal.invariant-answers
invariant-answers g l = l.answers ≡ map answer_of (take l.request (world_of l.world).asking)
