use Rattle.std.proofs.Common.{◌≡◌, Some, subst}
use Rattle.std.specs.Prelude.{slice_get}
use Rattle.std.specs.Option.{option_map}
use Rattle.run_rules.specs.Client.{answer_of}
use Rattle.world_core.specs.Scene.{Scene, world_of}
use Rattle.world_core.proofs.Asking.{answer_is}
use Rattle.world_core.proofs.world.World.answer.Goals as goal

pub returns : goal.returns
returns g c = subst (λ (z : Scene). option_map answer_of (slice_get (world_of z).asking c.args.r) ≡ Some c.answer.result.now) c.self.view_is
    (answer_is c.self.inside.homes c.self.inside.clients c.args.r c.get.result.now c.answer.result.now c.get.ensures c.answer.ensures)
