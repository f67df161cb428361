use Rattle.std.proofs.Common.{◌≡◌, ◌∙◌, subst}
use Rattle.drain_run.specs.Drain.{waits}
use Rattle.world_core.specs.Scene.{Scene, world_of}
use Rattle.world_core.proofs.Drains.{waits_here}
use Rattle.world_core.proofs.world.World.waits.Goals as goal

pub returns : goal.returns
returns g c =
    let s : Scene = record { switch = c.self.inside.switch; images = c.self.inside.images; homes = c.self.inside.homes; nodes = c.self.inside.nodes; clients = c.self.inside.clients; letters = c.self.inside.letters.sent; order = c.self.inside.order } in
    subst (λ (z : Scene). c.is_some.result ≡ waits (world_of z) c.args.r) c.self.view_is
    (c.is_some.ensures ∙ waits_here s c.args.r c.get.result.now c.resend.result c.get.ensures c.resend.ensures.leg)
