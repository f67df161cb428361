use Rattle.std.proofs.Common.{◌≡◌, subst}
use Rattle.run_rules.specs.Switch.{on}
use Rattle.event_run.specs.World.{switches}
use Rattle.world_core.specs.Letters.{frame_of}
use Rattle.world_core.specs.Scene.{Scene, Stays, world_of}
use Rattle.world_core.proofs.Switched.{passed_fits, passed_so, passed_stays}
use Rattle.world_core.proofs.world.World.to_switch.Goals as goal

pub returns-clause-step : goal.returns-clause-step
returns-clause-step g c =
    let s : Scene = record { switch = c.self.inside.switch; images = c.self.inside.images; homes = c.self.inside.homes; nodes = c.self.inside.nodes; clients = c.self.inside.clients; letters = c.self.inside.letters.sent; order = c.self.inside.order } in
    subst (λ (z : Scene). (world_of (record s { letters = c.pass.new.self.sent }), c.pass.result) ≡ switches (world_of z) (on z.switch (frame_of c.args.content.now))) c.self.view_is
    (passed_so s c.make_room.new.self.sent c.pass.new.self.sent c.ruled-out.result (on s.switch (frame_of c.args.content.now)) c.pass.result c.make_room.ensures.sent c.pass.ensures.sent c.pass.ensures.told c.ruled-out.ensures.rule)

pub invariant_of-self-3 : goal.invariant_of-self-3
invariant_of-self-3 g c =
    let s : Scene = record { switch = c.self.inside.switch; images = c.self.inside.images; homes = c.self.inside.homes; nodes = c.self.inside.nodes; clients = c.self.inside.clients; letters = c.self.inside.letters.sent; order = c.self.inside.order } in
    (c.self.invariant.0, passed_fits s c.make_room.new.self.sent c.pass.new.self.sent c.ruled-out.result c.self.invariant.1 c.make_room.ensures.sent c.pass.ensures.sent c.ruled-out.ensures.fits)

pub returns-clause-stays : goal.returns-clause-stays
returns-clause-stays g c =
    let s : Scene = record { switch = c.self.inside.switch; images = c.self.inside.images; homes = c.self.inside.homes; nodes = c.self.inside.nodes; clients = c.self.inside.clients; letters = c.self.inside.letters.sent; order = c.self.inside.order } in
    subst (λ (z : Scene). Stays z (record s { letters = c.pass.new.self.sent })) c.self.view_is
    (passed_stays s c.make_room.new.self.sent c.pass.new.self.sent c.ruled-out.result c.make_room.ensures.sent c.pass.ensures.sent)
