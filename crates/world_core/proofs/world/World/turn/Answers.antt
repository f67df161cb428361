use Rattle.std.proofs.Common.{subst}
use Rattle.world_core.specs.Scene.{Scene, Stays}
use Rattle.world_core.specs.inner.Events.{Turns}
use Rattle.world_core.proofs.Turning.{turn_fits, turn_so, turn_stays}
use Rattle.world_core.proofs.world.World.turn.Goals as goal

pub returns-clause-turns : goal.returns-clause-turns
returns-clause-turns g c =
    let s : Scene = record { switch = c.self.inside.switch; images = c.self.inside.images; homes = c.self.inside.homes; nodes = c.self.inside.nodes; clients = c.self.inside.clients; letters = c.self.inside.letters.sent; order = c.self.inside.order } in
    subst (λ (z : Scene). Turns z (record s { nodes = c.turn-turned.new.self; letters = c.turn.new.self.sent; order = c.settle.new.order }) c.args.n c.turn.result) c.self.view_is
    (turn_so s c.turn-turned.new.self c.make_room.new.self.sent c.turn.new.self.sent c.settle.new.order c.args.n c.turn-turned.result c.turn.result c.turn-turned.ensures.makes c.make_room.ensures.sent c.turn.ensures.sent
    (c.settle.ensures c.self.inside.order 0 c.in_ok-push.ensures.ok) c.turn.ensures.told)

pub returns-clause-stays : goal.returns-clause-stays
returns-clause-stays g c =
    let s : Scene = record { switch = c.self.inside.switch; images = c.self.inside.images; homes = c.self.inside.homes; nodes = c.self.inside.nodes; clients = c.self.inside.clients; letters = c.self.inside.letters.sent; order = c.self.inside.order } in
    subst (λ (z : Scene). Stays z (record s { nodes = c.turn-turned.new.self; letters = c.turn.new.self.sent; order = c.settle.new.order })) c.self.view_is
    (turn_stays s c.turn-turned.new.self c.make_room.new.self.sent c.turn.new.self.sent c.settle.new.order c.args.n c.turn-turned.result c.turn-turned.ensures.makes c.make_room.ensures.sent c.turn.ensures.sent)

pub invariant_of-self-2 : goal.invariant_of-self-2
invariant_of-self-2 g c =
    let s : Scene = record { switch = c.self.inside.switch; images = c.self.inside.images; homes = c.self.inside.homes; nodes = c.self.inside.nodes; clients = c.self.inside.clients; letters = c.self.inside.letters.sent; order = c.self.inside.order } in
    (c.self.invariant.0, turn_fits s c.turn-turned.new.self c.make_room.new.self.sent c.turn.new.self.sent c.settle.new.order c.args.n c.turn-turned.result c.self.invariant.1 c.turn-turned.ensures.makes c.make_room.ensures.sent c.turn.ensures.sent)
