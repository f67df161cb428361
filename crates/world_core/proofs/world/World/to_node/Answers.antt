use Rattle.std.proofs.Common.{IfOk, OnErr, ◌≡◌, subst}
use Rattle.std.specs.Prelude.{slice_get}
use Rattle.event_run.specs.World.{to_node}
use Rattle.world_core.specs.Scene.{Scene, IsAsBefore, Stays, world_of}
use Rattle.world_core.proofs.Accepts.{taken_step, taken_keeps, taken_none}
use Rattle.world_core.proofs.world.World.to_node.Goals as goal

pub returns-clause-step : goal.returns-clause-step
returns-clause-step g c =
    let s : Scene = record { switch = c.self.inside.switch; images = c.self.inside.images; homes = c.self.inside.homes; nodes = c.self.inside.nodes; clients = c.self.inside.clients; letters = c.self.inside.letters.sent; order = c.self.inside.order } in
    subst (λ (z : Scene). IfOk c.answer.result (λ t. (world_of (record s { nodes = c.take-accepted.new.self; letters = c.answer.new.self.sent }), t) ≡ to_node (world_of z) c.args.n c.args.leg.now (slice_get (world_of z).nodes c.args.n))) c.self.view_is
    (taken_step s c.take-accepted.new.self c.make_room.new.self.sent c.answer.new.self.sent c.args.n c.args.leg.now c.take-accepted.result c.answer.result c.take-accepted.ensures.takes c.make_room.ensures.sent c.answer.ensures.sent c.answer.ensures.told c.answer.ensures.taken)

pub returns-clause-stays : goal.returns-clause-stays
returns-clause-stays g c =
    let s : Scene = record { switch = c.self.inside.switch; images = c.self.inside.images; homes = c.self.inside.homes; nodes = c.self.inside.nodes; clients = c.self.inside.clients; letters = c.self.inside.letters.sent; order = c.self.inside.order } in
    subst (λ (z : Scene). IfOk c.answer.result (λ t. Stays z (record s { nodes = c.take-accepted.new.self; letters = c.answer.new.self.sent }))) c.self.view_is
    (taken_keeps s c.take-accepted.new.self c.make_room.new.self.sent c.answer.new.self.sent c.args.n c.args.leg.now c.take-accepted.result c.answer.result c.take-accepted.ensures.takes c.make_room.ensures.sent c.answer.ensures.sent)

pub returns-clause-err : goal.returns-clause-err
returns-clause-err g c =
    let s : Scene = record { switch = c.self.inside.switch; images = c.self.inside.images; homes = c.self.inside.homes; nodes = c.self.inside.nodes; clients = c.self.inside.clients; letters = c.self.inside.letters.sent; order = c.self.inside.order } in
    subst (λ (z : Scene). OnErr c.answer.result (IsAsBefore z (record s { nodes = c.take-accepted.new.self; letters = c.answer.new.self.sent }))) c.self.view_is
    (taken_none s c.take-accepted.new.self c.make_room.new.self.sent c.answer.new.self.sent c.args.n c.args.leg.now c.take-accepted.result c.answer.result c.take-accepted.ensures.takes c.make_room.ensures.sent c.answer.ensures.sent c.answer.ensures.err)
