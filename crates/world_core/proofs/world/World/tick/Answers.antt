use Rattle.std.proofs.Common.{subst}
use Rattle.run_rules.specs.Client.{tick}
use Rattle.run_views.specs.Clients.{ticked_leg}
use Rattle.event_run.specs.World.{told_ticked}
use Rattle.world_core.specs.Scene.{Scene, Stays}
use Rattle.world_core.specs.inner.Events.{Ticks}
use Rattle.world_core.proofs.Asking.{does_so, does_lasts, does_stays}
use Rattle.world_core.proofs.Lastings.{client_fits}
use Rattle.world_core.proofs.world.World.tick.Goals as goal

pub invariant_of-self-2 : goal.invariant_of-self-2
invariant_of-self-2 g c =
    let s : Scene = record { switch = c.self.inside.switch; images = c.self.inside.images; homes = c.self.inside.homes; nodes = c.self.inside.nodes; clients = c.self.inside.clients; letters = c.self.inside.letters.sent; order = c.self.inside.order } in
    (c.self.invariant.0, client_fits s c.tick-ticked.new.self c.make_room.new.self.sent c.tick.new.self.sent (ticked_leg c.tick-ticked.result) c.self.invariant.1 (does_lasts s.clients c.tick-ticked.new.self c.get-home.result.now c.args.r (λ k q. tick k.terms q.asking) c.tick-ticked.result c.tick-ticked.ensures.does) c.make_room.ensures.sent c.tick.ensures.sent)

pub returns-clause-ticks : goal.returns-clause-ticks
returns-clause-ticks g c =
    let s : Scene = record { switch = c.self.inside.switch; images = c.self.inside.images; homes = c.self.inside.homes; nodes = c.self.inside.nodes; clients = c.self.inside.clients; letters = c.self.inside.letters.sent; order = c.self.inside.order } in
    subst (λ (z : Scene). Ticks z (record s { clients = c.tick-ticked.new.self; letters = c.tick.new.self.sent }) c.args.r c.tick.result) c.self.view_is
    (does_so s c.tick-ticked.new.self c.make_room.new.self.sent c.tick.new.self.sent c.args.r c.get-home.result.now (λ k q. tick k.terms q.asking) ticked_leg told_ticked c.tick-ticked.result c.tick.result c.get-home.ensures c.tick-ticked.ensures.does c.make_room.ensures.sent c.tick.ensures.sent c.tick.ensures.told)

pub returns-clause-stays : goal.returns-clause-stays
returns-clause-stays g c =
    let s : Scene = record { switch = c.self.inside.switch; images = c.self.inside.images; homes = c.self.inside.homes; nodes = c.self.inside.nodes; clients = c.self.inside.clients; letters = c.self.inside.letters.sent; order = c.self.inside.order } in
    subst (λ (z : Scene). Stays z (record s { clients = c.tick-ticked.new.self; letters = c.tick.new.self.sent })) c.self.view_is
    (does_stays s c.tick-ticked.new.self c.make_room.new.self.sent c.tick.new.self.sent (ticked_leg c.tick-ticked.result) (does_lasts s.clients c.tick-ticked.new.self c.get-home.result.now c.args.r (λ k q. tick k.terms q.asking) c.tick-ticked.result c.tick-ticked.ensures.does) c.make_room.ensures.sent c.tick.ensures.sent)
