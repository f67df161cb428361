use Rattle.std.proofs.Common.{subst}
use Rattle.client_core.specs.Calls.{asks}
use Rattle.run_views.specs.Clients.{asked_leg}
use Rattle.event_run.specs.World.{told_asked}
use Rattle.world_core.specs.Scene.{Scene, Stays}
use Rattle.world_core.specs.inner.Events.{Asks}
use Rattle.world_core.proofs.Asking.{does_so, does_lasts, does_stays}
use Rattle.world_core.proofs.Lastings.{client_fits}
use Rattle.world_core.proofs.world.World.ask.Goals as goal

pub invariant_of-self-2 : goal.invariant_of-self-2
invariant_of-self-2 g c =
    let s : Scene = record { switch = c.self.inside.switch; images = c.self.inside.images; homes = c.self.inside.homes; nodes = c.self.inside.nodes; clients = c.self.inside.clients; letters = c.self.inside.letters.sent; order = c.self.inside.order } in
    (c.self.invariant.0, client_fits s c.ask-asked.new.self c.make_room.new.self.sent c.ask.new.self.sent (asked_leg c.ask-asked.result) c.self.invariant.1 (does_lasts s.clients c.ask-asked.new.self c.get-home.result.now c.args.r (λ k. asks k) c.ask-asked.result c.ask-asked.ensures.does) c.make_room.ensures.sent c.ask.ensures.sent)

pub returns-clause-asks : goal.returns-clause-asks
returns-clause-asks g c =
    let s : Scene = record { switch = c.self.inside.switch; images = c.self.inside.images; homes = c.self.inside.homes; nodes = c.self.inside.nodes; clients = c.self.inside.clients; letters = c.self.inside.letters.sent; order = c.self.inside.order } in
    subst (λ (z : Scene). Asks z (record s { clients = c.ask-asked.new.self; letters = c.ask.new.self.sent }) c.args.r c.ask.result) c.self.view_is
    (does_so s c.ask-asked.new.self c.make_room.new.self.sent c.ask.new.self.sent c.args.r c.get-home.result.now (λ k. asks k) asked_leg told_asked c.ask-asked.result c.ask.result c.get-home.ensures c.ask-asked.ensures.does c.make_room.ensures.sent c.ask.ensures.sent c.ask.ensures.told)

pub returns-clause-stays : goal.returns-clause-stays
returns-clause-stays g c =
    let s : Scene = record { switch = c.self.inside.switch; images = c.self.inside.images; homes = c.self.inside.homes; nodes = c.self.inside.nodes; clients = c.self.inside.clients; letters = c.self.inside.letters.sent; order = c.self.inside.order } in
    subst (λ (z : Scene). Stays z (record s { clients = c.ask-asked.new.self; letters = c.ask.new.self.sent })) c.self.view_is
    (does_stays s c.ask-asked.new.self c.make_room.new.self.sent c.ask.new.self.sent (asked_leg c.ask-asked.result) (does_lasts s.clients c.ask-asked.new.self c.get-home.result.now c.args.r (λ k. asks k) c.ask-asked.result c.ask-asked.ensures.does) c.make_room.ensures.sent c.ask.ensures.sent)
