use Rattle.std.proofs.Common.{subst}
use Rattle.run_views.specs.Clients.{heard_leg}
use Rattle.world_core.specs.Scene.{Scene, Stays}
use Rattle.world_core.specs.inner.Events.{Hears}
use Rattle.world_core.proofs.Asking.{hears_so, hears_lasts, does_stays}
use Rattle.world_core.proofs.Lastings.{client_fits}
use Rattle.world_core.proofs.world.World.to_client.Goals as goal

pub invariant_of-self-2 : goal.invariant_of-self-2
invariant_of-self-2 g c =
    let s : Scene = record { switch = c.self.inside.switch; images = c.self.inside.images; homes = c.self.inside.homes; nodes = c.self.inside.nodes; clients = c.self.inside.clients; letters = c.self.inside.letters.sent; order = c.self.inside.order } in
    (c.self.invariant.0, client_fits s c.hear-heard.new.self c.make_room.new.self.sent c.hear.new.self.sent (heard_leg c.hear-heard.result) c.self.invariant.1 (hears_lasts s.clients c.hear-heard.new.self c.args.c c.args.back.now c.hear-heard.result c.hear-heard.ensures.hears) c.make_room.ensures.sent c.hear.ensures.sent)

pub returns-clause-hears : goal.returns-clause-hears
returns-clause-hears g c =
    let s : Scene = record { switch = c.self.inside.switch; images = c.self.inside.images; homes = c.self.inside.homes; nodes = c.self.inside.nodes; clients = c.self.inside.clients; letters = c.self.inside.letters.sent; order = c.self.inside.order } in
    subst (λ (z : Scene). Hears z (record s { clients = c.hear-heard.new.self; letters = c.hear.new.self.sent }) c.args.c c.args.back.now c.hear.result) c.self.view_is
    (hears_so s c.hear-heard.new.self c.make_room.new.self.sent c.hear.new.self.sent c.args.c c.args.back.now c.hear-heard.result c.hear.result c.self.invariant.1 c.hear-heard.ensures.hears c.make_room.ensures.sent c.hear.ensures.sent c.hear.ensures.told)

pub returns-clause-stays : goal.returns-clause-stays
returns-clause-stays g c =
    let s : Scene = record { switch = c.self.inside.switch; images = c.self.inside.images; homes = c.self.inside.homes; nodes = c.self.inside.nodes; clients = c.self.inside.clients; letters = c.self.inside.letters.sent; order = c.self.inside.order } in
    subst (λ (z : Scene). Stays z (record s { clients = c.hear-heard.new.self; letters = c.hear.new.self.sent })) c.self.view_is
    (does_stays s c.hear-heard.new.self c.make_room.new.self.sent c.hear.new.self.sent (heard_leg c.hear-heard.result) (hears_lasts s.clients c.hear-heard.new.self c.args.c c.args.back.now c.hear-heard.result c.hear-heard.ensures.hears) c.make_room.ensures.sent c.hear.ensures.sent)
