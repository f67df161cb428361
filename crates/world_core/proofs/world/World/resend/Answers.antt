use Rattle.std.proofs.Common.{◌∙◌, ◌++◌, ◌∷◌, [], Some, None, sym, ap, subst}
use Rattle.world_core.specs.declared.letter.To.TheVariants as to
use Rattle.world_core.specs.declared.letter.Content.TheVariants as content
use Rattle.world_core.specs.Scene.{Scene}
use Rattle.world_core.specs.inner.Drains.{Resends}
use Rattle.world_core.proofs.Drains.{none_more, resends_leg}
use Rattle.world_core.proofs.world.World.resend.Goals as goal

pub returns-in_default-clause-sends : goal.returns-in_default-clause-sends
returns-in_default-clause-sends g c =
    let s : Scene = record { switch = c.self.inside.switch; images = c.self.inside.images; homes = c.self.inside.homes; nodes = c.self.inside.nodes; clients = c.self.inside.clients; letters = c.self.inside.letters.sent; order = c.self.inside.order } in
    subst (λ (z : Scene). Resends z (record s { letters = c.make_room.new.self.sent }) c.args.r) c.self.view_is
    (resends_leg s c.make_room.new.self.sent c.args.r c.get.result.now None c.get.ensures (sym c.in_default.is ∙ c.resend.ensures.leg) (none_more s c.make_room.new.self.sent c.make_room.ensures.sent))

pub returns-in-Some-clause-sends : goal.returns-in-Some-clause-sends
returns-in-Some-clause-sends g c =
    let s : Scene = record { switch = c.self.inside.switch; images = c.self.inside.images; homes = c.self.inside.homes; nodes = c.self.inside.nodes; clients = c.self.inside.clients; letters = c.self.inside.letters.sent; order = c.self.inside.order } in
    subst (λ (z : Scene). Resends z (record s { letters = c.push.new.self.sent }) c.args.r) c.self.view_is
    (resends_leg s c.push.new.self.sent c.args.r c.get.result.now (Some c.in-Some.leg) c.get.ensures (sym c.in-Some.is ∙ c.resend.ensures.leg) (c.push.ensures ∙ ap (λ z. z ++ record { to = to.Switch; content = content.Leg c.in-Some.leg } ∷ []) c.make_room.ensures.sent))
