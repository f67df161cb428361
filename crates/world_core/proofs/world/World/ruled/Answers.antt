use Rattle.std.proofs.Common.{◌∙◌, length, sym, ap, subst}
use Rattle.run_rules.specs.Switch.{on}
use Rattle.world_core.specs.Scene.{Scene}
use Rattle.world_core.specs.inner.Fits.{OutFits}
use Rattle.world_core.proofs.Switched.{out_fits}
use Rattle.world_core.proofs.world.World.ruled.Goals as goal

pub returns-clause-fits : goal.returns-clause-fits
returns-clause-fits g c =
    let both = out_fits c.self.inside.switch (length c.self.inside.nodes) (length c.self.inside.clients) c.args.content.now c.self.invariant.1.switch c.requires.rules in
    subst (λ (z : Scene). OutFits (length z.nodes) (length z.clients) c.on.result) c.self.view_is
    (subst (OutFits (length c.self.inside.nodes) (length c.self.inside.clients)) (sym (c.on.ensures ∙ ap (on c.self.inside.switch) c.frame_of.ensures)) both.1)
