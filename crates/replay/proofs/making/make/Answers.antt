use Rattle.std.proofs.Common.{List, map, sym, ap, ◌∙◌, subst}
use Rattle.pulse_base.specs.declared.plan.RequestPlan.{RequestPlan}
use Rattle.iter_syntax.specs.declared.tree.Program.{Program}
use Rattle.scenario_text.specs.declared.scenario.Scenario.{Scenario}
use Rattle.scenario_parts.specs.Switch.{first_switch}
use Rattle.world_core.specs.Scene.{Member}
use Rattle.world_core.specs.inner.Fits.{IsScene}
use Rattle.replay.specs.inner.Made.{IsMade}
use Rattle.replay.proofs.Scenes.{scene_is, parts_same}
use Rattle.replay.proofs.Belonging.{ArgumentsFit}
use Rattle.replay.proofs.FirstWorld.{same_scene, made_is}
use Rattle.replay.proofs.making.make.Goals as goal

pub of-requires-clause-fits : goal.of-requires-clause-fits
of-requires-clause-fits g c =
    let s : Scenario = record { checked = c.args.built.now.checked; plan = c.args.plan.now } in
    let images = c.args.built.now.images in
    let members : List Member = map (λ n. record { part = g.N.NodePart.state n; rest = g.N.NodePart.rest n; plain = g.N.NodePart.plain n }) c.args.nodes.items in
    subst IsScene
    (sym (same_scene s images members c.in_ok-switch.switch c.in_ok-images.images c.in_ok-homes.homes c.in_ok-clients.clients.items
    (c.in_ok-switch.ensures ∙ ap (λ (p : Program). first_switch (record { checked = p; plan = c.args.plan.now })) c.checked.ensures)
    c.in_ok-images.ensures
    (c.in_ok-homes.ensures ∙ ap (map (λ (q : RequestPlan). q.client)) c.as_slice-3.ensures)
    c.in_ok-clients.ensures))
    (scene_is s images members c.requires.runnable (parts_same g.N.NodePart.state g.N.NodePart.rest g.N.NodePart.plain c.args.nodes.items ∙ c.requires.first))

pub returns : goal.returns
returns g c =
    let s : Scenario = record { checked = c.args.built.now.checked; plan = c.args.plan.now } in
    let images = c.args.built.now.images in
    let members : List Member = map (λ n. record { part = g.N.NodePart.state n; rest = g.N.NodePart.rest n; plain = g.N.NodePart.plain n }) c.args.nodes.items in
    subst (IsMade s images)
    (sym (c.of.ensures ∙ same_scene s images members c.in_ok-switch.switch c.in_ok-images.images c.in_ok-homes.homes c.in_ok-clients.clients.items
    (c.in_ok-switch.ensures ∙ ap (λ (p : Program). first_switch (record { checked = p; plan = c.args.plan.now })) c.checked.ensures)
    c.in_ok-images.ensures
    (c.in_ok-homes.ensures ∙ ap (map (λ (q : RequestPlan). q.client)) c.as_slice-3.ensures)
    c.in_ok-clients.ensures))
    (made_is g.N.NodePart.state g.N.NodePart.rest g.N.NodePart.plain s images c.args.nodes.items c.args.built.now.compiled (subst ArgumentsFit c.as_slice.ensures c.arguments_fit.ensures) c.requires.first c.requires.plain)
