use Rattle.std.proofs.Common.{ap, ◌∙◌, subst, sym}
use Rattle.std.proofs.lemmas.Result.{IfOk-weaker}
use Rattle.node_core.specs.Part.{IsRegions, new_part}
use Rattle.scenario_text.specs.declared.scenario.Scenario.{Scenario}
use Rattle.scenario_run.specs.Start.{regions_on}
use Rattle.scenario_parts.proofs.Regions.{regions_fit}
use Rattle.scenario_parts.proofs.Firsts.{part_is}
use Rattle.scenario_parts.proofs.parts.part_of.Goals as goal

pub make_part-requires-clause-regions : goal.make_part-requires-clause-regions
make_part-requires-clause-regions g c = subst IsRegions (sym (c.in_ok-regions.ensures ∙ ap (regions_on c.args.n 0) c.as_slice.ensures)) (regions_fit c.args.plan.now.nodes c.args.n c.args.plan.now.regions c.requires.regions)

pub returns-clause-part : goal.returns-clause-part
returns-clause-part g c =
    let s : Scenario = record { checked = c.args.built.now.checked; plan = c.args.plan.now } in
    IfOk-weaker c.make_part.result _ _
    (λ part made. made ∙ ap (λ k. new_part k c.in_ok-images.images c.args.plan.now.slots) (c.in_ok-regions.ensures ∙ ap (regions_on c.args.n 0) c.as_slice.ensures)
    ∙ ap (λ k. new_part (regions_on c.args.n 0 c.args.plan.now.regions) k c.args.plan.now.slots) c.in_ok-images.ensures ∙ part_is s c.args.built.now.images c.args.built.now.compiled c.args.n)
    c.make_part.ensures.made
