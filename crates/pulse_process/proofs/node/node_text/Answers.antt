use Rattle.std.proofs.Common.{◌≡◌, ◌++◌, codes, length, refl, ap, ◌∙◌}
use Rattle.std.proofs.lemmas.Option.{slice_get_read}
use Rattle.scenario_text.specs.declared.plan.PlanRegion.{PlanRegion}
use Rattle.scenario_run.proofs.Lists.{all_at}
use Rattle.pulse_process.specs.inner.Held.{line_here, lines_here}
use Rattle.pulse_process.proofs.Telling.{one_line, all_lines, next_region}
use Rattle.pulse_process.proofs.node.node_text.Goals as goal

pub put_region-requires-clause-filled : goal.put_region-requires-clause-filled
put_region-requires-clause-filled g c =
    all_at (λ (r : PlanRegion). length r.bytes ≡ (r.span).len) c.args.regions.now c.regions.k c.index-regions-k.result c.requires.filled
    (slice_get_read c.args.regions.now (length c.args.regions.now) c.regions.k c.index-regions-k.result refl c.regions-test.true c.index-regions-k.is)

pub put_region-requires-clause-span : goal.put_region-requires-clause-span
put_region-requires-clause-span g c =
    c.requires.spans c.regions.k c.index-regions-k.result (slice_get_read c.args.regions.now (length c.args.regions.now) c.regions.k c.index-regions-k.result refl c.regions-test.true c.index-regions-k.is)

pub regions-preserved : goal.regions-preserved
regions-preserved g c =
    one_line c.regions.text c.put_region.new.text (line_here (g.N.NodePart.state c.args.part.now) c.regions.k c.index-regions-k.result) _ _ _ c.in_ok-put_region.ensures
    (next_region (g.N.NodePart.state c.args.part.now) c.args.regions.now c.regions.k c.index-regions-k.result
    (slice_get_read c.args.regions.now (length c.args.regions.now) c.regions.k c.index-regions-k.result refl c.regions-test.true c.index-regions-k.is))
    c.regions.invariant

pub returns : goal.returns
returns g c =
    c.in_ok-append.ensures.ok
    ∙ ap (λ t. t ++ codes "end\n") (all_lines (lines_here (g.N.NodePart.state c.args.part.now) c.regions.k) c.args.regions.now c.regions.k c.regions.text _ refl c.regions-test.false c.regions.invariant)
