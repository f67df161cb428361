use Rattle.std.proofs.Common.{map, sym, ap, ◌∙◌, subst}
use Rattle.iter_syntax.specs.declared.tree.Program.{Program}
use Rattle.pulse_codegen.specs.Compiled.{CompilesAll}
use Rattle.world_core.specs.Scene.{Member}
use Rattle.world_core.specs.inner.Fits.{IsScene}
use Rattle.scenario_parts.specs.Yards.{GivesBack}
use Rattle.replay.specs.inner.Made.{IsMade}
use Rattle.replay.specs.inner.Runs.{RunsEvents}
use Rattle.replay.proofs.Scenes.{parts_same}
use Rattle.replay.proofs.OneEvent.{still_plain}
use Rattle.replay.proofs.Whole.{can_run, held_after, lasts_on, whole}
use Rattle.replay.proofs.scenario.run_scenario.Goals as goal

pub drain-requires-clause-runs : goal.drain-requires-clause-runs
drain-requires-clause-runs g c =
    let s = c.args.scenario in
    let images = c.in_ok-built.built.images in
    let w = c.in_ok-world.world in
    let v = c.run_events.new.world in
    can_run s c.requires images w v c.in_ok-traces.traces
    (subst (λ (p : Program). IsMade (record { checked = p; plan = s.plan }) images w) c.in_ok-built.ensures c.in_ok-world.ensures)
    (subst (λ es. RunsEvents w v es (s.plan).trace c.in_ok-traces.traces) c.as_slice.ensures c.in_ok-traces.ensures.runs)

pub drain-requires-clause-plain : goal.drain-requires-clause-plain
drain-requires-clause-plain g c =
    let s = c.args.scenario in
    let images = c.in_ok-built.built.images in
    let w = c.in_ok-world.world in
    still_plain w c.run_events.new.world c.in_ok-traces.ensures.lasts
    (subst (λ (p : Program). IsMade (record { checked = p; plan = s.plan }) images w) c.in_ok-built.ensures c.in_ok-world.ensures).plain

pub outcome_of-requires-clause-held : goal.outcome_of-requires-clause-held
outcome_of-requires-clause-held g c =
    let s = c.args.scenario in
    let images = c.in_ok-built.built.images in
    let w = c.in_ok-world.world in
    let v = c.run_events.new.world in
    held_after s c.requires images w v c.drain.new.self c.in_ok-traces.traces
    (subst (λ (p : Program). IsMade (record { checked = p; plan = s.plan }) images w) c.in_ok-built.ensures c.in_ok-world.ensures)
    (subst (λ es. RunsEvents w v es (s.plan).trace c.in_ok-traces.traces) c.as_slice.ensures c.in_ok-traces.ensures.runs)
    c.in_ok-drain.ensures.drains

pub returns : goal.returns
returns g c =
    let s = c.args.scenario in
    let images = c.in_ok-built.built.images in
    let w = c.in_ok-world.world in
    let v = c.run_events.new.world in
    let parts = map g.Y.Part.NodePart.state c.end.result.items in (
      parts,
      whole s c.requires images w v c.drain.new.self c.in_ok-traces.traces (record { outcome = c.in_ok-outcome.outcome; letters = c.letters-letters.result }) parts
          (subst (λ (p : Program). CompilesAll p images) c.in_ok-built.ensures c.in_ok-built.built.compiled)
          (subst (λ (p : Program). IsMade (record { checked = p; plan = s.plan }) images w) c.in_ok-built.ensures c.in_ok-world.ensures)
          (subst (λ es. RunsEvents w v es (s.plan).trace c.in_ok-traces.traces) c.as_slice.ensures c.in_ok-traces.ensures.runs)
          c.in_ok-drain.ensures.drains
          (lasts_on w v c.drain.new.self c.in_ok-traces.ensures.lasts c.drain.ensures.stays)
          (subst IsScene c.world-2.view_is c.world-2.invariant.1)
          c.in_ok-outcome.ensures
          c.letters-letters.ensures
          (sym (parts_same g.Y.Part.NodePart.state g.Y.Part.NodePart.rest g.Y.Part.NodePart.plain c.end.result.items) ∙ ap (map (λ (m : Member). m.part)) c.end.ensures),
      subst (λ o. GivesBack o (g.Y.Yard.returned c.give_back.new.yard) parts) c.parts_of.ensures.returned c.in_ok-give_back.ensures,
    )
