use Rattle.std.proofs.Common.{◌+◌, ◌++◌, true, [], ◌∷◌, codes, sym, ap, subst, ◌∙◌, arith}
use Rattle.std.proofs.lemmas.Result.{err_from_is_err_and}
use Rattle.iter_syntax.specs.declared.tree.Program.{Program}
use Rattle.node_core.specs.Part.{PartState}
use Rattle.pulse_codegen.specs.Compiled.{CompilesAll}
use Rattle.scenario_text.specs.Accepted.{IsRunnable}
use Rattle.scenario_text.specs.declared.scenario.Scenario.{Scenario}
use Rattle.scenario_parts.specs.Parts.{first_part}
use Rattle.scenario_parts.specs.Yards.{GivesBack}
use Rattle.pulse_serve.specs.Runs.{Serves}
use Rattle.pulse_serve.specs.NodeRun.{node_loop}
use Rattle.pulse_process.specs.Bound.{BoundTo, end_of}
use Rattle.pulse_process.specs.Answer.{LacksNode}
use Rattle.pulse_process.specs.inner.Held.{HaveSpans, SameRegions, lines_here}
use Rattle.pulse_process.proofs.Answering.{ended, no_end, refused}
use Rattle.pulse_process.proofs.Placing.{lines_are, spans_are}
use Rattle.pulse_process.proofs.node.run_node.Goals as goal

pub part_of-requires : goal.part_of-requires
part_of-requires g c =
    let s = c.in_ok-scenario.scenario in
    subst (λ (p : Program). IsRunnable (record { checked = p; plan = s.plan })) (sym c.in_ok-built.ensures) c.in_ok-scenario.ensures.runnable

pub node_text-text-requires-clause-spans : goal.node_text-text-requires-clause-spans
node_text-text-requires-clause-spans g c =
    let s : Scenario = record { checked = c.in_ok-built.built.checked; plan = c.in_ok-scenario.scenario.plan } in
    let runnable = subst (λ (p : Program). IsRunnable (record { checked = p; plan = s.plan })) (sym c.in_ok-built.ensures) c.in_ok-scenario.ensures.runnable in
    let now = g.Y.Part.NodePart.state c.serve-served.new.part in
    let same = subst (λ (q : PartState). SameRegions q now) c.in_ok-part.ensures.part c.serve-served.ensures.same in
    subst (HaveSpans now) (sym c.as_slice.ensures) (spans_are s runnable c.in_ok-built.built.images c.args.node now same)

pub returns-in_err-scenario-clause-answer : goal.returns-in_err-scenario-clause-answer
returns-in_err-scenario-clause-answer g c =
    let p = err_from_is_err_and c.from_residual.result c.from_residual.ensures.1 in
    rw (p.1, p.2) (refused c.args.text.now (LacksNode c.args.text.now c.args.node) c.in_err-scenario.field-0.0 c.in_err-scenario.ensures.refused)

pub returns-in_err-finished-clause-answer : goal.returns-in_err-finished-clause-answer
returns-in_err-finished-clause-answer g c =
    let p = err_from_is_err_and c.from_residual-in_err-finished.result c.from_residual-in_err-finished.ensures.1 in
    rw (p.1, p.2) (ended c.args.text.now (LacksNode c.args.text.now c.args.node) c.in_err-finished.field-0.0 c.in_err-finished.ensures.fault)

pub returns-clause-answer : goal.returns-clause-answer
returns-clause-answer g c =
    let s = c.in_ok-scenario.scenario in
    let built = c.in_ok-built.built in
    let t : Scenario = record { checked = built.checked; plan = s.plan } in
    let end = c.in_ok-finished.finished in
    let now = g.Y.Part.NodePart.state c.serve-served.new.part in
    let runnable = subst (λ (p : Program). IsRunnable (record { checked = p; plan = s.plan })) (sym c.in_ok-built.ensures) c.in_ok-scenario.ensures.runnable in
    let same = subst (λ (q : PartState). SameRegions q now) c.in_ok-part.ensures.part c.serve-served.ensures.same in
    let first = c.in_ok-part.ensures.part ∙ ap (λ (p : Program). first_part (record { checked = p; plan = s.plan }) built.images c.args.node) c.in_ok-built.ensures in
    let port = (s.plan).port in
    let old = g.L.Link.traffic c.args.net.now in
    let new = g.L.Link.traffic c.serve-served.new.net in
    let plain = subst (λ x. BoundTo (port + 1 + c.args.node) old new (λ rs ss. Serves (node_loop x port) c.args.turns (end_of end) (g.Y.Part.NodePart.state c.in_ok-part.part) rs now ss)) c.in_ok-part.ensures.plain (c.serve-served.ensures.serves end c.in_ok-finished.ensures.ends) in (
      s,
      c.in_ok-scenario.ensures.scenario,
      (
        now,
        record {
          there = omega arith;
          images = built.images;
          compiled = subst (λ (p : Program). CompilesAll p built.images) c.in_ok-built.ensures built.compiled;
          serves = subst (λ (q : PartState). BoundTo (port + 1 + c.args.node) old new (λ rs ss. Serves (node_loop true port) c.args.turns (end_of end) q rs now ss)) first plain;
          text = c.in_ok-text.ensures ∙ ap (λ r. lines_here now 0 r ++ codes "end\n") c.as_slice.ensures ∙ ap (λ l. l ++ codes "end\n") (lines_are t runnable built.images c.args.node now same);
        },
        subst (λ o. GivesBack o (g.Y.Yard.returned c.give_back.new.self) (now ∷ [])) c.part_of.ensures.returned c.in_ok-give_back.ensures.ok,
      ),
    )

pub returns-clause-kept : goal.returns-clause-kept
returns-clause-kept g c = λ a b. c.serve-served.ensures.kept (λ e. no_end c.in_ok-finished.finished (sym e ∙ c.in_ok-finished.ensures.ends))
