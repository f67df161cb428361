use Rattle.std.proofs.Common.{◌≤◌, Err, map, refl, sym, ap, subst, ◌∙◌}
use Rattle.std.specs.Prelude.{All}
use Rattle.std.proofs.lemmas.Result.{err_from_is_err_and}
use Rattle.run_rules.specs.Switch.{SwitchState}
use Rattle.switch_core.specs.Owners.{IsNode}
use Rattle.scenario_text.specs.declared.plan.PlanRegion.{PlanRegion}
use Rattle.scenario_parts.proofs.Lists.{low_nodes, nodes_are}
use Rattle.pulse_serve.specs.Runs.{Serves}
use Rattle.pulse_serve.specs.SwitchRun.{switch_loop}
use Rattle.pulse_process.specs.Bound.{BoundTo, end_of}
use Rattle.pulse_process.proofs.Answering.{ended, neither, neither_of, no_end}
use Rattle.pulse_process.proofs.switch.run_switch.Goals as goal

pub serve-served-requires-clause-nodes : goal.serve-served-requires-clause-nodes
serve-served-requires-clause-nodes g c =
    let s = c.in_ok-scenario.scenario in
    let h = c.in_ok-scenario.ensures.runnable in
    subst (λ (x : SwitchState). All IsNode x.owners) (sym c.in_ok-switch.ensures)
    (nodes_are (s.plan).regions (map (λ (r : PlanRegion). r.node) (s.plan).regions) refl (low_nodes (s.plan).nodes (s.plan).regions h.nodes.1 h.regions.placed))

pub serve-served-requires-clause-clients : goal.serve-served-requires-clause-clients
serve-served-requires-clause-clients g c = subst (λ (x : SwitchState). x.clients ≤ 16) (sym c.in_ok-switch.ensures) c.in_ok-scenario.ensures.runnable.clients.1

pub returns-in_err-finished-clause-answer : goal.returns-in_err-finished-clause-answer
returns-in_err-finished-clause-answer g c =
    let p = err_from_is_err_and c.from_residual-in_err-finished.result c.from_residual-in_err-finished.ensures.1 in
    rw (p.1, p.2) (ended c.args.text.now (λ l. ⊥) c.in_err-finished.field-0.0 c.in_err-finished.ensures.fault)

pub returns-in_err-finished-clause-kept : goal.returns-in_err-finished-clause-kept
returns-in_err-finished-clause-kept g c =
    let p = err_from_is_err_and c.from_residual-in_err-finished.result c.from_residual-in_err-finished.ensures.1 in
    neither_of c.from_residual-in_err-finished.result c.in_err-finished.field-0.0 (p.1 ∙ ap Err p.2) c.in_err-finished.ensures.fault

pub returns-in_err-finished-clause-refused : goal.returns-in_err-finished-clause-refused
returns-in_err-finished-clause-refused g c =
    let p = err_from_is_err_and c.from_residual-in_err-finished.result c.from_residual-in_err-finished.ensures.1 in
    rw (p.1, p.2) (neither c.in_err-finished.field-0.0 c.in_err-finished.ensures.fault)

pub returns-clause-answer : goal.returns-clause-answer
returns-clause-answer g c =
    let s = c.in_ok-scenario.scenario in
    let end = c.in_ok-finished.finished in
    let served = c.serve-served.ensures.serves end c.in_ok-finished.ensures.ends in (
      s,
      c.in_ok-scenario.ensures.scenario,
      record {
        serves = subst (λ (x : SwitchState). BoundTo (s.plan).port (g.L.Link.traffic c.args.net.now) (g.L.Link.traffic c.serve-served.new.net) (λ rs ss. Serves (switch_loop (s.plan).port) c.args.turns (end_of end) x rs x ss)) c.in_ok-switch.ensures served;
        text = c.new.ensures;
      },
    )

pub returns-clause-kept : goal.returns-clause-kept
returns-clause-kept g c = λ a b. c.serve-served.ensures.kept (λ e. no_end c.in_ok-finished.finished (sym e ∙ c.in_ok-finished.ensures.ends))
