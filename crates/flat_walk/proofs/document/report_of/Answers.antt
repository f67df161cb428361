use Rattle.std.proofs.Common.{List, sym, subst}
use Rattle.node_core.specs.Part.{PartState}
use Rattle.scenario_text.specs.declared.scenario.Scenario.{Scenario}
use Rattle.scenario_text.specs.Accepted.{IsRunnable}
use Rattle.scenario_parts.specs.Yards.{GivesBack}
use Rattle.replay.specs.Report.{IsReplayed}
use Rattle.flat_walk.proofs.OneWalk.{asked_runs}
use Rattle.flat_walk.proofs.Walks.{reports}
use Rattle.flat_walk.proofs.document.report_of.Goals as goal

pub run_scenario-requires : goal.run_scenario-requires
run_scenario-requires g c = subst IsRunnable (sym c.in_ok-asked.ensures) (asked_runs c.args.scenario c.requires.runnable)

pub returns : goal.returns
returns g c =
    let old = g.Y.Yard.returned c.args.yard.now in
    let new = g.Y.Yard.returned c.run_scenario.new.yard in
    let left = c.in_ok-left.left in
    reports c.args.scenario left old new c.report.result c.requires.one
    (subst (λ (s : Scenario). (parts : List PartState) × IsReplayed s left parts × GivesBack old new parts) c.in_ok-asked.ensures c.in_ok-left.ensures)
    c.report.ensures
