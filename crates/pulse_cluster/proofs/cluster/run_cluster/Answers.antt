use Rattle.std.proofs.Common.{nat_eq, Err, refl, sym, ap, subst, ◌∙◌, rules}
use Rattle.std.specs.List.{IsDistinct}
use Rattle.iter_syntax.specs.declared.tree.Program.{Program}
use Rattle.pulse_codegen.specs.Compiled.{CompilesAll}
use Rattle.scenario_text.specs.Accepted.{IsRunnable}
use Rattle.pulse_serve.specs.ClientRun.{numbers}
use Rattle.pulse_process.specs.declared.fault.ProcessFault.TheVariants as fault
use Rattle.pulse_process.proofs.Answering.{no_end, rose_after}
use Rattle.pulse_process.proofs.Asking.{first_differ}
use Rattle.pulse_cluster.specs.Answer.{ClusterAnswer}
use Rattle.pulse_cluster.proofs.Faults.{IsOutside, refused, passed, not_started, not_asked, link_outside, child_outside, memory_outside, barred, kept_over, is_it}
use Rattle.pulse_cluster.proofs.Whole.{clustered}
use Rattle.pulse_cluster.proofs.cluster.run_cluster.Goals as goal

pub client_of-requires : goal.client_of-requires
client_of-requires g c =
    let s = c.in_ok-scenario.scenario in
    subst (λ (p : Program). IsRunnable (record { checked = p; plan = s.plan })) (sym c.in_ok-built.ensures) c.in_ok-scenario.ensures.runnable

pub client_text-requires : goal.client_text-requires
client_text-requires g c =
    let s = c.in_ok-scenario.scenario in
    let built = c.in_ok-built.built in
    let runnable = subst (λ (p : Program). IsRunnable (record { checked = p; plan = s.plan })) (sym c.in_ok-built.ensures) c.in_ok-scenario.ensures.runnable in
    record {
      differ =
          subst (IsDistinct nat_eq) (sym (c.ask_bound-served.ensures.requests ∙ ap numbers c.in_ok-client.ensures))
          (first_differ (record { checked = built.checked; plan = s.plan }) built.images built.compiled runnable 0);
    }

pub returns-in_err-scenario-clause-answer : goal.returns-in_err-scenario-clause-answer
returns-in_err-scenario-clause-answer g c =
    passed (ClusterAnswer c.args.text.now c.args.turns (g.L.Link.traffic c.args.net.now) (g.L.Link.traffic c.args.net.now) (g.S.Spawner.family c.args.kids.now) (g.S.Spawner.family c.args.kids.now)) c.from_residual.result c.in_err-scenario.field-0.0 c.from_residual.ensures.1
    (refused c.args.text.now c.args.turns (g.L.Link.traffic c.args.net.now) (g.L.Link.traffic c.args.net.now) (g.S.Spawner.family c.args.kids.now) (g.S.Spawner.family c.args.kids.now) c.in_err-scenario.field-0.0 c.in_err-scenario.ensures.refused)

pub returns-in_err-started-clause-answer : goal.returns-in_err-started-clause-answer
returns-in_err-started-clause-answer g c =
    passed (ClusterAnswer c.args.text.now c.args.turns (g.L.Link.traffic c.args.net.now) (g.L.Link.traffic c.args.net.now) (g.S.Spawner.family c.args.kids.now) (g.S.Spawner.family c.start_all.new.kids)) c.from_residual-in_err-started.result c.in_err-started.field-0.0 c.from_residual-in_err-started.ensures.1
    (not_started (λ e. ClusterAnswer c.args.text.now c.args.turns (g.L.Link.traffic c.args.net.now) (g.L.Link.traffic c.args.net.now) (g.S.Spawner.family c.args.kids.now) (g.S.Spawner.family c.start_all.new.kids) (Err e)) c.in_err-started.field-0.0 c.in_err-started.ensures.fault tt tt)

pub returns-in_err-started-clause-refused : goal.returns-in_err-started-clause-refused
returns-in_err-started-clause-refused g c =
    barred _ c.from_residual-in_err-started.result c.in_err-started.field-0.0 c.from_residual-in_err-started.ensures.1 (not_started IsOutside c.in_err-started.field-0.0 c.in_err-started.ensures.fault child_outside memory_outside)

pub returns-in_err-finished-clause-answer : goal.returns-in_err-finished-clause-answer
returns-in_err-finished-clause-answer g c =
    passed (ClusterAnswer c.args.text.now c.args.turns (g.L.Link.traffic c.args.net.now) (g.L.Link.traffic c.ask_bound-served.new.net) (g.S.Spawner.family c.args.kids.now) (g.S.Spawner.family c.start_all.new.kids)) c.from_residual-in_err-finished.result c.in_err-finished.field-0.0 c.from_residual-in_err-finished.ensures.1
    (not_asked (λ e. ClusterAnswer c.args.text.now c.args.turns (g.L.Link.traffic c.args.net.now) (g.L.Link.traffic c.ask_bound-served.new.net) (g.S.Spawner.family c.args.kids.now) (g.S.Spawner.family c.start_all.new.kids) (Err e)) c.in_err-finished.field-0.0 c.in_err-finished.ensures.fault tt tt)

pub returns-in_err-finished-clause-refused : goal.returns-in_err-finished-clause-refused
returns-in_err-finished-clause-refused g c =
    barred _ c.from_residual-in_err-finished.result c.in_err-finished.field-0.0 c.from_residual-in_err-finished.ensures.1 (not_asked IsOutside c.in_err-finished.field-0.0 c.in_err-finished.ensures.fault link_outside memory_outside)

pub returns-in_err-stop_all-clause-link : goal.returns-in_err-stop_all-clause-link
returns-in_err-stop_all-clause-link g c =
    λ e. rose_after (g.L.Link.faults c.args.net.now) (g.L.Link.faults c.ask_bound-served.new.net) (g.L.Link.faults c.stop_all.new.net)
    (c.ask_bound-served.ensures.kept (λ q. no_end c.in_ok-finished.finished (sym q ∙ c.in_ok-finished.ensures.ends))) c.in_err-stop_all.ensures.cause.failed

pub returns-in_err-text-clause-answer : goal.returns-in_err-text-clause-answer
returns-in_err-text-clause-answer g c =
    passed (ClusterAnswer c.args.text.now c.args.turns (g.L.Link.traffic c.args.net.now) (g.L.Link.traffic c.stop_all.new.net) (g.S.Spawner.family c.args.kids.now) (g.S.Spawner.family c.wait_all.new.kids)) c.from_residual-in_err-text.result fault.Memory c.from_residual-in_err-text.ensures.1 tt

pub returns-in_err-text-clause-refused : goal.returns-in_err-text-clause-refused
returns-in_err-text-clause-refused g c =
    barred _ c.from_residual-in_err-text.result fault.Memory c.from_residual-in_err-text.ensures.1 memory_outside

-- ---- the counts of faults

pub returns-in_err-started-clause-children_kept : goal.returns-in_err-started-clause-children_kept
returns-in_err-started-clause-children_kept g c =
    kept_over _ c.from_residual-in_err-started.result _ c.in_err-started.field-0.0 fault.Child c.from_residual-in_err-started.ensures.1 refl c.in_err-started.ensures.kept

pub returns-in_err-finished-clause-link_kept : goal.returns-in_err-finished-clause-link_kept
returns-in_err-finished-clause-link_kept g c =
    kept_over _ c.from_residual-in_err-finished.result _ c.in_err-finished.field-0.0 fault.Link c.from_residual-in_err-finished.ensures.1 refl
    (λ n. c.ask_bound-served.ensures.kept (λ q. n (c.in_err-finished.ensures.lost q)))

pub returns-in_err-stop_all-clause-link_kept : goal.returns-in_err-stop_all-clause-link_kept
returns-in_err-stop_all-clause-link_kept g c =
    is_it _ c.from_residual-in_err-stop_all.result c.in_err-stop_all.field-0.0 fault.Link c.from_residual-in_err-stop_all.ensures.1 c.in_err-stop_all.ensures.fault

pub returns-in_err-wait_all-clause-children_kept : goal.returns-in_err-wait_all-clause-children_kept
returns-in_err-wait_all-clause-children_kept g c =
    is_it _ c.from_residual-in_err-wait_all.result c.in_err-wait_all.field-0.0 fault.Child c.from_residual-in_err-wait_all.ensures.1 c.in_err-wait_all.ensures.fault

pub returns-in_err-wait_all-clause-link_kept : goal.returns-in_err-wait_all-clause-link_kept
returns-in_err-wait_all-clause-link_kept g c =
    λ n. c.in_ok-stop_all.ensures.cause.kept
    ∙ c.ask_bound-served.ensures.kept (λ q. no_end c.in_ok-finished.finished (sym q ∙ c.in_ok-finished.ensures.ends))

pub returns-in_err-text-clause-link_kept : goal.returns-in_err-text-clause-link_kept
returns-in_err-text-clause-link_kept g c =
    λ n. c.in_ok-stop_all.ensures.cause.kept
    ∙ c.ask_bound-served.ensures.kept (λ q. no_end c.in_ok-finished.finished (sym q ∙ c.in_ok-finished.ensures.ends))

pub returns-clause-link_kept : goal.returns-clause-link_kept
returns-clause-link_kept g c =
    λ n. c.in_ok-stop_all.ensures.cause.kept
    ∙ c.ask_bound-served.ensures.kept (λ q. no_end c.in_ok-finished.finished (sym q ∙ c.in_ok-finished.ensures.ends))

pub returns-clause-answer : goal.returns-clause-answer
returns-clause-answer g c =
    let s = c.in_ok-scenario.scenario in
    let built = c.in_ok-built.built in
    let end = c.in_ok-finished.finished in (
      s,
      c.in_ok-scenario.ensures.scenario,
      clustered s c.args.text.now c.args.turns (g.L.Link.traffic c.args.net.now) (g.L.Link.traffic c.ask_bound-served.new.net) (g.L.Link.traffic c.stop_all.new.net)
          (g.S.Spawner.family c.args.kids.now) (g.S.Spawner.family c.start_all.new.kids) (g.S.Spawner.family c.wait_all.new.kids) (record { text = c.in_ok-text.text; finished = end })
          built.images c.in_ok-client.client c.ask_bound-served.new.client c.in_ok-started.started.items
          (search rules) (subst (λ (p : Program). CompilesAll p built.images) c.in_ok-built.ensures built.compiled) c.in_ok-client.ensures
          (c.ask_bound-served.ensures.serves end c.in_ok-finished.ensures.ends) c.in_ok-stop_all.ensures.sent c.in_ok-started.ensures.all c.in_ok-started.ensures.started c.in_ok-wait_all.ensures.waited
          c.in_ok-text.ensures,
    )
