use Rattle.std.proofs.Common.{◌+◌, nat_eq, sym, ap, subst, ◌∙◌, arith}
use Rattle.std.specs.List.{IsDistinct}
use Rattle.std.proofs.lemmas.Result.{err_from_is_err_and}
use Rattle.iter_syntax.specs.declared.tree.Program.{Program}
use Rattle.client_core.specs.Requests.{ClientState}
use Rattle.pulse_codegen.specs.Compiled.{CompilesAll}
use Rattle.scenario_text.specs.Accepted.{IsRunnable}
use Rattle.pulse_serve.specs.ClientRun.{ServesClient, numbers}
use Rattle.pulse_process.specs.Bound.{BoundTo, end_of}
use Rattle.pulse_process.specs.Answer.{LacksClient}
use Rattle.pulse_process.proofs.Answering.{ended, no_end, refused}
use Rattle.pulse_process.proofs.Asking.{first_differ}
use Rattle.pulse_process.proofs.ask.run_ask.Goals as goal

pub client_of-requires : goal.client_of-requires
client_of-requires g c =
    let s = c.in_ok-scenario.scenario in
    subst (λ (p : Program). IsRunnable (record { checked = p; plan = s.plan })) (sym c.in_ok-built.ensures) c.in_ok-scenario.ensures.runnable

pub client_text-requires : goal.client_text-requires
client_text-requires g c =
    let s = c.in_ok-scenario.scenario in
    let built = c.in_ok-built.built in
    let runnable = subst (λ (p : Program). IsRunnable (record { checked = p; plan = s.plan })) (sym c.in_ok-built.ensures) c.in_ok-scenario.ensures.runnable in
    record {
      differ = subst (IsDistinct nat_eq) (sym (c.ask_bound-served.ensures.requests ∙ ap numbers c.in_ok-asking.ensures))
          (first_differ (record { checked = built.checked; plan = s.plan }) built.images built.compiled runnable c.args.client);
    }

pub returns-in_err-scenario-clause-answer : goal.returns-in_err-scenario-clause-answer
returns-in_err-scenario-clause-answer g c =
    let p = err_from_is_err_and c.from_residual.result c.from_residual.ensures.1 in
    rw (p.1, p.2) (refused c.args.text.now (LacksClient c.args.text.now c.args.client) c.in_err-scenario.field-0.0 c.in_err-scenario.ensures.refused)

pub returns-in_err-finished-clause-answer : goal.returns-in_err-finished-clause-answer
returns-in_err-finished-clause-answer g c =
    let p = err_from_is_err_and c.from_residual-in_err-finished.result c.from_residual-in_err-finished.ensures.1 in
    rw (p.1, p.2) (ended c.args.text.now (LacksClient c.args.text.now c.args.client) c.in_err-finished.field-0.0 c.in_err-finished.ensures.fault)

pub returns-clause-answer : goal.returns-clause-answer
returns-clause-answer g c =
    let s = c.in_ok-scenario.scenario in
    let built = c.in_ok-built.built in
    let end = c.in_ok-finished.finished in
    let now = c.ask_bound-served.new.client in
    let served = c.ask_bound-served.ensures.serves end c.in_ok-finished.ensures.ends in (
      s,
      c.in_ok-scenario.ensures.scenario,
      record {
        there = omega arith;
        images = built.images;
        compiled = subst (λ (p : Program). CompilesAll p built.images) c.in_ok-built.ensures built.compiled;
        client = now;
        serves = subst (λ (x : ClientState). BoundTo ((s.plan).port + 65 + c.args.client) (g.L.Link.traffic c.args.net.now) (g.L.Link.traffic c.ask_bound-served.new.net) (λ rs ss. ServesClient (s.plan).port c.args.turns (end_of end) x rs now ss)) c.in_ok-asking.ensures served;
        text = c.in_ok-text.ensures;
      },
    )

pub returns-clause-kept : goal.returns-clause-kept
returns-clause-kept g c = λ a b. c.ask_bound-served.ensures.kept (λ e. no_end c.in_ok-finished.finished (sym e ∙ c.in_ok-finished.ensures.ends))
