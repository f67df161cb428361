use Rattle.std.proofs.Common.{sym, subst, ap, ◌∙◌}
use Rattle.client_core.specs.Requests.{ArePlans}
use Rattle.scenario_text.specs.declared.scenario.Scenario.{Scenario}
use Rattle.scenario_parts.specs.Clients.{requests_by}
use Rattle.scenario_parts.proofs.Plans.{plans_are}
use Rattle.scenario_parts.proofs.clients.client_of.Goals as goal

pub make-requires-clause-plans : goal.make-requires-clause-plans
make-requires-clause-plans c =
    let s : Scenario = record { checked = c.args.built.now.checked; plan = c.args.plan.now } in
    let own = c.in_ok-requests.ensures ∙ ap (requests_by c.args.client) c.as_slice.ensures in
    subst (λ images. ArePlans c.args.client images c.in_ok-requests.requests) (sym c.in_ok-images.ensures)
    (subst (ArePlans c.args.client c.args.built.now.images) (sym own) (plans_are s c.args.built.now.images c.args.built.now.compiled c.requires.requests c.args.client))
