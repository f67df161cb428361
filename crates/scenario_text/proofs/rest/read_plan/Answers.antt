use Rattle.std.proofs.Common.{arith}
use Rattle.toml.specs.View.{table_view}
use Rattle.scenario_text.specs.Values.{clients_of, requests_of}
use Rattle.scenario_text.proofs.Runnable.{FormFacts, form_facts, small_clients}
use Rattle.scenario_text.proofs.rest.read_plan.Goals as goal

pub read_requests-requires-clause-clients : goal.read_requests-requires-clause-clients
read_requests-requires-clause-clients c =
    let ms = table_view c.args.table.now in
    let facts : FormFacts ms = form_facts ms c.requires.form in
    rw c.list_at-values.ensures.items (small_clients (clients_of ms) 0 (requests_of ms) facts.top.clients.1 facts.requests)

pub read_requests-requires-clause-few : goal.read_requests-requires-clause-few
read_requests-requires-clause-few c =
    let facts : FormFacts (table_view c.args.table.now) = form_facts (table_view c.args.table.now) c.requires.form in
    omega (arith, c.list_at-values.ensures.len, facts.lists.requests)

pub read_events-requires : goal.read_events-requires
read_events-requires c =
    let facts : FormFacts (table_view c.args.table.now) = form_facts (table_view c.args.table.now) c.requires.form in
    record { few = omega (arith, c.list_at.ensures.len, facts.lists.events) }

pub plan_with-requires : goal.plan_with-requires
plan_with-requires c = (form_facts (table_view c.args.table.now) c.requires.form).keys
