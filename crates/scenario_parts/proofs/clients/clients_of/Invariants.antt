use Rattle.std.proofs.Common.{◌≡◌, ◌++◌, ◌-◌}
use Rattle.scenario_parts.specs.Clients.{first_clients}
use Rattle.scenario_parts.proofs.clients.clients_of.Given as goal

abbrev pub invariant-clients : goal.invariant-clients
invariant-clients l = l.clients.items ++ first_clients l.plan l.built.images l.client (l.plan.clients - l.client) ≡ first_clients l.plan l.built.images 0 l.plan.clients
