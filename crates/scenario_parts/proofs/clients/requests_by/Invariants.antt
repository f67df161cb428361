use Rattle.std.proofs.Common.{◌≡◌, take}
use Rattle.scenario_parts.specs.Clients.{requests_by}
use Rattle.scenario_parts.proofs.clients.requests_by.Given as goal

abbrev pub invariant-requests : goal.invariant-requests
invariant-requests l = l.own ≡ requests_by l.client (take l.request-index l.requests)
