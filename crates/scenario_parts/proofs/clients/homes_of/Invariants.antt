use Rattle.std.proofs.Common.{◌≡◌, map, take}
use Rattle.scenario_parts.proofs.clients.homes_of.Given as goal

abbrev pub invariant-homes : goal.invariant-homes
invariant-homes l = l.homes ≡ map (λ q. q.client) (take l.request-index l.requests)
