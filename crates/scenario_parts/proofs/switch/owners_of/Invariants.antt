use Rattle.std.proofs.Common.{◌≡◌, map, take}
use Rattle.scenario_parts.proofs.switch.owners_of.Given as goal

abbrev pub invariant-owners : goal.invariant-owners
invariant-owners l = l.owners ≡ map (λ r. r.node) (take l.region-index l.regions)
