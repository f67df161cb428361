use Rattle.std.proofs.Common.{◌≡◌, map, take}
use Rattle.scenario_parts.proofs.switch.table_of.Given as goal

abbrev pub invariant-spans : goal.invariant-spans
invariant-spans l = l.spans ≡ map (λ r. r.span) (take l.region-index l.regions)
