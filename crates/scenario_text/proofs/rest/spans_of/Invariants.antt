use Rattle.std.proofs.Common.{◌≡◌, map, take}
use Rattle.scenario_text.proofs.rest.spans_of.Given as goal

abbrev pub invariant-regions : goal.invariant-regions
invariant-regions l = l.spans ≡ map (λ r. r.span) (take l.region-index l.regions)
