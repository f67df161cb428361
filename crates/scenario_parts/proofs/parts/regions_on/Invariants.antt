use Rattle.std.proofs.Common.{◌≡◌, ◌++◌, drop}
use Rattle.scenario_run.specs.Start.{regions_on}
use Rattle.scenario_parts.proofs.parts.regions_on.Given as goal

abbrev pub invariant-regions : goal.invariant-regions
invariant-regions l = l.own ++ regions_on l.n l.k (drop l.k l.regions) ≡ regions_on l.n 0 l.regions
