use Rattle.std.proofs.Common.{◌≡◌, ◌++◌, drop}
use Rattle.world_core.specs.Scene.{world_of}
use Rattle.replay.specs.Report.{out_regions}
use Rattle.replay.proofs.telling.regions_of.Given as goal

abbrev pub invariant-regions : goal.invariant-regions
invariant-regions g l = l.out ++ out_regions (world_of l.world) l.k (drop l.k l.regions) ≡ out_regions (world_of l.world) 0 l.regions
