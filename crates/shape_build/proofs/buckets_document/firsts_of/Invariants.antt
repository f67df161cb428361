use Rattle.std.proofs.Common.{◌≡◌}
use Rattle.shape_build.specs.Records.{firsts}
use Rattle.shape_build.proofs.buckets_document.firsts_of.Given as goal

abbrev pub invariant-records : goal.invariant-records
invariant-records l = l.begins ≡ firsts l.i
