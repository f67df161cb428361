use Rattle.std.proofs.Common.{◌≡◌, ◌++◌}
use Rattle.shape_build.specs.Text.{below, before_record}
use Rattle.shape_build.specs.Records.{firsts, chained_cut, chained_record}
use Rattle.shape_build.proofs.buckets_document.put_chained.Given as goal

abbrev pub invariant-records : goal.invariant-records
invariant-records l =
    (l.text ≡ l.fn.text ++ below l.i (λ i. before_record (chained_cut l.n) i ++ chained_record l.fn.draws.seed i)) × (l.draws ≡ record l.fn.draws { count = l.i }) × (l.begins ≡ firsts l.i)
