use Rattle.std.proofs.Common.{◌≡◌, ◌++◌}
use Rattle.shape_build.specs.Text.{below, before_record}
use Rattle.shape_build.specs.Records.{list_cut, list_record}
use Rattle.shape_build.proofs.list_document.put_records.Given as goal

abbrev pub invariant-records : goal.invariant-records
invariant-records l =
    (l.text ≡ l.fn.text ++ below l.i (λ i. before_record (list_cut l.n) i ++ list_record l.n l.fn.draws.seed i)) × (l.draws ≡ record l.fn.draws { count = l.i })
