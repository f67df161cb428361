use Rattle.std.proofs.Common.{◌≡◌, ◌++◌}
use Rattle.std.specs.Prelude.{slice_index_or}
use Rattle.shape_build.specs.Text.{below, before_record}
use Rattle.shape_build.specs.Records.{record_text, heads_cut}
use Rattle.shape_build.proofs.buckets_document.put_heads.Given as goal

abbrev pub invariant-heads : goal.invariant-heads
invariant-heads l = l.text ≡ l.fn.text ++ below l.j (λ j. before_record heads_cut j ++ record_text 0 0 (slice_index_or l.begins j 0))
