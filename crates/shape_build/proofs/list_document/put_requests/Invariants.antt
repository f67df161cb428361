use Rattle.std.proofs.Common.{◌≡◌, ◌+◌, ◌++◌}
use Rattle.shape_build.specs.Text.{below}
use Rattle.shape_build.specs.Documents.{list_pair}
use Rattle.shape_build.proofs.list_document.put_requests.Given as goal

abbrev pub invariant-pairs : goal.invariant-pairs
invariant-pairs l = (l.text ≡ l.fn.text ++ below l._p (list_pair l.n l.fn.draws.seed)) × (l.draws ≡ record l.fn.draws { count = l.n + l._p })
