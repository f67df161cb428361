use Rattle.std.proofs.Common.{◌≡◌, ◌+◌, ◌*◌, ◌++◌}
use Rattle.shape_build.specs.Text.{below}
use Rattle.shape_build.specs.Documents.{btree_pair}
use Rattle.shape_build.proofs.btree_document.put_requests.Given as goal

abbrev pub invariant-pairs : goal.invariant-pairs
invariant-pairs l = (l.text ≡ l.fn.text ++ below l._p (btree_pair l.n l.fn.draws.seed l.root)) × (l.draws ≡ record l.fn.draws { count = l.n + 3 * l._p })
