use Rattle.std.proofs.Common.{◌≡◌, ◌+◌, ◌++◌}
use Rattle.shape_build.specs.Text.{below}
use Rattle.shape_build.specs.Tree.{filled, tree_address}
use Rattle.shape_build.proofs.tree.put_addresses.Given as goal

abbrev pub invariant-kids : goal.invariant-kids
invariant-kids l = l.text ≡ l.fn.text ++ below l.j (filled l.count (λ j. tree_address (l.first + j)))
