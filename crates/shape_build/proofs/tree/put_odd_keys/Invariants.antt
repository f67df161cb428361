use Rattle.std.proofs.Common.{◌≡◌, ◌+◌, ◌*◌, ◌++◌}
use Rattle.shape_build.specs.Text.{below}
use Rattle.shape_build.specs.Tree.{filled}
use Rattle.shape_build.proofs.tree.put_odd_keys.Given as goal

abbrev pub invariant-keys : goal.invariant-keys
invariant-keys l = l.text ≡ l.fn.text ++ below l.j (filled l.count (λ j. 2 * (l.first + j) + 1))
