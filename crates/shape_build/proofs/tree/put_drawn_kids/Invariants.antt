use Rattle.std.proofs.Common.{◌≡◌, ◌+◌, ◌≤◌, ◌++◌}
use Rattle.shape_build.specs.Draws.{draw}
use Rattle.shape_build.specs.Text.{below}
use Rattle.shape_build.specs.Tree.{filled}
use Rattle.shape_build.proofs.tree.put_drawn_kids.Given as goal

abbrev pub invariant-kids : goal.invariant-kids
invariant-kids l =
    (l.text ≡ l.fn.text ++ below l._j (filled l.count (λ j. draw l.fn.draws.seed (l.fn.draws.count + j)))) × (l.draws ≡ record l.fn.draws { count = l.fn.draws.count + l._j })

abbrev pub invariant-zeros : goal.invariant-zeros
invariant-zeros l =
    (l.text ≡ l.fn.text ++ below l._j (filled l.count (λ j. draw l.fn.draws.seed (l.fn.draws.count + j)))) × (l.count ≤ l._j)
