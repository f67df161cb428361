use Rattle.std.proofs.Common.{◌≡◌, ◌*◌, ◌++◌}
use Rattle.std.specs.Prelude.{min}
use Rattle.shape_build.specs.Text.{below, before_record}
use Rattle.shape_build.specs.Tree.{leaf_text}
use Rattle.shape_build.proofs.tree.put_leaves.Given as goal

abbrev pub invariant-leaves : goal.invariant-leaves
invariant-leaves l =
    (l.text ≡ l.fn.text ++ below l.l (λ k. before_record l.cut k ++ leaf_text l.n l.fn.draws.seed k)) × (l.draws ≡ record l.fn.draws { count = min l.n (15 * l.l) })
