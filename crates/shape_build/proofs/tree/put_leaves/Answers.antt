use Rattle.std.proofs.Common.{sym, ◌++◌, ap, arith}
use Rattle.shape_build.specs.Draws.{Drawn}
use Rattle.shape_build.specs.Text.{before_record}
use Rattle.shape_build.specs.Tree.{leaf_text}
use Rattle.shape_build.proofs.Below.{begins, goes_on_by_two}
use Rattle.shape_build.proofs.Drawing.{drawn_so_far, drawn_to}
use Rattle.shape_build.proofs.tree.put_leaves.Goals as goal

pub leaves-init : goal.leaves-init
leaves-init c = (begins _ _, drawn_so_far _ _ (omega arith))

pub leaves-preserved : goal.leaves-preserved
leaves-preserved c = (
  goes_on_by_two _ _ _ _ _ _ _ _ c.leaves.invariant.0 c.in_ok-put_before.ensures c.in_ok-put_leaf.ensures.leaf
      (ap (λ (d : Drawn). before_record c.args.cut.now c.leaves.l ++ leaf_text c.args.n d.seed c.leaves.l) (sym c.leaves.invariant.1)),
  drawn_to _ _ _ _ _ _ c.leaves.invariant.1 c.in_ok-put_leaf.ensures.drawn (omega arith),
)
