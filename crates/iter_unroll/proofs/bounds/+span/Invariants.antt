use Rattle.std.proofs.Common.{◌≡◌, ◌+◌, ◌*◌, ◌≤◌, drop}
use Rattle.iter_unroll.specs.Flat.{end}
use Rattle.iter_unroll.specs.Tree.{fst, fsts}
use Rattle.iter_unroll.specs.Limits.{fs_nodes}
use Rattle.iter_unroll.specs.unrolling.Bounds.{bounds_of, wider_fs}
use Rattle.iter_unroll.proofs.bounds.+span.Given as goal

pub record Row (a : Type 0) (b : Type 0) : Type 0 where
  pub same : a
  pub left : b

abbrev pub invariant-wider_row-row : goal.invariant-wider_row-row
invariant-wider_row-row l =
    Row
    (wider_fs (bounds_of l.fn.bounds) (fsts l.stmts) ≡ wider_fs (bounds_of l.all) (fsts (drop l.s-index l.stmts)))
    (fs_nodes (fsts (drop l.s-index l.stmts)) ≤ fs_nodes (fsts l.stmts))

abbrev pub decreases-wider_stmt : goal.decreases-wider_stmt
decreases-wider_stmt l = 2 * fs_nodes (fst l.s.now end)

abbrev pub decreases-wider_row : goal.decreases-wider_row
decreases-wider_row l = 2 * fs_nodes (fsts l.stmts.now) + 1
