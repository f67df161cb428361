use Rattle.std.proofs.Common.{◌+◌, ◌*◌}
use Rattle.iter_unroll.specs.Flat.{end}
use Rattle.iter_unroll.specs.Limits.{fs_nodes}
use Rattle.iter_unroll.specs.Tree.{fst, fsts}
use Rattle.flat_hoist.proofs.Rows.{Swapped}
use Rattle.flat_hoist.proofs.swap.+swap.Given as goal

abbrev pub invariant-swap_row-row : goal.invariant-swap_row-row
invariant-swap_row-row l = Swapped l.fn.field l.fn.slot l.fn.head l.row l.stmts l.s-index

abbrev pub decreases-swap_stmt : goal.decreases-swap_stmt
decreases-swap_stmt l = 2 * fs_nodes (fst l.s.now end)

abbrev pub decreases-swap_row : goal.decreases-swap_row
decreases-swap_row l = 2 * fs_nodes (fsts l.stmts.now) + 1
