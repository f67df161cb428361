use Rattle.std.proofs.Common.{◌+◌, ◌*◌}
use Rattle.iter_unroll.specs.Flat.{end}
use Rattle.iter_unroll.specs.Limits.{fs_nodes}
use Rattle.iter_unroll.specs.Tree.{fst, fsts}
use Rattle.flat_hoist.proofs.Rows.{Counted}
use Rattle.flat_hoist.proofs.count.+count.Given as goal

abbrev pub invariant-count_row-row : goal.invariant-count_row-row
invariant-count_row-row l = Counted l.fn.field l.stmts l.s-index l.all.nodes l.all.reads

abbrev pub decreases-count_stmt : goal.decreases-count_stmt
decreases-count_stmt l = 2 * fs_nodes (fst l.s.now end)

abbrev pub decreases-count_row : goal.decreases-count_row
decreases-count_row l = 2 * fs_nodes (fsts l.stmts.now) + 1
