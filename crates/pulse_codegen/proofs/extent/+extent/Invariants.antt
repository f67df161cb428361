use Rattle.std.proofs.Common.{◌+◌, ◌-◌, ◌*◌}
use Rattle.iter_unroll.specs.Flat.{end}
use Rattle.iter_unroll.specs.Limits.{fx_nodes, fs_nodes}
use Rattle.iter_unroll.specs.Tree.{fx, fst, fsts}
use Rattle.pulse_codegen.proofs.Rows.{Counted}
use Rattle.pulse_codegen.proofs.extent.+extent.Given as goal

abbrev pub decreases-stmt_extent : goal.decreases-stmt_extent
decreases-stmt_extent l = 3 * fs_nodes (fst l.stmt.now end)

abbrev pub decreases-extent_of : goal.decreases-extent_of
decreases-extent_of l = 3 * fs_nodes (fsts l.stmts.now) + 1

abbrev pub invariant-extent_of-row : goal.invariant-extent_of-row
invariant-extent_of-row l = Counted l.stmts l.stmt-index l.len l.leaves

abbrev pub decreases-if_extent : goal.decreases-if_extent
decreases-if_extent l = 3 * (1 + fx_nodes (fx l.test.now) + fs_nodes (fsts l.yes.now) + fs_nodes (fsts l.no.now)) - 1
