use Rattle.std.proofs.Common.{◌+◌, ◌*◌, ◌≤◌, drop}
use Rattle.iter_unroll.specs.Flat.{end}
use Rattle.iter_unroll.specs.Limits.{fs_nodes}
use Rattle.iter_unroll.specs.Tree.{fst, fsts}
use Rattle.flat_hoist.proofs.fields.+note.Given as goal

abbrev pub invariant-note_row-row : goal.invariant-note_row-row
invariant-note_row-row l = fs_nodes (fsts (drop l.s-index l.stmts)) ≤ fs_nodes (fsts l.stmts)

abbrev pub decreases-note_stmt : goal.decreases-note_stmt
decreases-note_stmt l = 2 * fs_nodes (fst l.s.now end)

abbrev pub decreases-note_row : goal.decreases-note_row
decreases-note_row l = 2 * fs_nodes (fsts l.stmts.now) + 1
