use Rattle.std.proofs.Common.{◌≡◌, ◌&&◌, drop}
use Rattle.iter_unroll.specs.Tree.{fsts}
use Rattle.flat_hoist.specs.hoisting.Clear.{clear}
use Rattle.flat_hoist.proofs.clear.+clear.Given as goal

abbrev pub invariant-is_clear-row : goal.invariant-is_clear-row
invariant-is_clear-row l = clear l.fn.field l.fn.slot (fsts l.stmts) ≡ (l.all && clear l.fn.field l.fn.slot (fsts (drop l.s-index l.stmts)))
