use Rattle.std.proofs.Common.{◌≡◌, ℕ, ◌+◌, ◌-◌, ◌*◌, ◌≤◌, List, drop}
use Rattle.iter_syntax.specs.declared.tree.Stmt.{Stmt}
use Rattle.iter_syntax.specs.Tree.{st, sts, block, end}
use Rattle.iter_unroll.specs.declared.tree.FlatStmt.{FlatStmt}
use Rattle.iter_unroll.specs.declared.scope.Scope.{Scope}
use Rattle.iter_unroll.specs.unrolling.Scope.{Shape}
use Rattle.iter_unroll.specs.unrolling.Views.{shape_of}
use Rattle.iter_unroll.specs.unrolling.Steps.{ahead, flat_in, Grew}
use Rattle.iter_unroll.proofs.unrolling.Rows.{Loop, turn_of}
use Rattle.iter_unroll.proofs.unrolling.Weights.{weight, weight_of}
use Rattle.iter_unroll.proofs.block.+unroll.Given as goal

pub record Row (sh : Shape) (before now : Scope) (old out : List FlatStmt) (stmts : List Stmt) (at : ℕ) : Type 0 where
  pub same : ahead old (flat_in sh before (sts stmts)) ≡ ahead out (flat_in sh now (sts (drop at stmts)))
  pub grows : Grew before now
  pub left : weight (sts (drop at stmts)) ≤ weight (sts stmts)

abbrev pub invariant-unroll_row-row : goal.invariant-unroll_row-row
invariant-unroll_row-row l = Row (shape_of l.shape) l.fn.scope l.scope l.fn.out l.out l.stmts l.s-index

abbrev pub invariant-unroll_loop-turns : goal.invariant-unroll_loop-turns
invariant-unroll_loop-turns l =
    Loop (turn_of (shape_of l.shape) l.fn.scope l.name (block l.body)) l.fn.scope l.scope l.fn.out l.out l.first l.i l.past

abbrev pub decreases-unroll_loop-turns : goal.decreases-unroll_loop-turns
decreases-unroll_loop-turns l = l.past - l.i

abbrev pub decreases-unroll_stmt : goal.decreases-unroll_stmt
decreases-unroll_stmt l = 4 * weight (st l.s.now end)

abbrev pub decreases-flat_if : goal.decreases-flat_if
decreases-flat_if l = 4 * (weight (block l.yes.now) + weight_of l.no.now) + 3

abbrev pub decreases-unroll_block : goal.decreases-unroll_block
decreases-unroll_block l = 4 * weight (block l.body.now) + 2

abbrev pub decreases-unroll_turn : goal.decreases-unroll_turn
decreases-unroll_turn l = 4 * weight (block l.body.now) + 2

abbrev pub decreases-unroll_loop : goal.decreases-unroll_loop
decreases-unroll_loop l = 4 * weight (block l.body.now) + 3

abbrev pub decreases-unroll_row : goal.decreases-unroll_row
decreases-unroll_row l = 4 * weight (sts l.stmts.now) + 1
