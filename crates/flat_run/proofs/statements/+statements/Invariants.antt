use Rattle.std.proofs.Common.{◌≡◌, ℕ, ◌+◌, ◌-◌, ◌*◌, ◌≤◌, List, drop}
use Rattle.iter_syntax.specs.declared.tree.Stmt.{Stmt}
use Rattle.iter_syntax.specs.Tree.{st, sts, block, end}
use Rattle.iter_check.specs.State.{Setting, State}
use Rattle.iter_check.specs.Meaning.{meaning, turns}
use Rattle.flat_run.specs.Views.Interpreter.{setting_of, state_of}
use Rattle.flat_run.proofs.StsLaws.{weight}
use Rattle.flat_run.proofs.statements.+statements.Given as goal

-- the statements that are left do to the state what all of them do to the first one
pub record Row (g : Setting) (before now : State) (stmts : List Stmt) (at : ℕ) : Type 0 where
  pub same : meaning g (sts stmts) before ≡ meaning g (sts (drop at stmts)) now
  pub left : weight (sts (drop at stmts)) ≤ weight (sts stmts)

abbrev pub invariant-run_row-row : goal.invariant-run_row-row
invariant-run_row-row l = Row (setting_of l.setting) (state_of l.fn.state) (state_of l.state) l.stmts l.s-index

abbrev pub invariant-run_loop-turns : goal.invariant-run_loop-turns
invariant-run_loop-turns l =
    let f = meaning (setting_of l.setting) (block l.body) in
    turns l.name l.first (l.past - l.first) f (state_of l.fn.state) ≡ turns l.name l.i (l.past - l.i) f (state_of l.state)

abbrev pub decreases-run_loop-turns : goal.decreases-run_loop-turns
decreases-run_loop-turns l = l.past - l.i

abbrev pub decreases-run_stmt : goal.decreases-run_stmt
decreases-run_stmt l = 4 * weight (st l.s.now end)

abbrev pub decreases-run_block : goal.decreases-run_block
decreases-run_block l = 4 * weight (block l.body.now) + 2

abbrev pub decreases-run_turn : goal.decreases-run_turn
decreases-run_turn l = 4 * weight (block l.body.now) + 2

abbrev pub decreases-run_loop : goal.decreases-run_loop
decreases-run_loop l = 4 * weight (block l.body.now) + 3

abbrev pub decreases-run_row : goal.decreases-run_row
decreases-run_row l = 4 * weight (sts l.stmts.now) + 1
