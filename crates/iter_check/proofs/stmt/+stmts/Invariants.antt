use Rattle.std.proofs.Common.{◌≡◌, List, Option, drop}
use Rattle.iter_syntax.specs.declared.tree.Stmt.{Stmt}
use Rattle.iter_syntax.specs.Tree.{sts}
use Rattle.iter_check.specs.declared.kind.Fault.{Fault}
use Rattle.iter_check.specs.Scope.{Scope, Ground}
use Rattle.iter_check.specs.First.Expr.{ground_of}
use Rattle.iter_check.specs.First.Stmt.{first_scoping, Grows}
use Rattle.iter_check.proofs.stmt.+stmts.Given as goal

-- what is left to check gives what all statements give from the start on
pub record Row (g : Ground) (old now : Scope) (before after : Option Fault) (all left : List Stmt) : Type 0 where
  pub same : first_scoping g old (sts all) before ≡ first_scoping g now (sts left) after
  pub grows : Grows old now

abbrev pub invariant-check_row-row : goal.invariant-check_row-row
invariant-check_row-row l = Row (ground_of l.site) l.fn.scope.items l.scope.items l.fn.best l.best l.stmts (drop l.s-index l.stmts)
