use Rattle.std.proofs.Common.{◌≡◌, List, Option, drop}
use Rattle.iter_syntax.specs.declared.tree.Stmt.{Stmt}
use Rattle.iter_syntax.specs.Tree.{sts}
use Rattle.iter_check.specs.declared.kind.Fault.{Fault}
use Rattle.iter_check.specs.declared.loops.Loop.{Loop}
use Rattle.iter_check.specs.Scope.{Ground}
use Rattle.iter_check.specs.First.Expr.{ground_of}
use Rattle.iter_check.specs.First.Index.{first_indices}
use Rattle.iter_check.proofs.index.+rows.Given as goal

-- what is left gives what all statements give, and the loops are as they were
pub record Row (g : Ground) (old now : List Loop) (before after : Option Fault) (all left : List Stmt) : Type 0 where
  pub faults : first_indices g old (sts all) before ≡ first_indices g old (sts left) after
  pub same : now ≡ old

abbrev pub invariant-index_row-row : goal.invariant-index_row-row
invariant-index_row-row l = Row (ground_of l.site) l.fn.loops.items l.loops.items l.fn.best l.best l.stmts (drop l.s-index l.stmts)
