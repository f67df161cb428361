use Rattle.std.proofs.Common.{◌≡◌, Bool, false, List, Option, drop}
use Rattle.iter_syntax.specs.declared.tree.Stmt.{Stmt}
use Rattle.iter_syntax.specs.Tree.{sts}
use Rattle.iter_check.specs.declared.kind.Fault.{Fault}
use Rattle.iter_check.specs.declared.sort.Part.{Part}
use Rattle.iter_check.specs.Paths.{ends, ends_after}
use Rattle.iter_check.specs.First.Path.{first_paths}
use Rattle.iter_check.proofs.path.+paths.Given as goal

-- what is left of the block gives what all of it gives
pub record Row (b : Part) (late last : Bool) (before after : Option Fault) (all left : List Stmt) : Type 0 where
  pub last_ends : ends (sts all) ≡ ends_after last (sts left)
  pub same : first_paths b false (sts all) before ≡ first_paths b late (sts left) after

abbrev pub invariant-path_row-row : goal.invariant-path_row-row
invariant-path_row-row l = Row l.part l.late l.last l.fn.best l.best l.stmts (drop l.s-index l.stmts)
