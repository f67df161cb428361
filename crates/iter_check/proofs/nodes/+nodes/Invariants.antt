use Rattle.std.proofs.Common.{◌≡◌, ◌≤◌, drop}
use Rattle.iter_syntax.specs.Tree.{sts}
use Rattle.iter_check.specs.First.Count.{count}
use Rattle.iter_check.proofs.nodes.+nodes.Given as goal

abbrev pub invariant-count_row-row : goal.invariant-count_row-row
invariant-count_row-row l = (count l.count (sts l.stmts) ≡ count l.so_far (sts (drop l.s-index l.stmts))) × (l.so_far ≤ 2001)
