use Rattle.std.proofs.Common.{◌≡◌, drop}
use Rattle.iter_syntax.specs.Tree.{sts}
use Rattle.iter_syntax.specs.Printed.{stmt_kinds}
use Rattle.iter_syntax.specs.Steps.Printing.{add_all}
use Rattle.iter_syntax.proofs.printed.stmt.+stmt.Given as goal

-- the statements that are left add to the text what all of them add to the first one
abbrev pub invariant-put_row-row : goal.invariant-put_row-row
invariant-put_row-row l = add_all (stmt_kinds (sts l.stmts)) l.fn.text ≡ add_all (stmt_kinds (sts (drop l.s-index l.stmts))) l.text
