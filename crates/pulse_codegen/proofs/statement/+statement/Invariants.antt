use Rattle.std.proofs.Common.{◌+◌, ◌-◌, ◌*◌}
use Rattle.iter_unroll.specs.Flat.{end}
use Rattle.iter_unroll.specs.Limits.{fx_nodes, fs_nodes}
use Rattle.iter_unroll.specs.Tree.{fx, fst, fsts}
use Rattle.pulse_codegen.proofs.Rows.{Put}
use Rattle.pulse_codegen.proofs.statement.+statement.Given as goal

abbrev pub decreases-emit_if : goal.decreases-emit_if
decreases-emit_if l = 3 * (1 + fx_nodes (fx l.test.now) + fs_nodes (fsts l.yes.now) + fs_nodes (fsts l.no.now)) - 1

abbrev pub decreases-emit_statement : goal.decreases-emit_statement
decreases-emit_statement l = 3 * fs_nodes (fst l.stmt.now end)

abbrev pub decreases-emit_statements : goal.decreases-emit_statements
decreases-emit_statements l = 3 * fs_nodes (fsts l.stmts.now) + 1

abbrev pub invariant-emit_statements-row : goal.invariant-emit_statements-row
invariant-emit_statements-row l = Put l.fn.code l.code l.stmts l.stmt-index
