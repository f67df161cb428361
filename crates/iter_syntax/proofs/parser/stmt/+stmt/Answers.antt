use Rattle.std.proofs.Common.{◌+◌, drop, sym, ap, ◌∙◌, arith}
use Rattle.iter_syntax.specs.Form.{any}
use Rattle.iter_syntax.specs.Productions as P
use Rattle.iter_syntax.specs.Steps.Reads.{after}
use Rattle.iter_syntax.proofs.Grammar.ExactStmt.{block_ok, stmt_ok, stmt_off}
use Rattle.iter_syntax.proofs.Grammar.Turns.{row_turn, block_reads}
use Rattle.iter_syntax.proofs.parser.stmt.+stmt.Goals as goal

pub read_block-returns : goal.read_block-returns
read_block-returns t c =
    block_reads c.args.depth (λ e. omega arith) c.args.tokens.now c.args.at (c.args.at + 1) c.read_braces.result c.read_braces.ensures

pub read_stmts-row-preserved : goal.read_stmts-row-preserved
read_stmts-row-preserved t c =
    let form = P.stmt c.args.depth in
    let turn = row_turn form (stmt_ok c.args.depth (block_ok c.args.depth)) stmt_off c.row.found c.in-Ok.stmt (drop c.row.at c.args.tokens.now) (drop c.in-Ok.next c.args.tokens.now) (sym c.stmt_stands.ensures.first ∙ c.row-test.true)
    c.in-Ok.ensures.2 in
    record {
      moves = omega (arith, c.row.invariant.moves, c.in-Ok.ensures.0);
      inside = c.in-Ok.ensures.1;
      row = c.row.invariant.row ∙ turn ∙ ap (λ l. after l ((any form).parse (drop c.in-Ok.next c.args.tokens.now))) (sym c.in_ok-put-in-Ok.ensures.pushed);
    }
