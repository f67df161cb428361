use Rattle.std.proofs.Common.{◌+◌, ◌-◌, drop, sym, ap, ◌∙◌, arith}
use Rattle.iter_syntax.specs.Productions as P
use Rattle.iter_syntax.specs.Steps.Reads.{chain_rest}
use Rattle.iter_syntax.proofs.Grammar.Turns.{unary_reads, level_reads, level_refused, chain_turn}
use Rattle.iter_syntax.proofs.parser.expr.+expr.Goals as goal

pub read_level-returns-else-level-eq-COMPARISON : goal.read_level-returns-else-level-eq-COMPARISON
read_level-returns-else-level-eq-COMPARISON t c =
    level_reads c.args.level (λ e. omega arith) (λ e. omega arith) (P.unary c.args.depth) c.args.tokens.now c.args.at c.in-Ok.at (c.args.at + 1) c.in-Ok.first
    c.read_row.result c.in-Ok.ensures.0 c.in-Ok.ensures.2 c.read_row.ensures

pub read_level-returns-in-Err : goal.read_level-returns-in-Err
read_level-returns-in-Err t c =
    level_refused c.args.level (λ e. omega arith) (P.unary c.args.depth) c.args.tokens.now c.args.at (c.args.at + 1) c.in-Err.refused c.in-Err.ensures

pub read_row-row-preserved : goal.read_row-row-preserved
read_row-row-preserved t c =
    let operand = P.level (c.args.level - 1) (P.unary c.args.depth) in
    let behind = drop c.in-Ok-read_level.next c.args.tokens.now in
    let turn = chain_turn c.args.level c.args.depth c.requires.level c.row.left c.in-Ok-read_level.right c.in-Ok.operator (drop c.row.at c.args.tokens.now) (drop c.in-Ok.next c.args.tokens.now)
    behind (sym c.in-Ok.ensures.first) c.in-Ok.ensures.finds.2 c.in-Ok-read_level.ensures.2 in
    record {
      inside = c.in-Ok-read_level.ensures.1;
      moves = omega (arith, c.row.invariant.moves, c.in-Ok.ensures.finds.0, c.in-Ok-read_level.ensures.0);
      row = c.row.invariant.row ∙ turn ∙ ap (λ e. chain_rest c.args.level e operand behind) (sym c.in_ok-left-in-Ok-read_level.ensures.whole);
    }

pub read_unary-returns : goal.read_unary-returns
read_unary-returns t c =
    unary_reads c.args.depth (λ e. omega arith) c.args.tokens.now c.args.at (c.args.at + 1) c.read_operand.result c.read_operand.ensures
