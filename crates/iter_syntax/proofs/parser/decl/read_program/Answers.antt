use Rattle.std.proofs.Common.{drop, sym, ap, ◌∙◌, arith}
use Rattle.iter_syntax.specs.Form.{any}
use Rattle.iter_syntax.specs.Productions as P
use Rattle.iter_syntax.specs.Steps.Reads.{program_after}
use Rattle.iter_syntax.proofs.Grammar.Turns.{record_turn, iter_turn}
use Rattle.iter_syntax.proofs.parser.decl.read_program.Goals as goal

pub row-preserved-in-Ok : goal.row-preserved-in-Ok
row-preserved-in-Ok c =
    let left = (any (P.decl_over (P.block c.args.depth))).parse (drop c.in-Ok.next c.args.tokens.now) in
    let turn = record_turn c.args.depth c.row.records c.row.iters (drop c.row.at c.args.tokens.now) (drop c.in-Ok.next c.args.tokens.now) (sym c.decl_stands.ensures.first ∙ c.row-test.true)
    c.in-Ok.record (sym c.stands.ensures.first ∙ c.if-stands.true) c.in-Ok.ensures.2 in
    record {
      moves = omega (arith, c.row.invariant.moves, c.in-Ok.ensures.0);
      inside = c.in-Ok.ensures.1;
      row = c.row.invariant.row ∙ turn ∙ ap (λ l. program_after l c.row.iters left) (sym c.in_ok-put-in-Ok.ensures.pushed);
    }

pub row-preserved : goal.row-preserved
row-preserved c =
    let left = (any (P.decl_over (P.block c.args.depth))).parse (drop c.in-Ok-read_iter.next c.args.tokens.now) in
    let turn = iter_turn c.args.depth c.row.records c.row.iters (drop c.row.at c.args.tokens.now) (drop c.in-Ok-read_iter.next c.args.tokens.now) (sym c.decl_stands.ensures.first ∙ c.row-test.true)
    c.in-Ok-read_iter.iter (sym c.stands.ensures.first ∙ c.if-stands.false) c.in-Ok-read_iter.ensures.2 in
    record {
      moves = omega (arith, c.row.invariant.moves, c.in-Ok-read_iter.ensures.0);
      inside = c.in-Ok-read_iter.ensures.1;
      row = c.row.invariant.row ∙ turn ∙ ap (λ l. program_after c.row.records l left) (sym c.in_ok-put-in-Ok-read_iter.ensures.pushed);
    }
