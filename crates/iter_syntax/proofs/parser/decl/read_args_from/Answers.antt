use Rattle.std.proofs.Common.{drop, refl, sym, ap, ◌∙◌, arith}
use Rattle.iter_syntax.specs.Form.{any}
use Rattle.iter_syntax.specs.Productions as P
use Rattle.iter_syntax.specs.Steps.Reads.{after}
use Rattle.iter_syntax.proofs.Grammar.ExactDecl.{more_arg_ok}
use Rattle.iter_syntax.proofs.Grammar.Turns.{row_turn}
use Rattle.iter_syntax.proofs.parser.decl.read_args_from.Goals as goal

pub row-preserved : goal.row-preserved
row-preserved c =
    let turn = row_turn P.more_arg more_arg_ok (λ t h. refl) c.row.found c.in-Ok.arg (drop c.row.at c.args.tokens.now) (drop c.in-Ok.next c.args.tokens.now) (sym c.stands.ensures.first ∙ c.row-test.true) c.in-Ok.ensures.2 in
    record {
      moves = omega (arith, c.row.invariant.moves, c.in-Ok.ensures.0);
      inside = c.in-Ok.ensures.1;
      row = c.row.invariant.row ∙ turn ∙ ap (λ l. after l ((any P.more_arg).parse (drop c.in-Ok.next c.args.tokens.now))) (sym c.in_ok-put-in-Ok.ensures.pushed);
    }
