use Rattle.std.proofs.Common.{rules, ◌≡◌, [], ◌∷◌, option_map, sym, ap, ◌∙◌}
use Rattle.iter_syntax.specs.declared.token.Keyword.TheVariants as W
use Rattle.iter_syntax.specs.declared.token.Symbol.TheVariants as S
use Rattle.iter_syntax.specs.Tree.{ex}
use Rattle.iter_syntax.specs.Printed as P
use Rattle.iter_syntax.specs.Steps.Printing.{add, add_all, use_kinds}
use Rattle.iter_syntax.proofs.ExprLaws.{ex_binary, ex_at, used_is}
use Rattle.iter_syntax.proofs.Printing.{all_append, at_added}
use Rattle.iter_syntax.proofs.printed.expr.+expr.Goals as goal

pub put_expr-returns-in_ok-put_operand-in-Binary-2 : goal.put_expr-returns-in_ok-put_operand-in-Binary-2
put_expr-returns-in_ok-put_operand-in-Binary-2 t c = simp (c.in-Binary.is, ex_binary, all_append) (search rules)

pub put_expr-returns-in_ok-put_symbol-in-At-3 : goal.put_expr-returns-in_ok-put_symbol-in-At-3
put_expr-returns-in_ok-put_symbol-in-At-3 t c =
    let a = P.expr_kinds (ex c.in-At.base) in
    let b = P.expr_kinds (ex c.in-At.offset) in
    let start = add (P.key W.At) c.args.text.now in
    let steps : c.put_symbol-in-At-3.new.text ≡ add (P.sym S.CloseRound) (add_all b (add (P.sym S.Comma) (add_all a (add (P.sym S.OpenRound) start)))) = search rules in
    steps ∙ sym (at_added a b start) ∙ ap (λ e. add_all (P.expr_kinds e) c.args.text.now) (sym (ap ex c.in-At.is ∙ ex_at c.in-At.place c.in-At.base c.in-At.offset))

pub put_field-returns-in_ok-put_symbol-in-Some-2 : goal.put_field-returns-in_ok-put_symbol-in-Some-2
put_field-returns-in_ok-put_symbol-in-Some-2 t c =
    let f = c.args.field.now in
    let i = P.expr_kinds (ex c.in-Some.index) in
    let start = add (P.sym S.Dot) (add (P.key c.args.owner) c.args.text.now) in
    let front = add (P.sym S.OpenSquare) (add (P.word f.name) start) in
    let steps : c.put_symbol-in-Some-2.new.text ≡ add (P.sym S.CloseSquare) (add_all i front) = search rules in
    steps ∙ sym (all_append i (P.sym S.CloseSquare ∷ []) front)
    ∙ ap (λ u. add_all (use_kinds u) start) (sym (used_is f.name f.index ∙ ap (λ o. (f.name, option_map ex o)) c.in-Some.is))
