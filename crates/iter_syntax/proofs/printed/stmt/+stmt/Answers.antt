use Rattle.std.proofs.Common.{rules, ◌≡◌, ◌+◌, [], ◌∷◌, drop, Some, None, OnOk, sym, ap, ◌∙◌, subst, append-nil}
use Rattle.iter_syntax.specs.declared.token.Keyword.TheVariants as W
use Rattle.iter_syntax.specs.declared.token.Symbol.TheVariants as S
use Rattle.iter_syntax.specs.declared.tree.Stmt.TheVariants as T
use Rattle.iter_syntax.specs.Tree.{ex, sts, block}
use Rattle.iter_syntax.specs.Printed as P
use Rattle.iter_syntax.specs.Steps.Printing.{add, add_all}
use Rattle.iter_syntax.proofs.FoldLaws.{st_go, block_is}
use Rattle.iter_syntax.proofs.Trims.Stmt.{alone_kinds, else_kinds}
use Rattle.iter_syntax.proofs.Printing.{all_append, pad_added, cur_added, if_added, stmt_added}
use Rattle.iter_syntax.proofs.printed.stmt.+stmt.Goals as goal

pub put_block-returns : goal.put_block-returns
put_block-returns t c =
    c.in_ok-put_symbol-2.ensures
    ∙ ap (add (P.sym S.CloseBrace))
    (c.in_ok-put_row.ensures
    ∙ ap (λ ss. add_all (P.stmt_kinds (sts ss)) c.put_symbol.new.text) c.as_slice.ensures
    ∙ ap (λ ss. add_all (P.stmt_kinds ss) c.put_symbol.new.text) (sym (block_is c.args.block.now))
    ∙ ap (add_all (P.stmt_kinds (block c.args.block.now))) c.in_ok-put_symbol.ensures)
    ∙ sym (all_append (P.stmt_kinds (block c.args.block.now)) (P.sym S.CloseBrace ∷ []) _)

pub put_row-row-preserved : goal.put_row-row-preserved
put_row-row-preserved t c =
    c.row.invariant ∙ stmt_added c.args.stmts.now c.row.s-index c.s-item.result c.row.text c.row-test.true c.s-item.is
    ∙ ap (add_all (P.stmt_kinds (sts (drop (c.row.s-index + 1) c.args.stmts.now)))) (sym c.in_ok-put_stmt.ensures)

pub put_stmt-returns-in-SetPad : goal.put_stmt-returns-in-SetPad
put_stmt-returns-in-SetPad t c =
    subst (λ x. OnOk c.put_store.result (c.put_store.new.text ≡ x))
    (sym (ap (λ s. add_all (alone_kinds s) c.args.text.now) c.in-SetPad.is ∙ pad_added c.in-SetPad.place c.in-SetPad.target c.in-SetPad.value c.args.text.now)) c.put_store.ensures

pub put_stmt-returns-in-SetCur : goal.put_stmt-returns-in-SetCur
put_stmt-returns-in-SetCur t c =
    subst (λ x. OnOk c.put_store-in-SetCur.result (c.put_store-in-SetCur.new.text ≡ x))
    (sym (ap (λ s. add_all (alone_kinds s) c.args.text.now) c.in-SetCur.is ∙ cur_added c.in-SetCur.place c.in-SetCur.target c.in-SetCur.value c.args.text.now)) c.put_store-in-SetCur.ensures

pub put_stmt-returns-in-None : goal.put_stmt-returns-in-None
put_stmt-returns-in-None t c =
    let steps : c.put_block.new.text ≡ add_all (P.block_kinds c.in-If.yes) (add_all (P.expr_kinds (ex c.in-If.test)) (add (P.key W.If) c.args.text.now)) = search rules in
    steps ∙ sym (if_added c.in-If.place c.in-If.test c.in-If.yes None c.args.text.now)
    ∙ ap (λ s. add_all (alone_kinds s) c.args.text.now) (sym (c.in-If.is ∙ ap (λ o. T.If c.in-If.place c.in-If.test c.in-If.yes o) c.in-None.is))

pub put_stmt-returns-in_ok-put_block-in-Some : goal.put_stmt-returns-in_ok-put_block-in-Some
put_stmt-returns-in_ok-put_block-in-Some t c =
    let steps : c.put_block-in-Some.new.text ≡ add_all (else_kinds c.in-Some.other) (add_all (P.block_kinds c.in-If.yes) (add_all (P.expr_kinds (ex c.in-If.test)) (add (P.key W.If) c.args.text.now))) = search rules in
    steps ∙ sym (if_added c.in-If.place c.in-If.test c.in-If.yes (Some c.in-Some.other) c.args.text.now)
    ∙ ap (λ s. add_all (alone_kinds s) c.args.text.now) (sym (c.in-If.is ∙ ap (λ o. T.If c.in-If.place c.in-If.test c.in-If.yes o) c.in-Some.is))

pub put_stmt-returns-in-Go : goal.put_stmt-returns-in-Go
put_stmt-returns-in-Go t c = simp (c.in-Go.is, st_go, append-nil, all_append) (search rules)
