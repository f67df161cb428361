-- Each production of statements and blocks is exact.
use Rattle.std.proofs.Common.{◌≡◌, ℕ, zero, suc, true, false, refl}
use Rattle.iter_syntax.specs.Names.{Expr, Token, Keyword}
use Rattle.iter_syntax.specs.declared.token.Keyword.TheVariants as W
use Rattle.iter_syntax.specs.declared.token.Symbol.TheVariants as S
use Rattle.iter_syntax.specs.Kinds.{is_symbol, is_keyword}
use Rattle.iter_syntax.specs.Form.{Form, both, any, none}
use Rattle.iter_syntax.specs.Productions as P
use Rattle.iter_syntax.specs.Steps.Sets
use Rattle.iter_syntax.proofs.EachKind.{apart, part}
use Rattle.iter_syntax.proofs.Grammar.ExactForm.{IsExact, both_ok, gives_ok, any_ok, maybe_ok, or_ok, framed_ok, none_ok}
use Rattle.iter_syntax.proofs.Grammar.ExactExpr.{after, symbol_ok, keyword_ok, word_ok, number_ok, expr_ok, use_ok, unary_ok}

-- no token that begins a statement goes on with one
pub stmt_off : (t : Token) → Sets.begins_stmt t ≡ true → is_keyword W.Else t ≡ false
stmt_off = apart _ _ (λ p. ((λ w. refl), (λ n. refl), refl, refl))

module _ (n : ℕ) where
  abbrev the_expr : Form Expr
  the_expr = P.expr n

  e_ok : IsExact the_expr
  e_ok = expr_ok n (unary_ok n)

  -- an expression and what follows it in a statement
  value_ok : IsExact (both the_expr (P.symbol S.Semicolon))
  value_ok = both_ok _ _ e_ok (symbol_ok S.Semicolon) (apart _ _ (λ p. ((λ w. refl), (λ n. refl), refl, refl)))

  assign_ok : IsExact (both (P.symbol S.Assign) (both the_expr (P.symbol S.Semicolon)))
  assign_ok = after _ _ (λ t. refl) (symbol_ok S.Assign) value_ok

  let_ok : IsExact (P.let_over the_expr)
  let_ok = gives_ok P.to_let _ (after _ _ (λ t. refl) (keyword_ok W.Let) (after _ _ (λ t. refl) word_ok assign_ok))

  set_ok : IsExact (P.set_over the_expr)
  set_ok = gives_ok P.to_set _ (after _ _ (λ t. refl) word_ok assign_ok)

  target_ok : (k : Keyword) → IsExact (P.target_over k the_expr)
  target_ok k =
      gives_ok P.to_target _ (after _ _ (λ t. refl) (keyword_ok k) (after _ _ (λ t. refl) (symbol_ok S.Dot)
      (both_ok _ _ (use_ok n e_ok) assign_ok (apart _ _ (λ p. ((λ w. refl), (λ n. refl), refl, refl))))))

  go_ok : IsExact (P.go_over the_expr)
  go_ok = gives_ok P.to_go _ (after _ _ (λ t. refl) (keyword_ok W.Go) value_ok)

  done_ok : IsExact P.done_stmt
  done_ok = gives_ok P.to_done _ (after _ _ (λ t. refl) (keyword_ok W.Done) (symbol_ok S.Semicolon))

  module _ (rb : IsExact (P.block n)) where
    if_ok : IsExact (P.if_over the_expr (P.block n))
    if_ok =
        gives_ok P.to_if _ (after _ _ (λ t. refl) (keyword_ok W.If)
        (both_ok _ _ e_ok (after _ _ (λ t. refl) rb (maybe_ok _ refl (gives_ok P.second _ (after _ _ (λ t. refl) (keyword_ok W.Else) rb))))
        (apart _ _ (λ p. ((λ w. refl), (λ n. refl), refl, refl)))))

    for_ok : IsExact (P.for_over (P.block n))
    for_ok =
        gives_ok P.to_for _ (after _ _ (λ t. refl) (keyword_ok W.For) (after _ _ (λ t. refl) word_ok (after _ _ (λ t. refl) (keyword_ok W.In)
        (after _ _ (λ t. refl) number_ok (after _ _ (λ t. refl) (symbol_ok S.Range) (after _ _ (λ t. refl) number_ok rb))))))

    pub stmt_ok : IsExact (P.stmt n)
    stmt_ok =
        framed_ok Sets.begins_stmt (is_keyword W.Else) _ refl (part _ _ (λ p. ((λ w. refl), (λ n. refl), refl, refl))) (part _ _ (λ p. ((λ w. refl), (λ n. refl), refl, refl)))
        (or_ok _ _ refl refl let_ok
        (or_ok _ _ refl refl set_ok
        (or_ok _ _ refl refl (gives_ok P.to_set_pad _ (target_ok W.Pad))
        (or_ok _ _ refl refl (gives_ok P.to_set_cur _ (target_ok W.Cur))
        (or_ok _ _ refl refl if_ok
        (or_ok _ _ refl refl for_ok
        (or_ok _ _ refl refl done_ok go_ok
        (apart _ _ (λ p. ((λ w. refl), (λ n. refl), refl, refl))))
        (apart _ _ (λ p. ((λ w. refl), (λ n. refl), refl, refl))))
        (apart _ _ (λ p. ((λ w. refl), (λ n. refl), refl, refl))))
        (apart _ _ (λ p. ((λ w. refl), (λ n. refl), refl, refl))))
        (apart _ _ (λ p. ((λ w. refl), (λ n. refl), refl, refl))))
        (apart _ _ (λ p. ((λ w. refl), (λ n. refl), refl, refl))))
        (apart _ _ (λ p. ((λ w. refl), (λ n. refl), refl, refl))))

    -- no token goes on with a statement but `else`, which begins none
    pub stmts_ok : IsExact (any (P.stmt n))
    stmts_ok = any_ok _ refl stmt_ok (apart _ _ (λ p. ((λ w. refl), (λ n. refl), refl, refl)))

    block_over_ok : IsExact (P.block_over the_expr (P.block n))
    block_over_ok =
        gives_ok P.to_block _ (after _ _ (λ t. refl) (symbol_ok S.OpenBrace)
        (both_ok _ _ stmts_ok (symbol_ok S.CloseBrace) (apart _ _ (λ p. ((λ w. refl), (λ n. refl), refl, refl)))))

    pub next_block_ok : IsExact (P.block (suc n))
    next_block_ok = framed_ok _ _ (P.block_over the_expr (P.block n)) refl (λ t h. h) (λ t h. h) block_over_ok

pub block_ok : (n : ℕ) → IsExact (P.block n)
block_ok zero = framed_ok _ _ (none (is_symbol S.OpenBrace) Sets.no_kind) refl (λ t h. h) (λ t h. h) (none_ok _ _ _)
block_ok (suc n) = next_block_ok n (block_ok n)
