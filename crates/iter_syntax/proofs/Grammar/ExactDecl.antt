-- Each production of records, iterators and programs is exact.
use Rattle.std.proofs.Common.{ℕ, refl}
use Rattle.iter_syntax.specs.declared.tree.Width.TheVariants as D
use Rattle.iter_syntax.specs.declared.token.Keyword.TheVariants as W
use Rattle.iter_syntax.specs.declared.token.Symbol.TheVariants as S
use Rattle.iter_syntax.specs.Form.{any}
use Rattle.iter_syntax.specs.Productions as P
use Rattle.iter_syntax.specs.Steps.Sets
use Rattle.iter_syntax.proofs.EachKind.{apart, part}
use Rattle.iter_syntax.proofs.Grammar.ExactForm.{IsExact, one_ok, gives_ok, any_ok, maybe_ok, or_ok, framed_ok}
use Rattle.iter_syntax.proofs.Grammar.ExactExpr.{after, symbol_ok, keyword_ok, word_ok, number_ok, brackets_ok}
use Rattle.iter_syntax.proofs.Grammar.ExactStmt.{block_ok}

pub next_ok : IsExact P.next_word
next_ok = gives_ok P.place_of _ (one_ok _)

width_ok : IsExact P.width
width_ok =
    or_ok _ _ refl refl (gives_ok (P.a_width D.U8) _ (keyword_ok W.U8))
    (or_ok _ _ refl refl (gives_ok (P.a_width D.U16) _ (keyword_ok W.U16))
    (or_ok _ _ refl refl (gives_ok (P.a_width D.U32) _ (keyword_ok W.U32))
    (or_ok _ _ refl refl (gives_ok (P.a_width D.U64) _ (keyword_ok W.U64)) (gives_ok (P.a_width D.Ptr) _ (keyword_ok W.Ptr))
    (apart _ _ (λ p. ((λ w. refl), (λ n. refl), refl, refl))))
    (apart _ _ (λ p. ((λ w. refl), (λ n. refl), refl, refl))))
    (apart _ _ (λ p. ((λ w. refl), (λ n. refl), refl, refl))))
    (apart _ _ (λ p. ((λ w. refl), (λ n. refl), refl, refl)))

type_ok : IsExact P.field_type
type_ok =
    or_ok _ _ refl refl
    (gives_ok P.to_array _ (after _ _ (λ t. refl) (symbol_ok S.OpenSquare) (after _ _ (λ t. refl) width_ok
    (after _ _ (λ t. refl) (symbol_ok S.Semicolon) (after _ _ (λ t. refl) number_ok (symbol_ok S.CloseSquare))))))
    (gives_ok P.to_plain _ width_ok)
    (apart _ _ (λ p. ((λ w. refl), (λ n. refl), refl, refl)))

pub field_ok : IsExact P.field
field_ok = gives_ok P.to_field _ (after _ _ (λ t. refl) word_ok (after _ _ (λ t. refl) (symbol_ok S.Colon) (after _ _ (λ t. refl) type_ok (symbol_ok S.Semicolon))))

fields_ok : IsExact P.fields
fields_ok = brackets_ok S.OpenBrace (any P.field) S.CloseBrace (any_ok _ refl field_ok (λ t h. refl)) (apart _ _ (λ p. ((λ w. refl), (λ n. refl), refl, refl)))

record_ok : IsExact P.record_decl
record_ok = gives_ok P.to_record _ (after _ _ (λ t. refl) (keyword_ok W.Record) (after _ _ (λ t. refl) word_ok fields_ok))

arg_ok : IsExact P.arg
arg_ok =
    gives_ok P.to_arg _ (after _ _ (λ t. refl) word_ok (after _ _ (λ t. refl) (symbol_ok S.Colon)
    (or_ok _ _ refl refl (gives_ok P.an_int _ (keyword_ok W.Int)) (gives_ok P.a_pointer _ (keyword_ok W.Ptr)) (apart _ _ (λ p. ((λ w. refl), (λ n. refl), refl, refl))))))

pub more_arg_ok : IsExact P.more_arg
more_arg_ok = gives_ok P.second _ (after _ _ (λ t. refl) (symbol_ok S.Comma) arg_ok)

args_ok : IsExact P.args
args_ok =
    brackets_ok S.OpenRound P.row_of_args S.CloseRound
    (gives_ok P.all_args _ (maybe_ok _ refl (after _ _ (λ t. refl) arg_ok (any_ok _ refl more_arg_ok (λ t h. refl)))))
    (apart _ _ (λ p. ((λ w. refl), (λ n. refl), refl, refl)))

iter_ok : (n : ℕ) → IsExact (P.iter_over (P.block n))
iter_ok n =
    let b = block_ok n in
    gives_ok P.to_iter _
    (after _ _ (λ t. refl) (keyword_ok W.Iter) (after _ _ (λ t. refl) word_ok (after _ _ (λ t. refl) (keyword_ok W.On) (after _ _ (λ t. refl) word_ok
    (after _ _ (λ t. refl) (symbol_ok S.OpenBrace) (after _ _ (λ t. refl) (keyword_ok W.Pad) (after _ _ (λ t. refl) fields_ok
    (after _ _ (λ t. refl) (keyword_ok W.Init) (after _ _ (λ t. refl) args_ok (after _ _ (λ t. refl) b
    (after _ _ (λ t. refl) (keyword_ok W.End) (after _ _ (λ t. refl) b
    (after _ _ (λ t. refl) next_ok (after _ _ (λ t. refl) b
    (symbol_ok S.CloseBrace)))))))))))))))

pub decl_ok : (n : ℕ) → IsExact (P.decl_over (P.block n))
decl_ok n = framed_ok Sets.begins_decl Sets.no_kind _ refl (part _ _ (λ p. ((λ w. refl), (λ n. refl), refl, refl))) (λ t h. h) (or_ok _ _ refl refl (gives_ok P.a_record _ record_ok) (gives_ok P.an_iter _ (iter_ok n)) (apart _ _ (λ p. ((λ w. refl), (λ n. refl), refl, refl))))

pub program_ok : (n : ℕ) → IsExact (P.program n)
program_ok n = gives_ok P.to_program _ (any_ok _ refl (decl_ok n) (λ t h. refl))
