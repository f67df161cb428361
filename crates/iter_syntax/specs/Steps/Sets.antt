-- The tokens that may begin a form, and those that may go on with a whole one.
use Rattle.std.specs.Prelude.{ℕ, zero, suc, Bool, true, false, ◌||◌}
use Rattle.iter_syntax.specs.Names.{Token, TokenKind, Keyword}
use Rattle.iter_syntax.specs.declared.token.TokenKind.TheVariants as K
use Rattle.iter_syntax.specs.declared.token.Keyword.TheVariants as W
use Rattle.iter_syntax.specs.declared.token.Symbol.TheVariants as S
use Rattle.iter_syntax.specs.Kinds.{is_keyword, is_symbol, is_name, is_number, is_operator}

-- the tokens that may begin an expression
abbrev pub begins_expr : Token → Bool
begins_expr t =
    is_symbol S.Bang t || is_symbol S.Tilde t || is_number t || is_keyword W.Null t || is_name t || is_keyword W.Cur t
    || is_keyword W.Pad t || is_keyword W.At t || is_symbol S.OpenRound t

-- the tokens that may go on with a whole unary expression
abbrev pub goes_on : Token → Bool
goes_on t = is_symbol S.Dot t || is_symbol S.OpenSquare t

-- the operators of the levels up to one
abbrev pub operator_up_to : ℕ → Token → Bool
operator_up_to zero t = false
operator_up_to (suc n) t = is_operator (suc n) t || operator_up_to n t

-- the tokens that may go on with a whole expression
abbrev pub follows_expr : Token → Bool
follows_expr t = operator_up_to 7 t || goes_on t

abbrev pub keyword_begins_stmt : Keyword → Bool
keyword_begins_stmt W.Let = true
keyword_begins_stmt W.Pad = true
keyword_begins_stmt W.Cur = true
keyword_begins_stmt W.If = true
keyword_begins_stmt W.For = true
keyword_begins_stmt W.Done = true
keyword_begins_stmt W.Go = true
keyword_begins_stmt _ = false

abbrev pub kind_begins_stmt : TokenKind → Bool
kind_begins_stmt (K.Name w) = true
kind_begins_stmt (K.Keyword k) = keyword_begins_stmt k
kind_begins_stmt _ = false

-- the tokens that may begin a statement
abbrev pub begins_stmt : Token → Bool
begins_stmt t = kind_begins_stmt t.kind

abbrev pub no_kind : Token → Bool
no_kind t = false

abbrev pub keyword_begins_decl : Keyword → Bool
keyword_begins_decl W.Record = true
keyword_begins_decl W.Iter = true
keyword_begins_decl _ = false

abbrev pub kind_begins_decl : TokenKind → Bool
kind_begins_decl (K.Keyword k) = keyword_begins_decl k
kind_begins_decl _ = false

-- the tokens that may begin a record or an iterator
abbrev pub begins_decl : Token → Bool
begins_decl t = kind_begins_decl t.kind
