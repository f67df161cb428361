-- The kinds of tokens that the grammar names.
use Rattle.std.specs.Prelude.{ℕ, Bool, true, false, ◌&&◌, nat_eq, List, [], ◌∷◌, Option, Some, None}
use Rattle.iter_syntax.specs.Names.{BinaryOp, Token, TokenKind, Keyword, Symbol}
use Rattle.iter_syntax.specs.declared.token.TokenKind.TheVariants as K
use Rattle.iter_syntax.specs.declared.token.Keyword.TheVariants as W
use Rattle.iter_syntax.specs.declared.token.Symbol.TheVariants as S
use Rattle.iter_syntax.specs.Operators.{level_of_operator, symbol_operator}

-- the place of a keyword in the list of keywords
abbrev pub keyword_number : Keyword → ℕ
keyword_number W.Record = 0
keyword_number W.Iter = 1
keyword_number W.On = 2
keyword_number W.Pad = 3
keyword_number W.Init = 4
keyword_number W.End = 5
keyword_number W.Let = 6
keyword_number W.If = 7
keyword_number W.Else = 8
keyword_number W.For = 9
keyword_number W.In = 10
keyword_number W.Done = 11
keyword_number W.Go = 12
keyword_number W.Cur = 13
keyword_number W.Null = 14
keyword_number W.At = 15
keyword_number W.Int = 16
keyword_number W.Ptr = 17
keyword_number W.U8 = 18
keyword_number W.U16 = 19
keyword_number W.U32 = 20
keyword_number W.U64 = 21

-- the place of a symbol in the list of symbols
abbrev pub symbol_number : Symbol → ℕ
symbol_number S.Range = 0
symbol_number S.EqualEqual = 1
symbol_number S.NotEqual = 2
symbol_number S.LessEqual = 3
symbol_number S.GreaterEqual = 4
symbol_number S.ShiftLeft = 5
symbol_number S.ShiftRight = 6
symbol_number S.AndAnd = 7
symbol_number S.OrOr = 8
symbol_number S.OpenBrace = 9
symbol_number S.CloseBrace = 10
symbol_number S.OpenRound = 11
symbol_number S.CloseRound = 12
symbol_number S.OpenSquare = 13
symbol_number S.CloseSquare = 14
symbol_number S.Colon = 15
symbol_number S.Semicolon = 16
symbol_number S.Comma = 17
symbol_number S.Dot = 18
symbol_number S.Assign = 19
symbol_number S.Less = 20
symbol_number S.Greater = 21
symbol_number S.Plus = 22
symbol_number S.Minus = 23
symbol_number S.Star = 24
symbol_number S.Slash = 25
symbol_number S.Percent = 26
symbol_number S.And = 27
symbol_number S.Or = 28
symbol_number S.Caret = 29
symbol_number S.Bang = 30
symbol_number S.Tilde = 31

abbrev pub kind_is_keyword : Keyword → TokenKind → Bool
kind_is_keyword wanted (K.Keyword k) = nat_eq (keyword_number wanted) (keyword_number k)
kind_is_keyword wanted _ = false

abbrev pub kind_is_symbol : Symbol → TokenKind → Bool
kind_is_symbol wanted (K.Symbol s) = nat_eq (symbol_number wanted) (symbol_number s)
kind_is_symbol wanted _ = false

abbrev pub kind_is_name : TokenKind → Bool
kind_is_name (K.Name w) = true
kind_is_name _ = false

-- the letters of `next`
abbrev pub is_next_text : List ℕ → Bool
is_next_text (n ∷ e ∷ x ∷ t ∷ []) = nat_eq n 110 && (nat_eq e 101 && (nat_eq x 120 && nat_eq t 116))
is_next_text _ = false

abbrev pub kind_is_next : TokenKind → Bool
kind_is_next (K.Name w) = is_next_text w.items
kind_is_next _ = false

abbrev pub kind_is_number : TokenKind → Bool
kind_is_number (K.Number n) = true
kind_is_number _ = false

abbrev pub is_keyword : Keyword → Token → Bool
is_keyword wanted t = kind_is_keyword wanted t.kind

abbrev pub is_symbol : Symbol → Token → Bool
is_symbol wanted t = kind_is_symbol wanted t.kind

abbrev pub is_name : Token → Bool
is_name t = kind_is_name t.kind

abbrev pub is_next : Token → Bool
is_next t = kind_is_next t.kind

abbrev pub is_number : Token → Bool
is_number t = kind_is_number t.kind

abbrev pub kind_operator : TokenKind → Option BinaryOp
kind_operator (K.Symbol s) = symbol_operator s
kind_operator _ = None

abbrev pub has_level : ℕ → Option BinaryOp → Bool
has_level level (Some op) = nat_eq (level_of_operator op) level
has_level level None = false

-- a binary operator of a level
abbrev pub is_operator : ℕ → Token → Bool
is_operator level t = has_level level (kind_operator t.kind)
