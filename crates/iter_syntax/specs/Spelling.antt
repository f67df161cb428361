-- How a token is spelled, and what may follow its spelling.
use Rattle.std.specs.Prelude.{◌≡◌, ℕ, ◌≤◌, ◌^◌, Bool, false, ◌&&◌, nat_eq, nat_lt, cond, List, [], ◌∷◌, ◌++◌, length, drop, find, codes, bytes_eq, Option, Some, None, is_some, IsTrue}
use Rattle.std.specs.List.{list_all, starts_with}
use Rattle.std.specs.Char.{is_ascii_lowercase, digit_value}
use Rattle.std.specs.Str.Parse.{digits_value}
use Rattle.iter_syntax.specs.Names.{Keyword, Symbol, TokenKind}
use Rattle.iter_syntax.specs.declared.token.Keyword.TheVariants as K
use Rattle.iter_syntax.specs.declared.token.Symbol.TheVariants as S
use Rattle.iter_syntax.specs.declared.token.TokenKind.TheVariants as T
use Rattle.iter_syntax.specs.Bytes.{in_word, in_run}

-- the reserved words
abbrev pub keyword_text : Keyword → List ℕ
keyword_text K.Record = codes "record"
keyword_text K.Iter = codes "iter"
keyword_text K.On = codes "on"
keyword_text K.Pad = codes "pad"
keyword_text K.Init = codes "init"
keyword_text K.End = codes "end"
keyword_text K.Let = codes "let"
keyword_text K.If = codes "if"
keyword_text K.Else = codes "else"
keyword_text K.For = codes "for"
keyword_text K.In = codes "in"
keyword_text K.Done = codes "done"
keyword_text K.Go = codes "go"
keyword_text K.Cur = codes "cur"
keyword_text K.Null = codes "null"
keyword_text K.At = codes "at"
keyword_text K.Int = codes "int"
keyword_text K.Ptr = codes "ptr"
keyword_text K.U8 = codes "u8"
keyword_text K.U16 = codes "u16"
keyword_text K.U32 = codes "u32"
keyword_text K.U64 = codes "u64"

-- all of them
abbrev pub keywords : List Keyword
keywords = K.Record ∷ K.Iter ∷ K.On ∷ K.Pad ∷ K.Init ∷ K.End ∷ K.Let ∷ K.If ∷ K.Else ∷ K.For ∷ K.In ∷ K.Done ∷ K.Go ∷ K.Cur ∷ K.Null ∷ K.At ∷ K.Int ∷ K.Ptr ∷ K.U8 ∷ K.U16 ∷ K.U32 ∷ K.U64 ∷ []

-- the keyword that a word is, where it is reserved
unfoldable pub keyword_of : List ℕ → Option Keyword
keyword_of p = find (λ k. bytes_eq (keyword_text k) p) keywords

-- the symbols
abbrev pub symbol_text : Symbol → List ℕ
symbol_text S.Range = codes ".."
symbol_text S.EqualEqual = codes "=="
symbol_text S.NotEqual = codes "!="
symbol_text S.LessEqual = codes "<="
symbol_text S.GreaterEqual = codes ">="
symbol_text S.ShiftLeft = codes "<<"
symbol_text S.ShiftRight = codes ">>"
symbol_text S.AndAnd = codes "&&"
symbol_text S.OrOr = codes "||"
symbol_text S.OpenBrace = codes "{"
symbol_text S.CloseBrace = codes "}"
symbol_text S.OpenRound = codes "("
symbol_text S.CloseRound = codes ")"
symbol_text S.OpenSquare = codes "["
symbol_text S.CloseSquare = codes "]"
symbol_text S.Colon = codes ":"
symbol_text S.Semicolon = codes ";"
symbol_text S.Comma = codes ","
symbol_text S.Dot = codes "."
symbol_text S.Assign = codes "="
symbol_text S.Less = codes "<"
symbol_text S.Greater = codes ">"
symbol_text S.Plus = codes "+"
symbol_text S.Minus = codes "-"
symbol_text S.Star = codes "*"
symbol_text S.Slash = codes "/"
symbol_text S.Percent = codes "%"
symbol_text S.And = codes "&"
symbol_text S.Or = codes "|"
symbol_text S.Caret = codes "^"
symbol_text S.Bang = codes "!"
symbol_text S.Tilde = codes "~"

-- all of them
abbrev pub symbols : List Symbol
symbols = S.Range ∷ S.EqualEqual ∷ S.NotEqual ∷ S.LessEqual ∷ S.GreaterEqual ∷ S.ShiftLeft ∷ S.ShiftRight ∷ S.AndAnd ∷ S.OrOr ∷ S.OpenBrace ∷ S.CloseBrace ∷ S.OpenRound ∷ S.CloseRound ∷ S.OpenSquare ∷ S.CloseSquare ∷ S.Colon ∷ S.Semicolon ∷ S.Comma ∷ S.Dot ∷ S.Assign ∷ S.Less ∷ S.Greater ∷ S.Plus ∷ S.Minus ∷ S.Star ∷ S.Slash ∷ S.Percent ∷ S.And ∷ S.Or ∷ S.Caret ∷ S.Bang ∷ S.Tilde ∷ []

-- the symbol that these bytes are
unfoldable pub symbol_of : List ℕ → Option Symbol
symbol_of p = find (λ s. bytes_eq (symbol_text s) p) symbols

-- a small letter, and then small letters, digits and `_`
abbrev pub is_word : List ℕ → Bool
is_word [] = false
is_word (b ∷ bs) = is_ascii_lowercase b && list_all in_word bs

-- one or more digits that write a number below 2^64
abbrev pub is_numeral : ℕ → List ℕ → Bool
is_numeral radix [] = false
is_numeral radix (d ∷ ds) = list_all (λ c. nat_lt (digit_value c) radix) (d ∷ ds) && nat_lt (digits_value radix (d ∷ ds)) (2 ^ 64)

-- the number that they write
abbrev pub numeral : ℕ → List ℕ → Option ℕ
numeral radix ds = cond (is_numeral radix ds) (Some (digits_value radix ds)) None

-- the number that decimal digits, or `0x` and hexadecimal digits, write
abbrev pub number_of : List ℕ → Option ℕ
number_of p = cond (starts_with nat_eq p (codes "0x")) (numeral 16 (drop 2 p)) (numeral 10 p)

-- a token is spelled by these bytes
abbrev pub Spells : List ℕ → TokenKind → Type 0
Spells p (T.Name w) = IsTrue (is_word p) × (length p ≤ 32) × (keyword_of p ≡ None) × (w.items ≡ p)
Spells p (T.Keyword k) = p ≡ keyword_text k
Spells p (T.Number n) = number_of p ≡ Some n
Spells p (T.Symbol s) = p ≡ symbol_text s

-- whether the first byte passes a test
abbrev pub first_is : (ℕ → Bool) → List ℕ → Bool
first_is test [] = false
first_is test (b ∷ bs) = test b

-- whether a longer symbol begins with these bytes and that one
abbrev pub goes_on_as_symbol : List ℕ → ℕ → Bool
goes_on_as_symbol p b = is_some (symbol_of (p ++ b ∷ []))

-- a spelling of that kind is as long as possible before `after`, and nothing glues to a number
abbrev pub Ends : List ℕ → TokenKind → List ℕ → Type 0
Ends p (T.Name w) after = first_is in_word after ≡ false
Ends p (T.Keyword k) after = first_is in_word after ≡ false
Ends p (T.Number n) after = first_is in_run after ≡ false
Ends p (T.Symbol s) after = first_is (goes_on_as_symbol p) after ≡ false
