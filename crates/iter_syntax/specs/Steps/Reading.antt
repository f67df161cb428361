-- How the reader finds the first token of a text: the length of the gap before it, its kind and its length.
-- `proofs/Lexing` shows that this is what the definitions of tokens say.
use Rattle.std.specs.Prelude.{◌≡◌, ◌≤◌, Ok, Err, Result, ℕ, ◌+◌, Bool, true, false, ◌==◌, ◌&&◌, ◌*◌, ◌^◌, nat_le, nat_lt, cond, not, List, [], ◌∷◌, length, take, drop, codes, nat_eq, Option, Some, None}
use Rattle.std.specs.List.{prefix_len, starts_with}
use Rattle.std.specs.Char.{is_ascii_lowercase, is_ascii_digit, digit_value}
use Rattle.iter_syntax.specs.Names.{Keyword, Symbol, TokenKind, Front, SyntaxFault, Token}
use Rattle.iter_syntax.specs.declared.token.TokenKind.TheVariants as T
use Rattle.iter_syntax.specs.declared.fault.SyntaxFault.TheVariants as F
use Rattle.iter_syntax.specs.Deep.{deep_place}
use Rattle.iter_syntax.specs.Tokens.{Leads, AreTokens, IsLexPlace, begins_gap}
use Rattle.iter_syntax.specs.Bytes.{is_separator, in_word, in_run}
use Rattle.iter_syntax.specs.Spelling.{keyword_of, symbol_of, symbol_text, first_is}

-- separators and comments at the front, after an open comment or none
abbrev pub gap_len : Bool → List ℕ → ℕ
gap_len in_comment [] = 0
gap_len true (b ∷ bs) = 1 + gap_len (not (b == 10)) bs
gap_len false (b ∷ bs) = cond (b == 35) (1 + gap_len true bs) (cond (is_separator b) (1 + gap_len false bs) 0)

abbrev pub named : Option Keyword → List ℕ → TokenKind
named None w = T.Name (record { items = w })
named (Some k) w = T.Keyword k

abbrev pub word_kind : List ℕ → TokenKind
word_kind w = named (keyword_of w) w

abbrev pub front_word : List ℕ → Option Front
front_word text = cond (nat_le (prefix_len in_word text) 32)
    (Some (record { kind = word_kind (take (prefix_len in_word text) text); len = prefix_len in_word text }))
    None

-- a number with one more digit, below 2^64
abbrev pub next_value : ℕ → ℕ → ℕ → Option ℕ
next_value radix n d = cond (nat_lt (digit_value d) radix && nat_lt (n * radix + digit_value d) (2 ^ 64)) (Some (n * radix + digit_value d)) None

abbrev pub then_numeral : Option ℕ → (ℕ → Option ℕ) → Option ℕ
then_numeral None f = None
then_numeral (Some n) f = f n

-- the number below 2^64 that digits write after those of n
abbrev pub numeral_from : ℕ → ℕ → List ℕ → Option ℕ
numeral_from radix n [] = Some n
numeral_from radix n (d ∷ ds) = then_numeral (next_value radix n d) (λ m. numeral_from radix m ds)

abbrev pub read_numeral : ℕ → List ℕ → Option ℕ
read_numeral radix [] = None
read_numeral radix (d ∷ ds) = numeral_from radix 0 (d ∷ ds)

abbrev pub read_number : List ℕ → Option ℕ
read_number p = cond (starts_with nat_eq p (codes "0x")) (read_numeral 16 (drop 2 p)) (read_numeral 10 p)

abbrev pub numbered : Option ℕ → ℕ → Option Front
numbered None n = None
numbered (Some v) n = Some (record { kind = T.Number v; len = n })

abbrev pub front_number : List ℕ → Option Front
front_number text = numbered (read_number (take (prefix_len in_run text) text)) (prefix_len in_run text)

abbrev pub marked : Option Symbol → Option Front
marked None = None
marked (Some s) = Some (record { kind = T.Symbol s; len = length (symbol_text s) })

abbrev pub longer : Option Symbol → Option Symbol → Option Symbol
longer None o = o
longer (Some s) o = Some s

abbrev pub front_symbol : List ℕ → Option Front
front_symbol text = marked (longer (symbol_of (take 2 text)) (symbol_of (take 1 text)))

-- the token at the front
abbrev pub front_token : List ℕ → Option Front
front_token text = cond (first_is is_ascii_lowercase text) (front_word text)
    (cond (first_is is_ascii_digit text) (front_number text) (front_symbol text))

-- what reading the tokens answers before their depth is looked at
abbrev pub ReadAnswer : List ℕ → Result (List Token) SyntaxFault → Type 0
ReadAnswer text (Ok ts) = AreTokens text ts
ReadAnswer text (Err (F.Lex place)) = IsLexPlace text place
ReadAnswer text (Err (F.Deep place)) = ⊥
ReadAnswer text (Err (F.Syntax place)) = ⊥
ReadAnswer text (Err F.Memory) = Unit {0}

-- what reading the tokens of a text answers: its Lex place goes before its Deep place
abbrev pub TokensAnswer : List ℕ → Result (List Token) SyntaxFault → Type 0
TokensAnswer text (Ok ts) = AreTokens text ts × (deep_place ts ≡ None)
TokensAnswer text (Err (F.Lex place)) = IsLexPlace text place
TokensAnswer text (Err (F.Deep place)) = (ts : List Token) × AreTokens text ts × (deep_place ts ≡ Some place)
TokensAnswer text (Err (F.Syntax place)) = ⊥
TokensAnswer text (Err F.Memory) = Unit {0}

-- a text has one token list or one Lex place, and not both
pub record HasOneReading (text : List ℕ) : Type 0 where
  pub tokens : (ts us : List Token) → AreTokens text ts → AreTokens text us → ts ≡ us
  pub lex : (m n : ℕ) → IsLexPlace text m → IsLexPlace text n → m ≡ n
  pub apart : (ts : List Token) (n : ℕ) → AreTokens text ts → IsLexPlace text n → ⊥

-- the tokens found before offset `here`, with the gap behind them
pub record HasRead (text : List ℕ) (found : List Token) (here : ℕ) : Type 0 where
  pub inside : here ≤ length text
  pub leads : Leads 0 text found here (drop here text)
  pub no_gap : first_is begins_gap (drop here text) ≡ false
