-- The tokens of a text, and the first place where none begins.
use Rattle.std.specs.Prelude.{◌≡◌, ℕ, ◌+◌, ◌<◌, Bool, true, false, ◌==◌, ◌||◌, not, List, [], ◌∷◌, ◌++◌, length}
use Rattle.std.specs.List.{list_all}
use Rattle.iter_syntax.specs.Names.{Token, TokenKind}
use Rattle.iter_syntax.specs.Bytes.{is_separator}
use Rattle.iter_syntax.specs.Spelling.{Spells, first_is, Ends}

-- any bytes but LF
abbrev pub in_line : List ℕ → Bool
in_line bytes = list_all (λ b. not (b == 10)) bytes

-- separators and comments before `after`: a comment is `#` and what runs to the next LF, or to the end
pub data IsGap : List ℕ → List ℕ → Type 0 where
  nothing : (after : List ℕ) → IsGap [] after
  separator : (b : ℕ) (bytes after : List ℕ) → is_separator b ≡ true → IsGap bytes after → IsGap (b ∷ bytes) after
  comment : (body bytes after : List ℕ) → in_line body ≡ true → IsGap bytes after → IsGap (35 ∷ (body ++ 10 ∷ bytes)) after
  last_comment : (body : List ℕ) → in_line body ≡ true → IsGap (35 ∷ body) []

-- a token begins a text: the longest spelling of its kind, and what follows it
pub record BeginsWith (text spelling : List ℕ) (kind : TokenKind) (after : List ℕ) : Type 0 where
  pub splits : text ≡ spelling ++ after
  pub spells : Spells spelling kind
  pub ends : Ends spelling kind after

-- a text from offset `start` on is these tokens, each behind its gap, then a gap, and at offset `stop` the rest
abbrev pub Leads : ℕ → List ℕ → List Token → ℕ → List ℕ → Type 0
Leads start text [] stop rest = (gap : List ℕ) × (text ≡ gap ++ rest) × IsGap gap rest × (stop ≡ start + length gap)
Leads start text (t ∷ ts) stop rest =
    (gap : List ℕ) × (here : List ℕ) × (spelling : List ℕ) × (after : List ℕ) × (text ≡ gap ++ here) × IsGap gap here × (start + length gap ≡ (t.place).0) × BeginsWith here spelling t.kind after × Leads (start + length gap + length spelling) after ts stop rest

-- the tokens of a text
abbrev pub AreTokens : List ℕ → List Token → Type 0
AreTokens text ts = Leads 0 text ts (length text) []

-- what begins a separator or a comment
abbrev pub begins_gap : ℕ → Bool
begins_gap b = is_separator b || b == 35

-- no token begins the text
abbrev pub NoToken : List ℕ → Type 0
NoToken text = (spelling : List ℕ) (kind : TokenKind) (after : List ℕ) → BeginsWith text spelling kind after → ⊥

-- behind tokens and gaps stand bytes that begin neither a separator, a comment nor a token
pub record IsLexPlace (text : List ℕ) (place : ℕ) : Type 0 where
  pub tokens : List Token
  pub rest : List ℕ
  pub leads : Leads 0 text tokens place rest
  pub some : 0 < length rest
  pub no_gap : first_is begins_gap rest ≡ false
  pub no_token : NoToken rest
