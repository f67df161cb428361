-- A text has one token list or one Lex place, and the reader's steps follow the definition.
use Rattle.std.proofs.Common.{◌≡◌, ℕ, ◌+◌, ◌<◌, Bool, true, false, List, [], ◌∷◌, ◌++◌, length, take, drop, Some, None, refl, sym, ap, ◌∙◌, subst, arith, length-append}
use Rattle.std.specs.Prelude.{Option}
use Rattle.std.specs.Char.{is_ascii_lowercase, is_ascii_digit}
use Rattle.std.proofs.Math.Seq.{take-append_seam, drop-append_seam}
use Rattle.std.proofs.lemmas.Bool.Decides.{nat_tests}
use Rattle.iter_syntax.specs.Names.{Symbol, Token, TokenKind, Front}
use Rattle.iter_syntax.specs.declared.token.Symbol.TheVariants as S
use Rattle.iter_syntax.specs.declared.token.TokenKind.TheVariants as T
use Rattle.iter_syntax.specs.Spelling.{keyword_text, symbol_text, Spells, first_is}
use Rattle.iter_syntax.specs.Steps.Reading.{gap_len, front_token}
use Rattle.iter_syntax.specs.Tokens.{IsGap, BeginsWith, Leads, begins_gap, NoToken, IsLexPlace}
use Rattle.iter_syntax.specs.Steps.Reading.{HasOneReading}
use Rattle.iter_syntax.proofs.Lexing.Prefixes.{first_append, first_some}
use Rattle.iter_syntax.proofs.Lexing.Symbols.{symbol_length}
use Rattle.iter_syntax.proofs.Lexing.Numbers.{number_runs}
use Rattle.iter_syntax.proofs.Lexing.Words.{keyword_word, word_is}
use Rattle.iter_syntax.proofs.Lexing.Reading.{token_read}
use Rattle.iter_syntax.proofs.Lexing.Gaps.{gap_skipped}

-- a token begins with a byte that begins no gap

small_no_gap : (c : ℕ) → is_ascii_lowercase c ≡ true → begins_gap c ≡ false
small_no_gap c h = grind (arith, nat_tests)

digit_no_gap : (c : ℕ) → is_ascii_digit c ≡ true → begins_gap c ≡ false
digit_no_gap c h = grind (arith, nat_tests)

first_also : (p q : ℕ → Bool) → ((c : ℕ) → p c ≡ true → q c ≡ false) → (xs : List ℕ) → first_is p xs ≡ true → first_is q xs ≡ false
first_also p q f [] h = refl
first_also p q f (x ∷ xs) h = f x h

symbol_no_gap : (s : Symbol) (after : List ℕ) → first_is begins_gap (symbol_text s ++ after) ≡ false
symbol_no_gap S.Range after = refl
symbol_no_gap S.EqualEqual after = refl
symbol_no_gap S.NotEqual after = refl
symbol_no_gap S.LessEqual after = refl
symbol_no_gap S.GreaterEqual after = refl
symbol_no_gap S.ShiftLeft after = refl
symbol_no_gap S.ShiftRight after = refl
symbol_no_gap S.AndAnd after = refl
symbol_no_gap S.OrOr after = refl
symbol_no_gap S.OpenBrace after = refl
symbol_no_gap S.CloseBrace after = refl
symbol_no_gap S.OpenRound after = refl
symbol_no_gap S.CloseRound after = refl
symbol_no_gap S.OpenSquare after = refl
symbol_no_gap S.CloseSquare after = refl
symbol_no_gap S.Colon after = refl
symbol_no_gap S.Semicolon after = refl
symbol_no_gap S.Comma after = refl
symbol_no_gap S.Dot after = refl
symbol_no_gap S.Assign after = refl
symbol_no_gap S.Less after = refl
symbol_no_gap S.Greater after = refl
symbol_no_gap S.Plus after = refl
symbol_no_gap S.Minus after = refl
symbol_no_gap S.Star after = refl
symbol_no_gap S.Slash after = refl
symbol_no_gap S.Percent after = refl
symbol_no_gap S.And after = refl
symbol_no_gap S.Or after = refl
symbol_no_gap S.Caret after = refl
symbol_no_gap S.Bang after = refl
symbol_no_gap S.Tilde after = refl

word_no_gap : (p after : List ℕ) → first_is is_ascii_lowercase p ≡ true → first_is begins_gap (p ++ after) ≡ false
word_no_gap p after h = first_also is_ascii_lowercase begins_gap small_no_gap (p ++ after) (first_append is_ascii_lowercase p after h)

spelling_no_gap : (p after : List ℕ) (k : TokenKind) → Spells p k → first_is begins_gap (p ++ after) ≡ false
spelling_no_gap p after (T.Name w) h = word_no_gap p after (word_is p h.0).small
spelling_no_gap p after (T.Keyword k) h = subst (λ q. first_is begins_gap (q ++ after) ≡ false) (sym h) (word_no_gap (keyword_text k) after (word_is (keyword_text k) (keyword_word k)).small)
spelling_no_gap p after (T.Number n) h = first_also is_ascii_digit begins_gap digit_no_gap (p ++ after) (first_append is_ascii_digit p after (number_runs n p h).digit)
spelling_no_gap p after (T.Symbol s) h = subst (λ q. first_is begins_gap (q ++ after) ≡ false) (sym h) (symbol_no_gap s after)

pub token_no_gap : (text p after : List ℕ) (k : TokenKind) → BeginsWith text p k after → first_is begins_gap text ≡ false
token_no_gap text p after k b = rw b.splits (spelling_no_gap p after k b.spells)

-- a spelling has some byte
spelling_some : (p : List ℕ) (k : TokenKind) → Spells p k → 0 < length p
spelling_some p (T.Name w) h = first_some is_ascii_lowercase p (word_is p h.0).small
spelling_some p (T.Keyword k) h = subst (λ q. 0 < length q) (sym h) (first_some is_ascii_lowercase (keyword_text k) (word_is (keyword_text k) (keyword_word k)).small)
spelling_some p (T.Number n) h = first_some is_ascii_digit p (number_runs n p h).digit
spelling_some p (T.Symbol s) h = subst (λ q. 0 < length q) (sym h) (symbol_length s).0

pub no_token_at_end : NoToken []
no_token_at_end p k after b = omega (arith, spelling_some p k b.spells, ap length b.splits, length-append p after)

-- gaps and tokens are where they are

record Same (g h r s : List ℕ) : Type 0 where
  front : g ≡ h
  rest : r ≡ s

cut_same : (g h r s : List ℕ) → g ++ r ≡ h ++ s → length g ≡ length h → Same g h r s
cut_same g h r s e l = record {
  front = sym (take-append_seam g r) ∙ (λ i. take (l i) (e i)) ∙ take-append_seam h s;
  rest = sym (drop-append_seam g r) ∙ (λ i. drop (l i) (e i)) ∙ drop-append_seam h s;
}

gap_one : (text g h r s : List ℕ) → text ≡ g ++ r → text ≡ h ++ s → IsGap g r → IsGap h s → first_is begins_gap r ≡ false → first_is begins_gap s ≡ false → Same g h r s
gap_one text g h r s a b x y m n =
    let e : g ++ r ≡ h ++ s = sym a ∙ b in
    cut_same g h r s e (sym (gap_skipped g r x m) ∙ ap (gap_len false) e ∙ gap_skipped h s y n)

record SameToken (p q a b : List ℕ) (k l : TokenKind) : Type 0 where
  spelling : p ≡ q
  after : a ≡ b
  kind : k ≡ l

abbrev front : TokenKind → ℕ → Front
front k n = record { kind = k; len = n }

len_in : Option Front → ℕ
len_in None = 0
len_in (Some f) = f.len

kind_in : TokenKind → Option Front → TokenKind
kind_in k None = k
kind_in k (Some f) = f.kind

len_same : (k l : TokenKind) (m n : ℕ) → Some (front k m) ≡ Some (front l n) → m ≡ n
unfolding len_in
len_same k l m n e = ap len_in e

kind_same : (k l : TokenKind) (m n : ℕ) → Some (front k m) ≡ Some (front l n) → k ≡ l
unfolding kind_in
kind_same k l m n e = ap (kind_in k) e

token_one : (text p q a b : List ℕ) (k l : TokenKind) → BeginsWith text p k a → BeginsWith text q l b → SameToken p q a b k l
token_one text p q a b k l x y =
    let e : p ++ a ≡ q ++ b = sym x.splits ∙ y.splits in
    let one : Some (front k (length p)) ≡ Some (front l (length q)) = sym (token_read p a k x.spells x.ends) ∙ ap front_token e ∙ token_read q b l y.spells y.ends in
    let n : length p ≡ length q = len_same k l (length p) (length q) one in
    let cut = cut_same p q a b e n in
    record { spelling = cut.front; after = cut.rest; kind = kind_same k l (length p) (length q) one }

abbrev token : ℕ → TokenKind → Token
token n k = record { place = record { 0 = n }; kind = k }

same_token : (t u : Token) (n m : ℕ) → n ≡ (t.place).0 → m ≡ (u.place).0 → n ≡ m → t.kind ≡ u.kind → t ≡ u
same_token t u n m a b e k = λ i. token ((sym a ∙ e ∙ b) i) (k i)

record SameEnd (ts us : List Token) (m n : ℕ) (r s : List ℕ) : Type 0 where
  tokens : ts ≡ us
  stop : m ≡ n
  rest : r ≡ s

-- where reading ends
record IsEnd (rest : List ℕ) : Type 0 where
  no_gap : first_is begins_gap rest ≡ false
  no_token : NoToken rest

leads_moved : (m n : ℕ) (text other : List ℕ) (ts : List Token) (stop : ℕ) (rest : List ℕ) → m ≡ n → text ≡ other → Leads m text ts stop rest → Leads n other ts stop rest
leads_moved m n text other ts stop rest e f h = subst (λ t. Leads n t ts stop rest) f (subst (λ k. Leads k text ts stop rest) e h)

leads_one : (start : ℕ) (text : List ℕ) (ts us : List Token) (m n : ℕ) (r s : List ℕ) → Leads start text ts m r → Leads start text us n s → IsEnd r → IsEnd s → SameEnd ts us m n r s
leads_one start text [] [] m n r s a b x y =
    let one = gap_one text a.0 b.0 r s a.1 b.1 a.2 b.2 x.no_gap y.no_gap in
    record { tokens = refl; stop = a.3 ∙ ap (λ g. start + length g) one.front ∙ sym b.3; rest = one.rest }
leads_one start text [] (u ∷ us) m n r s a b x y =
    let one = gap_one text a.0 b.0 r b.1 a.1 b.4 a.2 b.5 x.no_gap (token_no_gap b.1 b.2 b.3 u.kind b.7) in
    absurd (x.no_token b.2 u.kind b.3 (subst (λ l. BeginsWith l b.2 u.kind b.3) (sym one.rest) b.7))
leads_one start text (t ∷ ts) [] m n r s a b x y =
    let one = gap_one text a.0 b.0 a.1 s a.4 b.1 a.5 b.2 (token_no_gap a.1 a.2 a.3 t.kind a.7) y.no_gap in
    absurd (y.no_token a.2 t.kind a.3 (subst (λ l. BeginsWith l a.2 t.kind a.3) one.rest a.7))
leads_one start text (t ∷ ts) (u ∷ us) m n r s a b x y =
    let one = gap_one text a.0 b.0 a.1 b.1 a.4 b.4 a.5 b.5 (token_no_gap a.1 a.2 a.3 t.kind a.7) (token_no_gap b.1 b.2 b.3 u.kind b.7) in
    let same = token_one b.1 a.2 b.2 a.3 b.3 t.kind u.kind (subst (λ l. BeginsWith l a.2 t.kind a.3) one.rest a.7) b.7 in
    let place : start + length a.0 ≡ start + length b.0 = ap (λ g. start + length g) one.front in
    let next : start + length a.0 + length a.2 ≡ start + length b.0 + length b.2 = λ i. place i + length (same.spelling i) in
    let others = leads_one (start + length b.0 + length b.2) b.3 ts us m n r s (leads_moved _ _ a.3 b.3 ts m r next same.after a.8) b.8 x y in
    record { tokens = λ i. same_token t u _ _ a.6 b.6 place same.kind i ∷ others.tokens i; stop = others.stop; rest = others.rest }

end_of_text : IsEnd []
end_of_text = record { no_gap = refl; no_token = no_token_at_end }

lex_end : (text : List ℕ) (n : ℕ) (l : IsLexPlace text n) → IsEnd l.rest
lex_end text n l = record { no_gap = l.no_gap; no_token = l.no_token }

pub one_reading : (text : List ℕ) → HasOneReading text
one_reading text = record {
  tokens = λ ts us a b. (leads_one 0 text ts us (length text) (length text) [] [] a b end_of_text end_of_text).tokens;
  lex = λ m n a b. (leads_one 0 text a.tokens b.tokens m n a.rest b.rest a.leads b.leads (lex_end text m a) (lex_end text n b)).stop;
  apart = λ ts n a b. omega (arith, b.some, ap length (leads_one 0 text ts b.tokens (length text) n [] b.rest a b.leads end_of_text (lex_end text n b)).rest);
}
