-- The reader finds just the token that the definitions put at the front of a text.
use Rattle.std.proofs.Common.{◌≡◌, ℕ, ◌<◌, ◌≤◌, Bool, true, false, cond, List, [], ◌∷◌, ◌++◌, length, take, drop, nat_le, Some, None, refl, sym, ap, ◌∙◌, subst, arith, length-append}
use Rattle.std.specs.Prelude.{Option, IfSome}
use Rattle.std.specs.List.{prefix_len}
use Rattle.std.specs.Char.{is_ascii_lowercase, is_ascii_digit}
use Rattle.std.proofs.Math.Seq.{take-append_seam}
use Rattle.std.proofs.lemmas.Bool.{leb-true, le-leb, cond_both}
use Rattle.std.proofs.lemmas.Bool.Decides.{nat_tests}
use Rattle.std.proofs.lemmas.List.{take-append-drop}
use Rattle.std.proofs.lemmas.List.Folds.{length-prefix_len}
use Rattle.iter_syntax.specs.Names.{Keyword, Symbol, TokenKind, Front}
use Rattle.iter_syntax.specs.declared.token.TokenKind.TheVariants as T
use Rattle.iter_syntax.specs.Bytes.{in_word, in_run}
use Rattle.iter_syntax.specs.Spelling.{keyword_text, keyword_of, symbol_text, symbol_of, is_word, number_of, Spells, first_is, goes_on_as_symbol, Ends}
use Rattle.iter_syntax.specs.Steps.Reading.{named, word_kind, front_word, numbered, front_number, marked, longer, front_symbol, read_number, front_token}
use Rattle.iter_syntax.proofs.Lexing.Prefixes.{prefix_passes, prefix_stops, prefix_whole, first_kept, first_some, first_append}
use Rattle.iter_syntax.proofs.Lexing.Symbols.{Begins, symbol_begins, symbol_taken, symbol_own, symbol_length, symbol_first}
use Rattle.iter_syntax.proofs.Lexing.Numbers.{number_is, number_runs}
use Rattle.iter_syntax.proofs.Lexing.Words.{keyword_found, keyword_own, keyword_word, keyword_length, word_is, is_word_from, small_goes_on}

-- the text is a token's spelling and what follows it
pub record Fronts (text : List ℕ) (f : Front) : Type 0 where
  pub spelling : List ℕ
  pub after : List ℕ
  pub splits : text ≡ spelling ++ after
  pub len : f.len ≡ length spelling
  pub some : 0 < length spelling
  pub spells : Spells spelling f.kind
  pub ends : Ends spelling f.kind after

-- words

word_so : (w after : List ℕ) (o : Option Keyword) → keyword_of w ≡ o → is_word w ≡ true → length w ≤ 32 → first_is in_word after ≡ false → Spells w (named o w) × Ends w (named o w) after
word_so w after None k h l e = ((h, l, k, refl), e)
word_so w after (Some k) q h l e = (sym (keyword_found w k q), e)

word_by : (text w after : List ℕ) (t : Bool) (n : ℕ) → n ≡ length w → nat_le n 32 ≡ t → text ≡ w ++ after → 0 < length w → is_word w ≡ true → first_is in_word after ≡ false → IfSome (cond t (Some (record { kind = word_kind w; len = n })) None) (Fronts text)
word_by text w after false n l t s p h e = tt
word_by text w after true n l t s p h e =
    let both = word_so w after (keyword_of w) refl h (omega (arith, leb-true n 32 t)) e in
    record { spelling = w; after = after; splits = s; len = l; some = p; spells = both.0; ends = both.1 }

word_fronts : (text : List ℕ) → first_is is_ascii_lowercase text ≡ true → IfSome (front_word text) (Fronts text)
word_fronts text h =
    let n = prefix_len in_word text in
    let small = first_kept in_word is_ascii_lowercase text small_goes_on h in
    word_by text (take n text) (drop n text) (nat_le n 32) n (sym (length-prefix_len in_word text)) refl (sym (take-append-drop n text)) (first_some is_ascii_lowercase _ small) (is_word_from (take n text) (prefix_passes in_word text) small) (prefix_stops in_word text)

-- numbers

number_by : (text w after : List ℕ) (n : ℕ) (o : Option ℕ) → read_number w ≡ o → n ≡ length w → text ≡ w ++ after → first_is in_run after ≡ false → IfSome (numbered o n) (Fronts text)
number_by text w after n None h l s e = tt
number_by text w after n (Some v) h l s e =
    let is : number_of w ≡ Some v = sym (number_is w) ∙ h in
    record { spelling = w; after = after; splits = s; len = l; some = first_some is_ascii_digit w (number_runs v w is).digit; spells = is; ends = e }

number_fronts : (text : List ℕ) → IfSome (front_number text) (Fronts text)
number_fronts text =
    let n = prefix_len in_run text in
    number_by text (take n text) (drop n text) n (read_number (take n text)) refl (sym (length-prefix_len in_run text)) (sym (take-append-drop n text)) (prefix_stops in_run text)

-- symbols

symbol_by : (text : List ℕ) (o : Option Symbol) → IfSome o (Begins text) → IfSome (marked o) (Fronts text)
symbol_by text None h = tt
symbol_by text (Some s) h = record { spelling = symbol_text s; after = h.after; splits = h.splits; len = refl; some = (symbol_length s).0; spells = refl; ends = h.ends }

symbol_fronts : (text : List ℕ) → 0 < length text → IfSome (front_symbol text) (Fronts text)
symbol_fronts text h = symbol_by text (longer (symbol_of (take 2 text)) (symbol_of (take 1 text))) (symbol_begins text h)

-- what the reader finds at the front is a token there
pub fronts : (text : List ℕ) → 0 < length text → IfSome (front_token text) (Fronts text)
fronts text h = cond_both (first_is is_ascii_lowercase text) (front_word text) (cond (first_is is_ascii_digit text) (front_number text) (front_symbol text)) (λ o. IfSome o (Fronts text))
    (word_fronts text)
    (λ _. cond_both (first_is is_ascii_digit text) (front_number text) (front_symbol text) (λ o. IfSome o (Fronts text))
    (λ _. number_fronts text)
    (λ _. symbol_fronts text h))

-- a token is some bytes, and no more than there are

fronts_inside : (text : List ℕ) (o : Option Front) → IfSome o (Fronts text) → IfSome o (λ f. (0 < f.len) × (f.len ≤ length text))
fronts_inside text None h = tt
fronts_inside text (Some f) h = (omega (arith, h.len, h.some), omega (arith, h.len, ap length h.splits, length-append h.spelling h.after))

pub number_inside : (text : List ℕ) → IfSome (front_number text) (λ f. (0 < f.len) × (f.len ≤ length text))
number_inside text = fronts_inside text (front_number text) (number_fronts text)

pub symbol_inside : (text : List ℕ) → 0 < length text → IfSome (front_symbol text) (λ f. (0 < f.len) × (f.len ≤ length text))
symbol_inside text h = fronts_inside text (front_symbol text) (symbol_fronts text h)

-- a token at the front of a text is what the reader finds

word_read : (p after : List ℕ) → is_word p ≡ true → length p ≤ 32 → first_is in_word after ≡ false → front_token (p ++ after) ≡ Some (record { kind = word_kind p; len = length p })
word_read p after h l e =
    let word = word_is p h in
    rw (first_append is_ascii_lowercase p after word.small, prefix_whole in_word p after word.passes e, le-leb (length p) 32 l, take-append_seam p after)

not_small : (c : ℕ) → is_ascii_digit c ≡ true → is_ascii_lowercase c ≡ false
not_small c h = grind (arith, nat_tests)

first_not_small : (xs : List ℕ) → first_is is_ascii_digit xs ≡ true → first_is is_ascii_lowercase xs ≡ false
first_not_small [] h = refl
first_not_small (x ∷ xs) h = not_small x h

number_read : (p after : List ℕ) (v : ℕ) → number_of p ≡ Some v → first_is in_run after ≡ false → front_token (p ++ after) ≡ Some (record { kind = T.Number v; len = length p })
number_read p after v h e =
    let run = number_runs v p h in
    let digit = first_append is_ascii_digit p after run.digit in
    rw (first_not_small (p ++ after) digit, digit, prefix_whole in_run p after run.passes e, take-append_seam p after, number_is p, h)

symbol_read : (s : Symbol) (after : List ℕ) → first_is (goes_on_as_symbol (symbol_text s)) after ≡ false → front_token (symbol_text s ++ after) ≡ Some (record { kind = T.Symbol s; len = length (symbol_text s) })
symbol_read s after e =
    let first = symbol_first s after in
    rw (first.0, first.1, symbol_taken s (symbol_text s) after (symbol_own s) e)

pub token_read : (p after : List ℕ) (k : TokenKind) → Spells p k → Ends p k after → front_token (p ++ after) ≡ Some (record { kind = k; len = length p })
token_read p after (T.Name w) h e = word_read p after h.0 h.1 e ∙ ap (λ o. Some (record { kind = named o p; len = length p })) h.2 ∙ ap (λ l. Some (record { kind = T.Name (record { items = l }); len = length p })) (sym h.3)
token_read p after (T.Keyword k) h e =
    let P : List ℕ → Type 0 = λ q. front_token (q ++ after) ≡ Some (record { kind = T.Keyword k; len = length q }) in
    subst P (sym h) (word_read (keyword_text k) after (keyword_word k) (keyword_length k) e ∙ ap (λ o. Some (record { kind = named o (keyword_text k); len = length (keyword_text k) })) (keyword_own k))
token_read p after (T.Number n) h e = number_read p after n h e
token_read p after (T.Symbol s) h e =
    let P : List ℕ → Type 0 = λ q. front_token (q ++ after) ≡ Some (record { kind = T.Symbol s; len = length q }) in
    subst P (sym h) (symbol_read s after (subst (λ q. first_is (goes_on_as_symbol q) after ≡ false) h e))
