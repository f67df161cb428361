-- The reader's steps follow the definition of the tokens of a text.
use Rattle.std.proofs.Common.{◌≡◌, ℕ, ◌+◌, ◌-◌, ◌<◌, ◌≤◌, false, List, [], ◌∷◌, ◌++◌, length, take, drop, Some, None, refl, sym, ap, ◌∙◌, subst, arith, length-append, length-drop}
use Rattle.std.proofs.lemmas.List.{drop-drop}
use Rattle.std.proofs.Math.Seq.{take-length, drop-append_seam}
use Rattle.std.specs.Prelude.{Option, IfSome}
use Rattle.iter_syntax.specs.Names.{Token, Front}
use Rattle.iter_syntax.specs.Spelling.{first_is}
use Rattle.iter_syntax.specs.Steps.Reading.{gap_len, front_token, HasRead}
use Rattle.iter_syntax.specs.Tokens.{IsGap, BeginsWith, Leads, begins_gap, IsLexPlace}
use Rattle.iter_syntax.proofs.Lexing.Reading.{Fronts, fronts, token_read}
use Rattle.iter_syntax.proofs.Lexing.Gaps.{gap_found}

-- one more token, with the gap behind it
leads_more : (start : ℕ) (text : List ℕ) (ts : List Token) (t : Token) (stop : ℕ) (rest spelling after gap others : List ℕ) → Leads start text ts stop rest → stop ≡ (t.place).0 → BeginsWith rest spelling t.kind after → after ≡ gap ++ others → IsGap gap others → Leads start text (ts ++ t ∷ []) (stop + length spelling + length gap) others
leads_more start text [] t stop rest spelling after gap others a p b s g =
    (a.0, rest, spelling, after, a.1, a.2, sym a.3 ∙ p, b, (gap, s, g, ap (λ n. n + length spelling + length gap) a.3))
leads_more start text (u ∷ us) t stop rest spelling after gap others a p b s g =
    (a.0, a.1, a.2, a.3, a.4, a.5, a.6, a.7, leads_more (start + length a.0 + length a.2) a.3 us t stop rest spelling after gap others a.8 p b s g)

-- the rest of a text behind its first gap
abbrev behind : List ℕ → List ℕ
behind text = drop (gap_len false text) text

record Skipped (text gap : List ℕ) : Type 0 where
  splits : text ≡ gap ++ behind text
  len : gap_len false text ≡ length gap
  is_gap : IsGap gap (behind text)
  stops : first_is begins_gap (behind text) ≡ false

skipped : (text : List ℕ) → Skipped text (gap_found text).gap
skipped text =
    let o = gap_found text in
    let rest : o.rest ≡ behind text = sym (drop-append_seam o.gap o.rest) ∙ (λ i. drop (sym o.len i) (sym o.splits i)) in
    record {
      splits = o.splits ∙ ap (λ r. o.gap ++ r) rest;
      len = o.len;
      is_gap = subst (IsGap o.gap) rest o.is_gap;
      stops = subst (λ r. first_is begins_gap r ≡ false) rest o.stops;
    }

gap_inside : (text : List ℕ) → gap_len false text ≤ length text
gap_inside text = let s = skipped text in omega (arith, s.len, ap length s.splits, length-append (gap_found text).gap (behind text))

nothing_left : (xs : List ℕ) → length xs ≡ 0 → xs ≡ []
nothing_left [] e = refl
nothing_left (x ∷ xs) e = absurd (omega arith)

pub read_none : (text : List ℕ) → HasRead text [] (gap_len false text)
read_none text =
    let s = skipped text in
    record { inside = gap_inside text; leads = ((gap_found text).gap, s.splits, s.is_gap, s.len ∙ omega arith); no_gap = s.stops }

read_more : (text : List ℕ) (found : List Token) (here : ℕ) (t : Token) (f : Front) → HasRead text found here → Fronts (drop here text) f → here ≡ (t.place).0 → f.kind ≡ t.kind → HasRead text (found ++ t ∷ []) (here + f.len + gap_len false (drop (here + f.len) text))
read_more text found here t f h g p k =
    let next = here + f.len in
    let rest = drop next text in
    let s = skipped rest in
    let after : g.after ≡ rest = sym (drop-append_seam g.spelling g.after) ∙ (λ i. drop (sym g.len i) (sym g.splits i)) ∙ drop-drop f.len here text in
    let others : behind rest ≡ drop (next + gap_len false rest) text = drop-drop (gap_len false rest) next text in
    let stop : here + length g.spelling + length (gap_found rest).gap ≡ next + gap_len false rest = omega (arith, g.len, s.len) in
    let begins : BeginsWith (drop here text) g.spelling t.kind g.after = subst (λ n. BeginsWith (drop here text) g.spelling n g.after) k (record { splits = g.splits; spells = g.spells; ends = g.ends }) in
    let leads = leads_more 0 text found t here (drop here text) g.spelling g.after (gap_found rest).gap (behind rest) h.leads p begins (after ∙ s.splits) s.is_gap in
    record {
      inside = omega (arith, h.inside, gap_inside rest, length-drop next text, length-drop here text, g.len, ap length g.splits, length-append g.spelling g.after);
      leads = subst (λ r. Leads 0 text (found ++ t ∷ []) (next + gap_len false rest) r) others (subst (λ n. Leads 0 text (found ++ t ∷ []) n (behind rest)) stop leads);
      no_gap = subst (λ r. first_is begins_gap r ≡ false) others s.stops;
    }

read_lex : (text : List ℕ) (found : List Token) (here : ℕ) → HasRead text found here → here < length text → front_token (drop here text) ≡ None → IsLexPlace text here
read_lex text found here h l n = record {
  tokens = found;
  rest = drop here text;
  leads = h.leads;
  some = omega (arith, length-drop here text);
  no_gap = h.no_gap;
  no_token = λ p k after b. let e : Some (record { kind = k; len = length p }) ≡ None = sym (token_read p after k b.spells b.ends) ∙ ap front_token (sym b.splits) ∙ n in cc;
}

-- the steps as the code takes them, which reads the text from `here` on as a slice

slice_rest : (here : ℕ) (text : List ℕ) → take (length text - here) (drop here text) ≡ drop here text
slice_rest here text = rw (← length-drop here text) (take-length (drop here text))

pub read_step : (text : List ℕ) (found : List Token) (here n : ℕ) (t : Token) (f : Front) (o : Option Front) → HasRead text found here → here < length text → o ≡ front_token (take (length text - here) (drop here text)) → o ≡ Some f → here ≡ (t.place).0 → f.kind ≡ t.kind → n ≡ gap_len false (take (length text - (here + f.len)) (drop (here + f.len) text)) → HasRead text (found ++ t ∷ []) (here + f.len + n)
read_step text found here n t f o h l e is p k g =
    let some : front_token (drop here text) ≡ Some f = ap front_token (sym (slice_rest here text)) ∙ sym e ∙ is in
    let front : Fronts (drop here text) f = subst (λ x. IfSome x (Fronts (drop here text))) some (fronts (drop here text) (omega (arith, length-drop here text))) in
    let skip : n ≡ gap_len false (drop (here + f.len) text) = g ∙ ap (gap_len false) (slice_rest (here + f.len) text) in
    subst (λ m. HasRead text (found ++ t ∷ []) (here + f.len + m)) (sym skip) (read_more text found here t f h front p k)

pub read_stuck : (text : List ℕ) (found : List Token) (here : ℕ) (o : Option Front) → HasRead text found here → here < length text → o ≡ front_token (take (length text - here) (drop here text)) → o ≡ None → IsLexPlace text here
read_stuck text found here o h l e is = read_lex text found here h l (ap front_token (sym (slice_rest here text)) ∙ sym e ∙ is)
