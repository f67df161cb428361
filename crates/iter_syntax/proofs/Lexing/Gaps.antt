-- The reader skips just the separators and comments at the front of a text.
use Rattle.std.proofs.Common.{◌≡◌, ℕ, ◌+◌, Bool, true, false, not, List, [], ◌∷◌, ◌++◌, length, refl, sym, ap, subst, arith, append_assoc, length-append}
use Rattle.std.specs.Prelude.{◌==◌}
use Rattle.std.specs.Cmp.{first_so, second_so}
use Rattle.std.proofs.lemmas.Bool.Decides.{nat_tests}
use Rattle.std.proofs.lemmas.Bool.{eqb-true}
use Rattle.iter_syntax.specs.Bytes.{is_separator}
use Rattle.iter_syntax.specs.Spelling.{first_is}
use Rattle.iter_syntax.specs.Steps.Reading.{gap_len}
use Rattle.iter_syntax.specs.Tokens.{in_line, IsGap, nothing, separator, comment, last_comment, begins_gap}

append_nil : (xs : List ℕ) → xs ++ [] ≡ xs
append_nil [] = refl
append_nil (x ∷ xs) = ap (λ l. x ∷ l) (append_nil xs)

-- a gap is what the reader skips

not_hash : (b : ℕ) → is_separator b ≡ true → (b == 35) ≡ false
not_hash b h = grind (arith, nat_tests)

no_gap_hash : (b : ℕ) → begins_gap b ≡ false → (b == 35) ≡ false
no_gap_hash b h = grind (arith, nat_tests)

no_gap_separator : (b : ℕ) → begins_gap b ≡ false → is_separator b ≡ false
no_gap_separator b h = grind (arith, nat_tests)

nothing_skipped : (after : List ℕ) → first_is begins_gap after ≡ false → gap_len false after ≡ 0
nothing_skipped [] h = refl
nothing_skipped (b ∷ bs) h = rw (no_gap_hash b h, no_gap_separator b h)

line_skipped : (body rest : List ℕ) → in_line body ≡ true → gap_len true (body ++ 10 ∷ rest) ≡ length body + 1 + gap_len false rest
line_skipped [] rest h = omega arith
line_skipped (b ∷ bs) rest h = rw (first_so (not (b == 10)) _ h) (omega (arith, line_skipped bs rest (second_so (not (b == 10)) _ h)))

end_skipped : (body : List ℕ) → in_line body ≡ true → gap_len true body ≡ length body
end_skipped [] h = refl
end_skipped (b ∷ bs) h = rw (first_so (not (b == 10)) _ h) (omega (arith, end_skipped bs (second_so (not (b == 10)) _ h)))

pub gap_skipped : (gap after : List ℕ) → IsGap gap after → first_is begins_gap after ≡ false → gap_len false (gap ++ after) ≡ length gap
gap_skipped gap after (nothing rest) h = nothing_skipped after h
gap_skipped gap after (separator b bytes rest s g) h = rw (not_hash b s, s) (omega (arith, gap_skipped bytes rest g h))
gap_skipped gap after (comment body bytes rest s g) h =
    let line = line_skipped body (bytes ++ rest) s in
    rw (append_assoc body (10 ∷ bytes) rest) (omega (arith, line, gap_skipped bytes rest g h, length-append body (10 ∷ bytes)))
gap_skipped gap after (last_comment body s) h = rw (append_nil body) (omega (arith, end_skipped body s))

-- what the reader skips is a gap, and nothing of one stands behind it

-- the rest of a text behind its gap, from outside a comment or from inside one
pub record Outside (text : List ℕ) : Type 0 where
  pub gap : List ℕ
  pub rest : List ℕ
  pub splits : text ≡ gap ++ rest
  pub len : gap_len false text ≡ length gap
  pub is_gap : IsGap gap rest
  pub stops : first_is begins_gap rest ≡ false

record Inside (text : List ℕ) : Type 0 where
  gap : List ℕ
  rest : List ℕ
  splits : text ≡ gap ++ rest
  len : gap_len true text ≡ length gap
  closes : (body : List ℕ) → in_line body ≡ true → IsGap (35 ∷ (body ++ gap)) rest
  stops : first_is begins_gap rest ≡ false

in_line_more : (body : List ℕ) (b : ℕ) → in_line body ≡ true → (b == 10) ≡ false → in_line (body ++ b ∷ []) ≡ true
in_line_more [] b h e = rw e
in_line_more (x ∷ xs) b h e = rw (first_so (not (x == 10)) _ h) (in_line_more xs b (second_so (not (x == 10)) _ h) e)

inside_by : (b : ℕ) (bs : List ℕ) (t : Bool) → (b == 10) ≡ t → Outside bs → Inside bs → Inside (b ∷ bs)
inside_by b bs true e o i = record {
  gap = b ∷ o.gap;
  rest = o.rest;
  splits = ap (λ l. b ∷ l) o.splits;
  len = rw e (omega (arith, o.len));
  closes = λ body h. subst (λ c. IsGap (35 ∷ (body ++ c ∷ o.gap)) o.rest) (sym (eqb-true b 10 e)) (comment body o.gap o.rest h o.is_gap);
  stops = o.stops;
}
inside_by b bs false e o i = record {
  gap = b ∷ i.gap;
  rest = i.rest;
  splits = ap (λ l. b ∷ l) i.splits;
  len = rw e (omega (arith, i.len));
  closes = λ body h. subst (λ l. IsGap (35 ∷ l) i.rest) (append_assoc body (b ∷ []) i.gap) (i.closes (body ++ b ∷ []) (in_line_more body b h e));
  stops = i.stops;
}

outside_by : (b : ℕ) (bs : List ℕ) (t u : Bool) → (b == 35) ≡ t → is_separator b ≡ u → Outside bs → Inside bs → Outside (b ∷ bs)
outside_by b bs true u e s o i = record {
  gap = b ∷ i.gap;
  rest = i.rest;
  splits = ap (λ l. b ∷ l) i.splits;
  len = rw e (omega (arith, i.len));
  is_gap = subst (λ c. IsGap (c ∷ i.gap) i.rest) (sym (eqb-true b 35 e)) (i.closes [] refl);
  stops = i.stops;
}
outside_by b bs false true e s o i = record {
  gap = b ∷ o.gap;
  rest = o.rest;
  splits = ap (λ l. b ∷ l) o.splits;
  len = rw (e, s) (omega (arith, o.len));
  is_gap = separator b o.gap o.rest s o.is_gap;
  stops = o.stops;
}
outside_by b bs false false e s o i = record {
  gap = [];
  rest = b ∷ bs;
  splits = refl;
  len = rw (e, s);
  is_gap = nothing (b ∷ bs);
  stops = rw (e, s);
}

both : (text : List ℕ) → Outside text × Inside text
both [] = (
  record { gap = []; rest = []; splits = refl; len = refl; is_gap = nothing []; stops = refl },
  record { gap = []; rest = []; splits = refl; len = refl; closes = λ body h. subst (λ l. IsGap (35 ∷ l) []) (sym (append_nil body)) (last_comment body h); stops = refl },
)
both (b ∷ bs) = let r = both bs in (outside_by b bs (b == 35) (is_separator b) refl refl r.0 r.1, inside_by b bs (b == 10) refl r.0 r.1)

pub gap_found : (text : List ℕ) → Outside text
gap_found text = (both text).0
