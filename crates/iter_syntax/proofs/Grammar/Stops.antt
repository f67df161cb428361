-- The whole of a token list, and the exact place of its fault.
use Rattle.std.proofs.Common.{◌≡◌, Bool, [], ◌∷◌, ◌++◌, length, refl, sym, ap, ◌∙◌, subst, arith, append_assoc, append-nil}
use Rattle.iter_syntax.specs.Names.{Token}
use Rattle.iter_syntax.specs.Grammar.{Grammar}
use Rattle.iter_syntax.specs.Steps.Parsers.{Reading, Read, Stuck, Parser}
use Rattle.iter_syntax.proofs.Grammar.Splits.{Tokens}
use Rattle.iter_syntax.proofs.Grammar.Exact.{Fitting, Leaves, Exact}

-- the tokens are a whole form with this value; or the first n of them begin one, and no more do
pub record Stops {A : Type 0} (g : Grammar A) (ts rest : Tokens) : Type 0 where
  pub before : Tokens
  pub splits : ts ≡ before ++ rest
  pub begins : g.begins before
  pub no_more : (t : Token) (after : Tokens) → rest ≡ t ∷ after → g.begins (before ++ t ∷ []) → ⊥
  pub not_whole : (a : A) → g.whole ts a → ⊥

abbrev pub Answers : {A : Type 0} → Grammar A → Tokens → Reading A → Type 0
Answers g ts (Read a []) = g.whole ts a × ((b : _) → g.whole ts b → b ≡ a)
Answers g ts (Read a (t ∷ rest)) = Stops g ts (t ∷ rest)
Answers g ts (Stuck rest) = Stops g ts rest

module _ {A : Type 0} (g : Grammar A) (p : Parser A) (first more : Token → Bool) (empty : Bool) (r : Exact g p first more empty) where
  pub whole_got : (ts : Tokens) (a : A) → g.whole ts a → p ts ≡ Read a []
  whole_got ts a w = ap p (sym (append-nil ts)) ∙ r.complete ts [] a w refl

  not_past : (before rest : Tokens) (t : Token) (after : Tokens) (x : Reading A) → p (before ++ rest) ≡ x → rest ≡ t ∷ after → (Leaves (length after) x → ⊥) → g.begins (before ++ t ∷ []) → ⊥
  not_past before rest t after x is e far b =
      let q : (before ++ t ∷ []) ++ after ≡ before ++ rest = append_assoc before (t ∷ []) after ∙ ap (λ l. before ++ l) (sym e) in
      far (subst (λ y. Leaves (length after) y) (ap p q ∙ is) (r.viable (before ++ t ∷ []) after b))

  pub answers : (ts : Tokens) → Answers g ts (p ts)
  answers ts = by_res (p ts) refl (r.sound ts)
    where
      by_res : (x : Reading A) → p ts ≡ x → Fitting g ts x → Answers g ts x
      by_res (Read a []) is s =
          (subst (λ l. g.whole l a) (sym (s.1 ∙ append-nil s.0)) s.2, λ b w. let z : Read b [] ≡ Read a [] = sym (whole_got ts b w) ∙ is in cc)
      by_res (Read a (t ∷ rest)) is s = record {
        before = s.0;
        splits = s.1;
        begins = r.within s.0 a s.2;
        no_more = λ t2 after e. not_past s.0 (t ∷ rest) t2 after (Read a (t ∷ rest)) (ap p (sym s.1) ∙ is) e (λ le. omega (arith, ap length e));
        not_whole = λ b w. let z : Read a (t ∷ rest) ≡ Read b [] = sym is ∙ whole_got ts b w in cc;
      }
      by_res (Stuck rest) is s = record {
        before = s.0;
        splits = s.1;
        begins = s.2;
        no_more = λ t after e. not_past s.0 rest t after (Stuck rest) (ap p (sym s.1) ∙ is) e (λ le. omega (arith, ap length e));
        not_whole = λ a w. let z : Stuck rest ≡ Read a [] = sym is ∙ whole_got ts a w in cc;
      }
