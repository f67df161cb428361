-- A text begins with a symbol just where the reader finds one.
use Rattle.std.proofs.Common.{◌≡◌, ℕ, ◌<◌, ◌≤◌, Bool, true, false, cond, List, [], ◌∷◌, ◌++◌, length, take, Some, None, refl, sym, ap, ◌∙◌, subst, arith, lit≤, lit<}
use Rattle.std.specs.Prelude.{find, bytes_eq, Option, IfSome, is_some}
use Rattle.std.specs.Char.{is_ascii_lowercase, is_ascii_digit}
use Rattle.std.proofs.lemmas.Slice.Eq.{bytes_eq-Decides}
use Rattle.iter_syntax.specs.Names.{Symbol}
use Rattle.iter_syntax.specs.declared.token.Symbol.TheVariants as S
use Rattle.iter_syntax.specs.Spelling.{symbol_text, symbols, symbol_of, first_is, goes_on_as_symbol}
use Rattle.iter_syntax.specs.Steps.Reading.{longer}

found_at : {X : Type 0} (f : X → Bool) (y : X) (ys : List X) (x : X) (b : Bool) → f y ≡ b → (find f ys ≡ Some x → f x ≡ true) → cond b (Some y) (find f ys) ≡ Some x → f x ≡ true
found_at f y ys x true h r q = let e : y ≡ x = cc in ap f (sym e) ∙ h
found_at f y ys x false h r q = r q

-- what is found passes
pub find_passes : {X : Type 0} (f : X → Bool) (xs : List X) (x : X) → find f xs ≡ Some x → f x ≡ true
find_passes f [] x q = cc
find_passes f (y ∷ ys) x q = found_at f y ys x (f y) refl (find_passes f ys x) q

pub symbol_found : (p : List ℕ) (s : Symbol) → symbol_of p ≡ Some s → symbol_text s ≡ p
unfolding symbol_of
symbol_found p s q = (bytes_eq-Decides (symbol_text s) p).0 (find_passes (λ t. bytes_eq (symbol_text t) p) symbols s q)

-- one or two bytes, none of which begins a word or a number, and no other symbol's
pub symbol_own : (s : Symbol) → symbol_of (symbol_text s) ≡ Some s
unfolding symbol_of
symbol_own S.Range = refl
symbol_own s = refl

pub symbol_length : (s : Symbol) → (0 < length (symbol_text s)) × (length (symbol_text s) ≤ 2)
symbol_length S.Range = (lit< tt, lit≤ tt)
symbol_length s = (lit< tt, lit≤ tt)

pub symbol_first : (s : Symbol) (after : List ℕ) → (first_is is_ascii_lowercase (symbol_text s ++ after) ≡ false) × (first_is is_ascii_digit (symbol_text s ++ after) ≡ false)
symbol_first S.Range after = (refl, refl)
symbol_first s after = (refl, refl)

no_symbol : (p : List ℕ) (o : Option Symbol) → symbol_of p ≡ o → 2 < length p → o ≡ None
no_symbol p None e h = refl
no_symbol p (Some s) e h = absurd (omega (arith, symbol_length s, ap length (symbol_found p s e)))

-- three bytes are no symbol
pub no_symbol_of_three : (p : List ℕ) → 2 < length p → symbol_of p ≡ None
no_symbol_of_three p h = no_symbol p (symbol_of p) refl h

goes_on_no : (o : Option Symbol) → is_some o ≡ false → o ≡ None
goes_on_no None h = refl
goes_on_no (Some s) h = cc

-- the longest symbol at the front of a text is what the reader takes
pub symbol_taken : (s : Symbol) (w after : List ℕ) → symbol_of w ≡ Some s → first_is (goes_on_as_symbol w) after ≡ false → longer (symbol_of (take 2 (w ++ after))) (symbol_of (take 1 (w ++ after))) ≡ Some s
symbol_taken s [] after h e = absurd (omega (arith, symbol_length s, ap length (symbol_found [] s h)))
symbol_taken s (x ∷ []) [] h e = rw h
symbol_taken s (x ∷ []) (y ∷ r) h e = rw (goes_on_no (symbol_of (x ∷ y ∷ [])) e, h)
symbol_taken s (x ∷ y ∷ []) after h e = rw h
symbol_taken s (x ∷ y ∷ z ∷ r) after h e = let n : symbol_of (x ∷ y ∷ z ∷ r) ≡ None = no_symbol_of_three _ (omega arith) in cc

-- a symbol at the front of a text, with what follows it
pub record Begins (text : List ℕ) (s : Symbol) : Type 0 where
  pub after : List ℕ
  pub splits : text ≡ symbol_text s ++ after
  pub ends : first_is (goes_on_as_symbol (symbol_text s)) after ≡ false

no_third : (x y : ℕ) (r : List ℕ) → first_is (goes_on_as_symbol (x ∷ y ∷ [])) r ≡ false
no_third x y [] = refl
no_third x y (z ∷ r) = ap is_some (no_symbol_of_three (x ∷ y ∷ z ∷ []) (omega arith))

begins_with : (s : Symbol) (w after : List ℕ) → symbol_of w ≡ Some s → first_is (goes_on_as_symbol w) after ≡ false → Begins (w ++ after) s
begins_with s w after h e =
    let is : w ≡ symbol_text s = sym (symbol_found w s h) in
    record {
      after = after;
      splits = ap (λ v. v ++ after) is;
      ends = subst (λ v. first_is (goes_on_as_symbol v) after ≡ false) is e;
    }

begins_by : (x y : ℕ) (r : List ℕ) (o u : Option Symbol) → symbol_of (x ∷ y ∷ []) ≡ o → symbol_of (x ∷ []) ≡ u → IfSome (longer o u) (Begins (x ∷ y ∷ r))
begins_by x y r (Some s) u h k = begins_with s (x ∷ y ∷ []) r h (no_third x y r)
begins_by x y r None (Some s) h k = begins_with s (x ∷ []) (y ∷ r) k (ap is_some h)
begins_by x y r None None h k = tt

begins_one : (x : ℕ) (o : Option Symbol) → symbol_of (x ∷ []) ≡ o → IfSome (longer o o) (Begins (x ∷ []))
begins_one x (Some s) h = begins_with s (x ∷ []) [] h refl
begins_one x None h = tt

-- what the reader takes is a symbol, and no longer one stands there
pub symbol_begins : (text : List ℕ) → 0 < length text → IfSome (longer (symbol_of (take 2 text)) (symbol_of (take 1 text))) (Begins text)
symbol_begins [] h = absurd (omega arith)
symbol_begins (x ∷ []) h = begins_one x (symbol_of (x ∷ [])) refl
symbol_begins (x ∷ y ∷ r) h = begins_by x y r (symbol_of (x ∷ y ∷ [])) (symbol_of (x ∷ [])) refl refl
