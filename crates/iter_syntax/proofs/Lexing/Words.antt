-- Words and keywords.
use Rattle.std.proofs.Common.{◌≡◌, ℕ, ◌≤◌, true, List, [], ◌∷◌, length, Some, refl, arith}
use Rattle.std.specs.Prelude.{bytes_eq}
use Rattle.std.specs.List.{list_all}
use Rattle.std.specs.Cmp.{first_so, second_so}
use Rattle.std.specs.Char.{is_ascii_lowercase}
use Rattle.std.proofs.lemmas.Slice.Eq.{bytes_eq-Decides}
use Rattle.iter_syntax.specs.Names.{Keyword}
use Rattle.iter_syntax.specs.declared.token.Keyword.TheVariants as K
use Rattle.iter_syntax.specs.Bytes.{in_word}
use Rattle.iter_syntax.specs.Spelling.{keyword_text, keywords, keyword_of, is_word, first_is}
use Rattle.iter_syntax.proofs.Lexing.Symbols.{find_passes}

pub keyword_found : (p : List ℕ) (k : Keyword) → keyword_of p ≡ Some k → keyword_text k ≡ p
unfolding keyword_of
keyword_found p k q = (bytes_eq-Decides (keyword_text k) p).0 (find_passes (λ t. bytes_eq (keyword_text t) p) keywords k q)

-- a keyword is a word, and no other's
pub keyword_own : (k : Keyword) → keyword_of (keyword_text k) ≡ Some k
unfolding keyword_of
keyword_own K.Record = refl
keyword_own k = refl

pub keyword_word : (k : Keyword) → is_word (keyword_text k) ≡ true
keyword_word K.Record = refl
keyword_word k = refl

pub keyword_length : (k : Keyword) → length (keyword_text k) ≤ 32
keyword_length K.Record = omega arith
keyword_length k = omega arith

pub small_goes_on : (b : ℕ) → is_ascii_lowercase b ≡ true → in_word b ≡ true
small_goes_on b h = rw h

pub record IsWord (p : List ℕ) : Type 0 where
  pub passes : list_all in_word p ≡ true
  pub small : first_is is_ascii_lowercase p ≡ true

-- a word is a row of its bytes, the first of which is a small letter
pub word_is : (p : List ℕ) → is_word p ≡ true → IsWord p
word_is [] h = cc
word_is (b ∷ bs) h = record {
  passes = rw (small_goes_on b (first_so _ (list_all in_word bs) h)) (second_so (is_ascii_lowercase b) _ h);
  small = first_so _ (list_all in_word bs) h;
}

pub is_word_from : (p : List ℕ) → list_all in_word p ≡ true → first_is is_ascii_lowercase p ≡ true → is_word p ≡ true
is_word_from [] a s = cc
is_word_from (b ∷ bs) a s = rw s (second_so (in_word b) _ a)
