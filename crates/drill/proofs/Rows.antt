-- Texts put one behind the other.
use Rattle.std.proofs.Common.{◌≡◌, ℕ, List, [], ◌++◌, ap, ◌∙◌}

pub put_text : (before after piece text : List ℕ) → after ≡ before ++ piece → piece ≡ text → after ≡ before ++ text
put_text before after piece text put is = put ∙ ap (λ t. before ++ t) is

pub five_texts : (none one two three four all a b c d e : List ℕ) → none ≡ [] → one ≡ none ++ a → two ≡ one ++ b → three ≡ two ++ c → four ≡ three ++ d → all ≡ four ++ e → all ≡ a ++ b ++ c ++ d ++ e
five_texts none one two three four all a b c d e p q r s t u = rw (u, t, s, r, q, p)
