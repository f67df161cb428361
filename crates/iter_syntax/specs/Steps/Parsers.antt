-- Parsers that look one token ahead.
use Rattle.std.specs.Prelude.{ℕ, zero, suc, Bool, false, if◌then◌else◌, List, [], ◌∷◌, length, Option, Some, None}
use Rattle.iter_syntax.specs.Names.{Token}

-- a value and the tokens left, or the tokens from the first that does not fit
pub data Reading (A : Type 0) : Type 0 where
  Read : A → List Token → Reading A
  Stuck : List Token → Reading A

abbrev pub bind : {A B : Type 0} → Reading A → (A → List Token → Reading B) → Reading B
bind (Read a left) f = f a left
bind (Stuck left) f = Stuck left

abbrev pub Parser : Type 0 → Type 0
Parser A = List Token → Reading A

abbrev pub read_token : (Token → Bool) → Parser Token
read_token kind [] = Stuck []
read_token kind (t ∷ ts) = if kind t then Read t ts else Stuck (t ∷ ts)

abbrev pub read_pair : {A B : Type 0} → Parser A → Parser B → Parser (A × B)
read_pair p q ts = bind (p ts) (λ a left. bind (q left) (λ b more. Read (a, b) more))

abbrev pub read_value : {A B : Type 0} → (A → B) → Parser A → Parser B
read_value f p ts = bind (p ts) (λ a left. Read (f a) left)

-- whether the first token is of a kind
abbrev pub at_first : (Token → Bool) → List Token → Bool
at_first kind [] = false
at_first kind (t ∷ ts) = kind t

abbrev pub read_up_to : {A : Type 0} → (Token → Bool) → Parser A → ℕ → Parser (List A)
read_up_to first p zero ts = Read [] ts
read_up_to first p (suc n) ts =
    if at_first first ts then bind (p ts) (λ a left. bind (read_up_to first p n left) (λ others more. Read (a ∷ others) more)) else Read [] ts

abbrev pub read_many : {A : Type 0} → (Token → Bool) → Parser A → Parser (List A)
read_many first p ts = read_up_to first p (length ts) ts

abbrev pub read_optional : {A : Type 0} → (Token → Bool) → Parser A → Parser (Option A)
read_optional first p ts = if at_first first ts then bind (p ts) (λ a left. Read (Some a) left) else Read None ts

abbrev pub read_either : {A : Type 0} → (Token → Bool) → Parser A → Parser A → Parser A
read_either first p q ts = if at_first first ts then p ts else q ts
