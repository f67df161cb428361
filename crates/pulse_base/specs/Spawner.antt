-- What a spawner may tell, and what a call does to it.
use Rattle.std.specs.Prelude.{◌≡◌, ℕ, List, [], ◌∷◌, ◌++◌, Option, Some, None, Result, Ok, Err}

-- a child that was started: its words, its input and its number
pub record Start : Type 0 where
  pub words : List (List ℕ)
  pub input : List ℕ
  pub kid : ℕ

-- the children started, and the numbers of those waited for
pub record Family : Type 0 where
  pub started : List Start
  pub waited : List ℕ

-- a start appends the child that it gives, or fails and appends nothing
abbrev pub Starts : {E : Type 0} → Option Family → Option Family → List (List ℕ) → List ℕ → Result ℕ E → Type 0
Starts None now words input r = now ≡ None
Starts (Some f) now words input (Ok kid) = now ≡ Some (record f { started = f.started ++ record { words = words; input = input; kid = kid } ∷ [] })
Starts (Some f) now words input (Err e) = now ≡ Some f

-- a wait appends the child's number, or fails and appends nothing
abbrev pub Waits : {T E : Type 0} → Option Family → Option Family → ℕ → Result T E → Type 0
Waits None now kid r = now ≡ None
Waits (Some f) now kid (Ok s) = now ≡ Some (record f { waited = f.waited ++ kid ∷ [] })
Waits (Some f) now kid (Err e) = now ≡ Some f
