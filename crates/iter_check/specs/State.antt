-- What an iteration works on: what stays the same while it runs, and what its statements change.
use Rattle.std.specs.Prelude.{ℕ, Bool, List, [], ◌∷◌, bytes_eq, if◌then◌else◌}
use Rattle.iter_syntax.specs.declared.tree.FieldDecl.{FieldDecl}

-- names with their values, the newest first
abbrev pub Names : Type 0
Names = List (List ℕ × ℕ)

-- the value of a name; a name that is not there reads as 0
abbrev pub look : List ℕ → Names → ℕ
look name [] = 0
look name (n ∷ names) = if bytes_eq n.0 name then n.1 else look name names

-- the names with another value for the newest of a name; where it is not there, nothing changes
abbrev pub change : List ℕ → ℕ → Names → Names
change name v [] = []
change name v (n ∷ names) = if bytes_eq n.0 name then (n.0, v) ∷ names else n ∷ change name v names

-- the fields of the record and of the pad, the pointer to the record, and whether the record may be written
pub record Setting : Type 0 where
  pub record_fields : List FieldDecl
  pub pad_fields : List FieldDecl
  pub cur : ℕ
  pub writable : Bool

-- the bytes of the record and of the pad, and the arguments, lets and loop variables in scope
pub record State : Type 0 where
  pub record_bytes : List ℕ
  pub pad : List ℕ
  pub names : Names
