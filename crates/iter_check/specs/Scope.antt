-- What names mean where a statement stands: the names in scope, and the fields of the record and of the pad.
use Rattle.std.specs.Prelude.{Bool, List, [], ◌∷◌, ◌++◌, find, Option, bytes_eq}
use Rattle.iter_syntax.specs.declared.tree.Word.{Word}
use Rattle.iter_syntax.specs.declared.tree.FieldDecl.{FieldDecl}
use Rattle.iter_check.specs.Layout.{text}
use Rattle.iter_check.specs.declared.sort.Sort.{Sort}
use Rattle.iter_check.specs.declared.sort.Part.{Part}
use Rattle.iter_check.specs.declared.scope.Binding.{Binding}

-- the arguments, lets and loop variables in scope, the oldest first
abbrev pub Scope : Type 0
Scope = List Binding

-- what a name is bound to, where it is in scope
abbrev pub bound : Scope → Word → Option Binding
bound scope w = find (λ b. bytes_eq b.text (text w)) scope

-- the scope with one more name, of a type or of none
abbrev pub bind : Word → Option Sort → Bool → Scope → Scope
bind w sort is_let scope = scope ++ record { text = text w; sort = sort; is_let = is_let } ∷ []

-- the declaration of a field, where there is one
abbrev pub declared_field : List FieldDecl → Word → Option FieldDecl
declared_field fields w = find (λ f. bytes_eq (text f.name) (text w)) fields

-- where a statement stands: in which block of its iterator, with which fields
pub record Ground : Type 0 where
  pub part : Part
  pub record_fields : List FieldDecl
  pub pad_fields : List FieldDecl
