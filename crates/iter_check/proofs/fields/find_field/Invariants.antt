use Rattle.std.proofs.Common.{◌≡◌, ℕ, ◌-◌, ◌^◌, ◌≤◌, List, drop}
use Rattle.std.specs.Prelude.{option_map}
use Rattle.iter_syntax.specs.declared.tree.FieldDecl.{FieldDecl}
use Rattle.iter_check.specs.Layout.{text, find_field, find_from}
use Rattle.iter_check.specs.Views.Slots.{capped}
use Rattle.iter_check.proofs.fields.find_field.Given as goal

pub record Passed (fields : List FieldDecl) (name : List ℕ) (offset at : ℕ) : Type 0 where
  pub same : option_map capped (find_field fields name) ≡ option_map capped (find_from offset name (drop at fields))
  pub small : offset ≤ 2 ^ 64 - 1

abbrev pub invariant-fields : goal.invariant-fields
invariant-fields l = Passed l.fields (text l.word) l.offset l.field-index
