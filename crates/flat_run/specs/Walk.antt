-- What a request asks: an iterator, the fields of the record that it is on, and arguments.
use Rattle.std.specs.Prelude.{ℕ, List, map}
use Rattle.iter_syntax.specs.declared.tree.FieldDecl.{FieldDecl}
use Rattle.iter_syntax.specs.declared.tree.Iter.{Iter}
use Rattle.iter_check.specs.Layout.{size_of}
use Rattle.flat_run.specs.declared.walk.FlatWalk.{FlatWalk}

pub record Walk : Type 0 where
  pub fields : List FieldDecl
  pub iter : Iter
  pub args : List ℕ

-- how many bytes its record has
abbrev pub record_size : Walk → ℕ
record_size w = size_of w.fields

abbrev pub walk_of : FlatWalk → Walk
walk_of w = record { fields = w.fields.now; iter = w.iter.now; args = w.args.now }

abbrev pub walks_of : List FlatWalk → List Walk
walks_of walks = map walk_of walks
