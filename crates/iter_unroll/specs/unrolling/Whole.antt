-- Whole iterations, and starts of walks.
use Rattle.std.specs.Prelude.{◌≡◌, ℕ, ◌+◌, List, [], ◌∷◌, length, Option, Some, None, ⊤}
use Rattle.iter_syntax.specs.declared.tree.FieldDecl.{FieldDecl}
use Rattle.iter_syntax.specs.declared.tree.Arg.{Arg}
use Rattle.iter_syntax.specs.declared.tree.Iter.{Iter}
use Rattle.iter_syntax.specs.Tree.{block}
use Rattle.iter_check.specs.Layout.{text, size_of}
use Rattle.iter_check.specs.Iteration.{iteration, begin}
use Rattle.iter_unroll.specs.declared.scope.Meant.TheVariants as m
use Rattle.iter_unroll.specs.Flat.{Fs, Fixed, flat_iteration, flat_begin}
use Rattle.iter_unroll.specs.unrolling.Scope.{Env, Shape}
use Rattle.iter_unroll.specs.unrolling.Flattened.{flat_of}
use Rattle.iter_unroll.specs.unrolling.Tied.{Never}

-- the arguments, numbered from `k` on
abbrev pub arguments : ℕ → List Arg → Env → Env
arguments k [] env = env
arguments k (a ∷ args) env = arguments (k + 1) args ((text a.name, m.Argument k) ∷ env)

abbrev pub shape : List FieldDecl → Iter → Shape
shape fields it = record { record_fields = fields; pad_fields = it.pad }

-- there is straight code
abbrev pub IsThere : Option Fs → Type 0
IsThere None = Never
IsThere (Some b) = ⊤

abbrev pub IterationLaw : Type 0
IterationLaw =
    (fields : List FieldDecl) (it : Iter) (e n : Fs) (g : Fixed) (bytes pad : List ℕ)
    → flat_of (shape fields it) 0 [] (block it.end_part) ≡ Some e
    → flat_of (shape fields it) 0 [] (block it.next_part) ≡ Some n
    → flat_iteration g e n bytes pad ≡ iteration fields it bytes g.cur pad g.writable

abbrev pub BeginLaw : Type 0
BeginLaw =
    (it : Iter) (b : Fs) (args : List ℕ)
    → length args ≡ length it.args
    → flat_of (shape [] it) 0 (arguments 0 it.args []) (block it.init_part) ≡ Some b
    → flat_begin b args (size_of it.pad) ≡ begin it args
