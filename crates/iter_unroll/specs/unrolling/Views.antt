-- How the code holds the names in scope and a field's place, and what its answers say.
use Rattle.std.specs.Prelude.{◌≡◌, ◌≤◌, ℕ, List, map, reverse, Option, Some, None, Result, Ok, Err, ⊤}
use Rattle.iter_syntax.specs.declared.tree.Width.{Width}
use Rattle.iter_syntax.specs.Tree.{Ex}
use Rattle.iter_check.specs.Layout.{text, size_of}
use Rattle.iter_unroll.specs.declared.tree.FlatUse.{FlatUse}
use Rattle.iter_unroll.specs.declared.scope.Meant.{Meant}
use Rattle.iter_unroll.specs.declared.scope.Entry.{Entry}
use Rattle.iter_unroll.specs.declared.expr.Shape.{Shape}
use Rattle.iter_unroll.specs.declared.refused.Refused.{Refused}
use Rattle.iter_unroll.specs.declared.refused.Refused.TheVariants.{Unknown, Memory}
use Rattle.iter_unroll.specs.unrolling.Scope as t

abbrev pub use_of : FlatUse → ℕ × Width
use_of u = (u.off, u.width)

abbrev pub entry_of : Entry → List ℕ × Meant
entry_of e = (text e.word.now, e.meant)

-- the code has the oldest first
abbrev pub env_of : List Entry → t.Env
env_of es = map entry_of (reverse es)

abbrev pub shape_of : Shape → t.Shape
shape_of s = record { record_fields = s.record_fields.now; pad_fields = s.pad_fields.now }

-- records and pads have at most 256 bytes
abbrev pub Small : t.Shape → Type 0
Small s = (size_of s.record_fields ≤ 256) × (size_of s.pad_fields ≤ 256)

-- the number of the element that a use names
abbrev pub number_of : t.Env → Option Ex → Option ℕ
number_of env None = Some 0
number_of env (Some i) = t.index env i

-- the answer is the straight code, or there is none; for want of memory nothing is said
abbrev pub Flattens : {A B : Type 0} → (A → B) → Result A Refused → Option B → Type 0
Flattens h (Ok x) o = o ≡ Some (h x)
Flattens h (Err Unknown) o = o ≡ None
Flattens h (Err Memory) o = ⊤
