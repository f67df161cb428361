-- What the names of a program stand for while it is written out as straight code.
use Rattle.std.specs.Prelude.{ℕ, ◌-◌, ◌^◌, nat_eq, List, [], ◌∷◌, bytes_eq, if◌then◌else◌, Option, Some, None, option_map, option_and_then}
use Rattle.iter_syntax.specs.declared.tree.FieldDecl.{FieldDecl}
use Rattle.iter_syntax.specs.Tree.{Ex}
use Rattle.iter_syntax.specs.Tree as t
use Rattle.iter_check.specs.Layout.{text}
use Rattle.iter_check.specs.Value.{Value, Number, Truth, word, one, binary}
use Rattle.iter_unroll.specs.declared.scope.Meant.{Meant}
use Rattle.iter_unroll.specs.declared.scope.Meant.TheVariants as m

-- the names in scope with what they stand for, the newest first
abbrev pub Env : Type 0
Env = List (List ℕ × Meant)

abbrev pub lookup : List ℕ → Env → Option Meant
lookup name [] = None
lookup name (e ∷ env) = if bytes_eq e.0 name then Some e.1 else lookup name env

-- the fields of the record and of the pad
pub record Shape : Type 0 where
  pub record_fields : List FieldDecl
  pub pad_fields : List FieldDecl

abbrev pub map2 : {A B C : Type 0} → (A → B → C) → Option A → Option B → Option C
map2 h None b = None
map2 h (Some x) None = None
map2 h (Some x) (Some y) = Some (h x y)

abbrev pub map3 : {A B C D : Type 0} → (A → B → C → D) → Option A → Option B → Option C → Option D
map3 h None b c = None
map3 h (Some x) b c = map2 (h x) b c

abbrev pub map4 : {A B C D E : Type 0} → (A → B → C → D → E) → Option A → Option B → Option C → Option D → Option E
map4 h None b c d = None
map4 h (Some x) b c d = map3 (h x) b c d

-- the value of an expression of numbers and loop variables
abbrev pub turn_number : Option Meant → Option Value
turn_number None = None
turn_number (Some (m.Slot k)) = None
turn_number (Some (m.Number i)) = Some (Number i)
turn_number (Some (m.Argument k)) = None

abbrev pub constant : Env → Ex → Option Value
constant env (t.num p n) = Some (Number n)
constant env (t.name w) = turn_number (lookup (text w) env)
constant env (t.not p e) = option_map (λ v. one (λ x. Truth (nat_eq x 0)) (word v)) (constant env e)
constant env (t.flip p e) = option_map (λ v. one (λ x. Number (2 ^ 64 - 1 - x)) (word v)) (constant env e)
constant env (t.bin p o a b) = map2 (binary o) (constant env a) (constant env b)
constant env e = None

abbrev pub index : Env → Ex → Option ℕ
index env e = option_and_then word (constant env e)
