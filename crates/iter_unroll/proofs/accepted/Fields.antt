-- A field that the checker knows has its place, which lies inside the record or the pad.
use Rattle.std.proofs.Common.{◌≡◌, ℕ, suc, ◌+◌, ◌*◌, ◌<◌, ◌≤◌, Bool, true, false, nat_lt, List, [], ◌∷◌, Option, Some, None, bytes_eq, if◌then◌else◌, refl, sym, subst, arith, mul-le-mul_right, zero-add}
use Rattle.std.proofs.lemmas.List.Sums.{sum_by-cons}
use Rattle.std.specs.Prelude.{⊤, is_some, is_none, unwrap_or}
use Rattle.iter_syntax.specs.declared.tree.Word.{Word}
use Rattle.iter_syntax.specs.declared.tree.FieldDecl.{FieldDecl}
use Rattle.iter_check.specs.Layout.{Slot, text, width_bytes, elements, field_size, size_of, find_from, find_field}
use Rattle.iter_check.specs.FieldValue.{item_at}
use Rattle.iter_check.specs.declared.kind.CheckKind.TheVariants as k
use Rattle.iter_check.specs.Scope.{declared_field}
use Rattle.iter_check.specs.Expressions.{plain_faults, item_faults}
use Rattle.iter_check.specs.Indices.{array_len}
use Rattle.iter_unroll.specs.Uses.{Use, element, element_of}
use Rattle.iter_unroll.specs.unrolling.Tied.{Never}
use Rattle.iter_unroll.proofs.accepted.Options.{Is, never, is_then}
use Rattle.iter_unroll.proofs.accepted.Faults.{right}

-- a declaration and its place, which ends at or before the size
abbrev pub Placed : ℕ → Option FieldDecl → Option Slot → Type 0
Placed n None None = ⊤
Placed n None (Some s) = Never
Placed n (Some d) None = Never
Placed n (Some d) (Some s) = (s.count ≡ elements d) × (s.offset + s.count * width_bytes s.width ≤ n)

found : (b : Bool) (o : ℕ) (d : FieldDecl) (fields : List FieldDecl) (p : Option FieldDecl) (q : Option Slot) → Placed (o + field_size d + size_of fields) p q → Placed (o + (field_size d + size_of fields)) (if b then Some d else p) (if b then Some (record { offset = o; width = d.width; count = elements d }) else q)
found true o d fields p q h = (refl, omega arith)
found false o d fields None None h = tt
found false o d fields None (Some s) h = never h
found false o d fields (Some e) None h = never h
found false o d fields (Some e) (Some s) h = (h.0, omega (arith, h.1))

placed_from : (o : ℕ) (w : Word) (fields : List FieldDecl) → Placed (o + size_of fields) (declared_field fields w) (find_from o (text w) fields)
placed_from o w [] = tt
placed_from o w (d ∷ fields) =
    subst (λ n. Placed (o + n) (declared_field (d ∷ fields) w) (find_from o (text w) (d ∷ fields))) (sym (sum_by-cons field_size d fields))
    (found (bytes_eq (text d.name) (text w)) o d fields (declared_field fields w) (find_from (o + field_size d) (text w) fields) (placed_from (o + field_size d) w fields))

pub placed : (w : Word) (fields : List FieldDecl) → Placed (size_of fields) (declared_field fields w) (find_field fields (text w))
placed w fields = subst (λ n. Placed n (declared_field fields w) (find_field fields (text w))) (zero-add (size_of fields)) (placed_from 0 w fields)

-- an element lies inside
abbrev pub Inside : ℕ → Use → Type 0
Inside n u = u.0 + width_bytes u.1 ≤ n

element_case : (b : Bool) (n i : ℕ) (s : Slot) → nat_lt i s.count ≡ b → i < s.count → s.offset + s.count * width_bytes s.width ≤ n → Is {A = Use} (if b then Some (item_at s i, s.width) else None) (Inside n)
element_case true n i s e lt h =
    let m : suc i * width_bytes s.width ≤ s.count * width_bytes s.width = mul-le-mul_right (width_bytes s.width) lt in
    omega (arith, m, h)
element_case false n i s e lt h = absurd (grind arith)

element_in : (n i : ℕ) (p : Option FieldDecl) (q : Option Slot) → Placed n p q → Is p (λ d. i < elements d) → Is (element q i) (Inside n)
element_in n i None None h lt = never lt
element_in n i None (Some s) h lt = never h
element_in n i (Some d) None h lt = never h
element_in n i (Some d) (Some s) h lt = element_case (nat_lt i s.count) n i s refl (omega (arith, h.0, lt)) h.1

-- a field without an index has one element
plain_one : (p : Option FieldDecl) (w : Word) → plain_faults p w ≡ [] → Is p (λ d. 0 < elements d)
plain_one None w e = cc
plain_one (Some d) w e = one d.len (right k.Typing w.place (is_some d.len) e)
  where
    one : (len : Option ℕ) → is_some len ≡ false → 0 < unwrap_or len 1
    one None h = omega arith
    one (Some n) h = cc

pub plain_there : (fields : List FieldDecl) (w : Word) → plain_faults (declared_field fields w) w ≡ [] → Is (element_of fields w (Some 0)) (Inside (size_of fields))
plain_there fields w e = element_in (size_of fields) 0 (declared_field fields w) (find_field fields (text w)) (placed w fields) (plain_one (declared_field fields w) w e)

-- an array has as many as its length
item_many : (p : Option FieldDecl) (w : Word) (i : ℕ) → item_faults p w ≡ [] → i < array_len p → Is p (λ d. i < elements d)
item_many None w i e lt = cc
item_many (Some d) w i e lt = many d.len (right k.Typing w.place (is_none d.len) e) lt
  where
    many : (len : Option ℕ) → is_none len ≡ false → i < unwrap_or len 0 → i < unwrap_or len 1
    many None h lt = cc
    many (Some n) h lt = lt

pub item_there : (fields : List FieldDecl) (w : Word) (v : Option ℕ) → item_faults (declared_field fields w) w ≡ [] → Is v (λ i. i < array_len (declared_field fields w)) → Is (element_of fields w v) (Inside (size_of fields))
item_there fields w v e h =
    is_then (element (find_field fields (text w))) v (λ i. i < array_len (declared_field fields w)) (Inside (size_of fields)) h
    (λ i lt. element_in (size_of fields) i (declared_field fields w) (find_field fields (text w)) (placed w fields) (item_many (declared_field fields w) w i e lt))
