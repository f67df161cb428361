-- Records and iterators in order, one at a time; the records of an accepted program are small.
use Rattle.std.proofs.Common.{◌≡◌, ℕ, ◌+◌, ◌-◌, ◌≤◌, Bool, true, false, ◌||◌, List, [], ◌∷◌, ◌++◌, length, take, drop, Option, Some, None, refl, sym, ap, ap₂, subst, ◌∙◌, arith, append_assoc, if◌then◌else◌}
use Rattle.std.proofs.lemmas.List.{drop_more, length-drop}
use Rattle.std.proofs.Math.Seq.{take-length}
use Rattle.std.proofs.lemmas.Option.{slice_get_within, get_or_from_slice_get}
use Rattle.std.specs.Prelude.{nat_lt, slice_get, flat_map, option_map}
use Rattle.iter_syntax.specs.declared.tree.Place.{Place}
use Rattle.iter_syntax.specs.declared.tree.RecordDecl.{RecordDecl}
use Rattle.iter_syntax.specs.declared.tree.Iter.{Iter}
use Rattle.iter_syntax.specs.declared.tree.Program.{Program}
use Rattle.iter_syntax.specs.Steps.Printing.{iter_next}
use Rattle.iter_check.specs.Layout.{size_of}
use Rattle.iter_check.specs.declared.kind.CheckKind.{CheckKind}
use Rattle.iter_check.specs.declared.kind.CheckKind.TheVariants as k
use Rattle.iter_check.specs.declared.kind.Fault.{Fault}
use Rattle.iter_check.specs.Faults.{before, put, in_order, fault}
use Rattle.iter_check.specs.FaultList as fl
use Rattle.layout_text.specs.Decls.{decls_text, iter_text, record_text, layout_text}

drop_at : {A : Type 0} (xs : List A) (at : ℕ) (x : A) → slice_get xs at ≡ Some x → drop at xs ≡ x ∷ drop (at + 1) xs
drop_at xs at x h = drop_more xs at x (slice_get_within xs at x h) ∙ ap (λ z. z ∷ drop (at + 1) xs) (get_or_from_slice_get xs at x x h)

iter_first : (rs : List RecordDecl) (i : Iter) (is : List Iter) → iter_next rs (i ∷ is) ≡ true → decls_text rs (i ∷ is) ≡ iter_text i ++ decls_text rs is
iter_first [] i is h = refl
iter_first (r ∷ rs) i is h = rw h refl

-- the next iterator in order
pub next_iter : (rs : List RecordDecl) (is : List Iter) (at : ℕ) (i : Iter) → iter_next rs (drop at is) ≡ true → slice_get is at ≡ Some i
    → decls_text rs (drop at is) ≡ iter_text i ++ decls_text rs (drop (at + 1) is)
next_iter rs is at i h e =
    let d = drop_at is at i e in
    ap (decls_text rs) d ∙ iter_first rs i (drop (at + 1) is) (sym (ap (iter_next rs) d) ∙ h)

-- the next record in order
pub next_record : (r : RecordDecl) (rs : List RecordDecl) (is : List Iter) → iter_next (r ∷ rs) is ≡ false → decls_text (r ∷ rs) is ≡ record_text r ++ decls_text rs is
next_record r rs [] h = refl
next_record r rs (i ∷ is) h = rw h refl

-- every record has at most 256 bytes
abbrev pub Small : List RecordDecl → Type 0
Small [] = Unit {0}
Small (r ∷ rs) = (size_of r.fields ≤ 256) × Small rs

parts : {A : Type 0} (xs ys : List A) → xs ++ ys ≡ [] → (xs ≡ []) × (ys ≡ [])
parts [] ys h = (refl, h)
parts (x ∷ xs) ys h = absurd (cc h)

put_choice : (b : Bool) (f g : Fault) (xs ys : List Fault) → (if b then g ∷ xs else f ∷ ys) ≡ [] → ⊥
put_choice true f g xs ys h = cc
put_choice false f g xs ys h = cc

put_some : (f : Fault) (gs : List Fault) → put f gs ≡ [] → ⊥
put_some f [] h = cc
put_some f (g ∷ gs) h = put_choice (before g f) f g (put f gs) (g ∷ gs) h

order_empty : (fs : List Fault) → in_order fs ≡ [] → fs ≡ []
order_empty [] h = refl
order_empty (f ∷ fs) h = absurd (put_some f (in_order fs) h)

earlier_empty : (xs ys : List Fault) → fl.or_later xs ys ≡ [] → xs ≡ []
earlier_empty [] ys h = refl
earlier_empty (x ∷ xs) ys h = absurd (cc h)

fault_false : (kind : CheckKind) (p : Place) (b : Bool) → fault kind p b ≡ [] → b ≡ false
fault_false kind p false h = refl
fault_false kind p true h = absurd (cc h)

last_false : (a b : Bool) → (a || b) ≡ false → b ≡ false
last_false false b h = h
last_false true b h = absurd (cc h)

at_most : (n : ℕ) → nat_lt 256 n ≡ false → n ≤ 256
at_most n e = grind arith

record_small : (r : RecordDecl) → fl.record_faults r ≡ [] → size_of r.fields ≤ 256
record_small r h =
    let bad = fault_false k.RecordSize (r.name).place (fl.bad_size r.fields) (parts (fl.twice (λ f. f.name) [] r.fields) _ h).1 in
    at_most (size_of r.fields) (last_false _ _ (last_false _ _ bad))

records_small : (rs : List RecordDecl) → flat_map fl.record_faults rs ≡ [] → Small rs
records_small [] h = tt
records_small (r ∷ rs) h =
    let both = parts (fl.record_faults r) (flat_map fl.record_faults rs) h in
    (record_small r both.0, records_small rs both.1)

-- the records of an accepted program are small
pub small : (p : Program) → fl.fault_list p ≡ [] → Small p.records
small p h =
    let group = order_empty (fl.first_group p.records p.iters) (earlier_empty _ _ h) in
    let front = (parts _ (flat_map (fl.iter_faults p.records) p.iters) group).0 in
    records_small p.records (parts _ (flat_map fl.record_faults p.records) front).1

-- at the start of the lines all records and iterators are left
pub at_start : (p q : Program) (rs : List RecordDecl) (t : List ℕ) → q ≡ p → rs ≡ q.records → t ≡ [] → layout_text p ≡ t ++ decls_text rs p.iters
at_start p q rs t same left start = sym (ap₂ (λ (a : List ℕ) (b : List RecordDecl). a ++ decls_text b p.iters) start (left ∙ ap (λ (z : Program). z.records) same))

pub small_at_start : (p q : Program) (rs : List RecordDecl) → q ≡ p → rs ≡ q.records → fl.fault_list p ≡ [] → Small rs
small_at_start p q rs same left h = subst Small (sym (left ∙ ap (λ (z : Program). z.records) same)) (small p h)

-- one iterator more
pub after_iter : (p : Program) (rs : List RecordDecl) (at : ℕ) (text new : List ℕ) (o : Option Iter) → slice_get p.iters at ≡ o
    → layout_text p ≡ text ++ decls_text rs (drop at p.iters) → iter_next rs (drop at p.iters) ≡ true
    → option_map (λ it. text ++ iter_text it) o ≡ Some new → layout_text p ≡ new ++ decls_text rs (drop (at + 1) p.iters)
after_iter p rs at text new None e before next h = absurd (cc h)
after_iter p rs at text new (Some i) e before next h =
    let rest = decls_text rs (drop (at + 1) p.iters) in
    let is_new : text ++ iter_text i ≡ new = cc in
    before ∙ ap (λ (z : List ℕ). text ++ z) (next_iter rs p.iters at i next e) ∙ sym (append_assoc text (iter_text i) rest) ∙ ap (λ (z : List ℕ). z ++ rest) is_new

pub within : {B : Type 0} (f : Iter → B) (is : List Iter) (at : ℕ) (y : B) (o : Option Iter) → slice_get is at ≡ o → option_map f o ≡ Some y → at + 1 ≤ length is
within f is at y None e h = absurd (cc h)
within f is at y (Some i) e h = let inside = slice_get_within is at i e in omega (arith, inside)

-- a list from a place to its end
pub from_on : {A : Type 0} (at : ℕ) (xs : List A) → take (length xs - at) (drop at xs) ≡ drop at xs
from_on at xs = ap (λ n. take n (drop at xs)) (sym (length-drop at xs)) ∙ take-length (drop at xs)
