-- Where the fault list is empty, so is the list of each part.
use Rattle.std.proofs.Common.{◌≡◌, ℕ, zero, suc, ◌+◌, ◌*◌, ◌≤◌, Bool, true, false, not, ◌||◌, cond, List, [], ◌∷◌, ◌++◌, length, Option, Some, None, unwrap_or, refl, sym, ap, ◌∙◌, arith, mul-suc, if◌then◌else◌}
use Rattle.std.specs.Prelude.{nat_lt, slice_get, flat_map, find, fold, is_some, is_none}
use Rattle.iter_syntax.specs.declared.tree.Place.{Place}
use Rattle.iter_syntax.specs.declared.tree.Word.{Word}
use Rattle.iter_syntax.specs.declared.tree.Width.{Width}
use Rattle.iter_syntax.specs.declared.tree.Width.TheVariants.{U8, U16, U32, U64, Ptr}
use Rattle.iter_syntax.specs.declared.tree.FieldDecl.{FieldDecl}
use Rattle.iter_syntax.specs.declared.tree.RecordDecl.{RecordDecl}
use Rattle.iter_syntax.specs.declared.tree.Block.{Block}
use Rattle.iter_syntax.specs.declared.tree.Iter.{Iter}
use Rattle.iter_syntax.specs.declared.tree.Program.{Program}
use Rattle.iter_syntax.specs.Tree.{block}
use Rattle.iter_check.specs.Layout.{elements, width_bytes, field_size, size_of}
use Rattle.iter_check.specs.declared.kind.CheckKind.{CheckKind}
use Rattle.iter_check.specs.declared.kind.CheckKind.TheVariants as k
use Rattle.iter_check.specs.declared.kind.Fault.{Fault}
use Rattle.iter_check.specs.declared.sort.Part.TheVariants as part
use Rattle.iter_check.specs.Faults.{before, put, in_order, fault}
use Rattle.iter_check.specs.Scope.{Scope, Ground}
use Rattle.iter_check.specs.Scoping.{scoping}
use Rattle.iter_check.specs.Paths.{ends, paths, open_end}
use Rattle.iter_check.specs.Indices.{indices}
use Rattle.iter_check.specs.FaultList as fl
use Rattle.iter_check.specs.Accepted.{IsSize, AcceptedBlock, AcceptedIter}

parts : {A : Type 0} (xs ys : List A) → xs ++ ys ≡ [] → (xs ≡ []) × (ys ≡ [])
parts [] ys h = (refl, h)
parts (x ∷ xs) ys h = absurd (cc h)

put_choice : (b : Bool) (f g : Fault) (xs ys fs : List Fault) → (if b then g ∷ xs else f ∷ ys) ≡ [] → f ∷ fs ≡ []
put_choice true f g xs ys fs h = absurd (cc h)
put_choice false f g xs ys fs h = absurd (cc h)

put_empty : (f : Fault) (gs fs : List Fault) → put f gs ≡ [] → f ∷ fs ≡ []
put_empty f [] fs h = absurd (cc h)
put_empty f (g ∷ gs) fs h = put_choice (before g f) f g (put f gs) (g ∷ gs) fs h

order_empty : (fs : List Fault) → in_order fs ≡ [] → fs ≡ []
order_empty [] h = refl
order_empty (f ∷ fs) h = put_empty f (in_order fs) fs h

later_empty : (xs ys : List Fault) → fl.or_later xs ys ≡ [] → (xs ≡ []) × (ys ≡ [])
later_empty [] ys h = (refl, h)
later_empty (x ∷ xs) ys h = absurd (cc h)

fault_false : (kind : CheckKind) (p : Place) (b : Bool) → fault kind p b ≡ [] → b ≡ false
fault_false kind p false h = refl
fault_false kind p true h = absurd (cc h)

-- what holds of each of some things
flat_at : {A : Type 0} (f : A → List Fault) (xs : List A) (i : ℕ) (x : A) → flat_map f xs ≡ [] → slice_get xs i ≡ Some x → f x ≡ []
flat_at f [] i x h e = absurd (cc e)
flat_at f (y ∷ ys) zero x h e =
    let same : y ≡ x = cc e in
    ap f (sym same) ∙ (parts (f y) (flat_map f ys) h).0
flat_at f (y ∷ ys) (suc i) x h e = flat_at f ys i x (parts (f y) (flat_map f ys) h).1 e

found_choice : {A : Type 0} (b : Bool) (f : A → List Fault) (y r : A) (others : Option A) → f y ≡ [] → (others ≡ Some r → f r ≡ []) → cond b (Some y) others ≡ Some r → f r ≡ []
found_choice true f y r others h k e =
    let same : y ≡ r = cc e in
    ap f (sym same) ∙ h
found_choice false f y r others h k e = k e

flat_found : {A : Type 0} (f : A → List Fault) (test : A → Bool) (xs : List A) (r : A) → flat_map f xs ≡ [] → find test xs ≡ Some r → f r ≡ []
flat_found f test [] r h e = absurd (cc e)
flat_found f test (y ∷ ys) r h e =
    let both = parts (f y) (flat_map f ys) h in
    found_choice (test y) f y r (find test ys) both.0 (flat_found f test ys r both.1) e

-- sizes

either_false : (a b : Bool) → (a || b) ≡ false → (a ≡ false) × (b ≡ false)
either_false false b h = (refl, h)
either_false true b h = absurd (cc h)

one_or_more : (w : Width) → 1 ≤ width_bytes w
one_or_more U8 = omega arith
one_or_more U16 = omega arith
one_or_more U32 = omega arith
one_or_more U64 = omega arith
one_or_more Ptr = omega arith

not_empty : (len : Option ℕ) → fl.is_zero len ≡ false → 1 ≤ unwrap_or len 1
not_empty None h = omega arith
not_empty (Some zero) h = absurd (cc h)
not_empty (Some (suc n)) h = omega arith

product : (a b : ℕ) → 1 ≤ a → 1 ≤ b → 1 ≤ a * b
product zero b h k = absurd (omega arith)
product (suc a) zero h k = absurd (omega arith)
product (suc a) (suc b) h k = omega (arith, mul-suc (suc a) b)

head_zero : (b : Bool) (f : FieldDecl) (others : Option FieldDecl) → is_some (cond b (Some f) others) ≡ false → b ≡ false
head_zero false f others h = refl
head_zero true f others h = absurd (cc h)

more_and_more : (fields : List FieldDecl) (n : ℕ) → n ≤ fold (λ a f. a + field_size f) n fields
more_and_more [] n = omega arith
more_and_more (f ∷ fields) n = omega (arith, more_and_more fields (n + field_size f))

size_is : (fields : List FieldDecl) → fl.bad_size fields ≡ false → IsSize (size_of fields)
size_is [] h = absurd (cc h)
size_is (f ∷ fields) h =
    let two = either_false (is_some (find (λ x. fl.is_zero x.len) (f ∷ fields))) (nat_lt 256 (size_of (f ∷ fields))) h in
    let full = head_zero (fl.is_zero f.len) f (find (λ x. fl.is_zero x.len) fields) two.0 in
    let one = product (elements f) (width_bytes f.width) (not_empty f.len full) (one_or_more f.width) in
    (omega (arith, one, more_and_more fields (0 + field_size f)), at_most (size_of (f ∷ fields)) two.1)
  where
    at_most : (n : ℕ) → nat_lt 256 n ≡ false → n ≤ 256
    at_most n e = grind arith

fields_size : (kind : CheckKind) (owner : Word) (fields : List FieldDecl) → fl.fields_faults kind owner fields ≡ [] → IsSize (size_of fields)
fields_size kind owner fields h =
    size_is fields (fault_false kind owner.place (fl.bad_size fields) (parts (fl.twice (λ f. f.name) [] fields) (fault kind owner.place (fl.bad_size fields)) h).1)

-- counts

no_more : {A : Type 0} (kind : CheckKind) (most : ℕ) (name : A → Word) (xs : List A) → fl.one_more kind most name xs ≡ [] → length xs ≤ most
no_more kind most name [] h = omega arith
no_more kind zero name (x ∷ xs) h = absurd (cc h)
no_more kind (suc most) name (x ∷ xs) h = omega (arith, no_more kind most name xs h)

names_count : {A : Type 0} (kind : CheckKind) (most : ℕ) (name : A → Word) (xs : List A) → fl.names_faults kind most name xs ≡ [] → length xs ≤ most
names_count kind most name xs h = no_more kind most name xs (parts (fl.twice name [] xs) (fl.one_more kind most name xs) h).1

capped : (n : ℕ) → nat_lt 2000 n ≡ false → n ≤ 2000
capped n h = grind arith

-- the groups of the list

first_empty : (p : Program) → fl.fault_list p ≡ [] → fl.first_group p.records p.iters ≡ []
first_empty p h =
    order_empty (fl.first_group p.records p.iters)
    (later_empty (in_order (fl.first_group p.records p.iters)) (fl.or_later (fl.code_faults p.iters) (in_order (fl.index_faults p.records p.iters))) h).0

others_empty : (p : Program) → fl.fault_list p ≡ [] → (fl.code_faults p.iters ≡ []) × (in_order (fl.index_faults p.records p.iters) ≡ [])
others_empty p h =
    later_empty (fl.code_faults p.iters) (in_order (fl.index_faults p.records p.iters))
    (later_empty (in_order (fl.first_group p.records p.iters)) (fl.or_later (fl.code_faults p.iters) (in_order (fl.index_faults p.records p.iters))) h).1

abbrev record_list : Program → List Fault
record_list p = fl.names_faults k.Count 64 (λ r. r.name) p.records ++ fl.names_faults k.Count 64 (λ it. it.name) p.iters

records_empty : (p : Program) → fl.fault_list p ≡ [] → flat_map fl.record_faults p.records ≡ []
records_empty p h =
    (parts (record_list p) (flat_map fl.record_faults p.records)
    (parts (record_list p ++ flat_map fl.record_faults p.records) (flat_map (fl.iter_faults p.records) p.iters) (first_empty p h)).0).1

iters_empty : (p : Program) → fl.fault_list p ≡ [] → flat_map (fl.iter_faults p.records) p.iters ≡ []
iters_empty p h = (parts (record_list p ++ flat_map fl.record_faults p.records) (flat_map (fl.iter_faults p.records) p.iters) (first_empty p h)).1

pub most_iters : (p : Program) → fl.fault_list p ≡ [] → length p.iters ≤ 64
most_iters p h =
    names_count k.Count 64 (λ it. it.name) p.iters
    (parts (fl.names_faults k.Count 64 (λ r. r.name) p.records) (fl.names_faults k.Count 64 (λ it. it.name) p.iters)
    (parts (record_list p) (flat_map fl.record_faults p.records)
    (parts (record_list p ++ flat_map fl.record_faults p.records) (flat_map (fl.iter_faults p.records) p.iters) (first_empty p h)).0).0).1

-- the record of an iterator

known_size : (r : Option RecordDecl) → is_none r ≡ false → ((d : RecordDecl) → r ≡ Some d → fl.record_faults d ≡ []) → IsSize (size_of (fl.fields_in r))
known_size None h each = absurd (cc h)
known_size (Some d) h each = fields_size k.RecordSize d.name d.fields (each d refl)

-- what is left of an iterator's list, block by block

abbrev head : Program → Iter → List Fault
head p it = fl.head_faults p.records it

abbrev init_list : Program → Iter → List Fault
init_list p it = fl.ending_faults (fl.ground p.records it part.Init) (fl.with_args it.args []) it.init_part

abbrev end_list : Program → Iter → List Fault
end_list p it = fl.block_faults (fl.ground p.records it part.End) [] it.end_part

abbrev next_list : Program → Iter → List Fault
next_list p it = fl.ending_faults (fl.ground p.records it part.Next) [] it.next_part

block_empty : (g : Ground) (scope : Scope) (b : Block) → fl.block_faults g scope b ≡ [] → indices g [] (block b) ≡ [] → AcceptedBlock g scope b
block_empty g scope b h i =
    let two = parts (scoping g scope (block b)) (paths g.part false (block b)) h in
    record { scoping = two.0; paths = two.1; indices = i }

ends_true : (g : Ground) (scope : Scope) (b : Block) → fl.ending_faults g scope b ≡ [] → ends (block b) ≡ true
ends_true g scope b h = turned (ends (block b)) (fault_false k.Path b.close (not (ends (block b))) (parts (fl.block_faults g scope b) (open_end (block b) b.close) h).1)
  where
    turned : (x : Bool) → not x ≡ false → x ≡ true
    turned true e = refl
    turned false e = absurd (cc e)

pub accepted_iter : (p : Program) (i : ℕ) (it : Iter) → fl.fault_list p ≡ [] → slice_get p.iters i ≡ Some it → AcceptedIter p it
accepted_iter p i it h e =
    let all = flat_at (fl.iter_faults p.records) p.iters i it (iters_empty p h) e in
    let a = parts (head p it ++ init_list p it ++ end_list p it) (next_list p it) all in
    let b = parts (head p it ++ init_list p it) (end_list p it) a.0 in
    let c = parts (head p it) (init_list p it) b.0 in
    let name = fault k.Name (it.on).place (is_none (fl.record_for p.records it)) in
    let d = parts (name ++ fl.fields_faults k.PadSize it.name it.pad) (fl.names_faults k.ArgCount 8 (λ x. x.name) it.args) c.0 in
    let f = parts name (fl.fields_faults k.PadSize it.name it.pad) d.0 in
    let many = either_false (nat_lt 2000 (fl.init_nodes it)) (nat_lt 2000 (fl.body_nodes it))
    (fault_false k.Code (it.name).place (nat_lt 2000 (fl.init_nodes it) || nat_lt 2000 (fl.body_nodes it)) (flat_at fl.code_fault p.iters i it (others_empty p h).0 e)) in
    let gi = fl.ground p.records it part.Init in
    let ge = fl.ground p.records it part.End in
    let gn = fl.ground p.records it part.Next in
    let index = flat_at (fl.iter_indices p.records) p.iters i it (order_empty (fl.index_faults p.records p.iters) (others_empty p h).1) e in
    let x = parts (indices gi [] (block it.init_part) ++ indices ge [] (block it.end_part)) (indices gn [] (block it.next_part)) index in
    let y = parts (indices gi [] (block it.init_part)) (indices ge [] (block it.end_part)) x.0 in
    record {
      record_size = known_size (fl.record_for p.records it) (fault_false k.Name (it.on).place (is_none (fl.record_for p.records it)) f.0) (λ r q. flat_found fl.record_faults _ p.records r (records_empty p h) q);
      pad_size = fields_size k.PadSize it.name it.pad f.1;
      args = names_count k.ArgCount 8 (λ x. x.name) it.args d.1;
      args_differ = (parts (fl.twice (λ x. x.name) [] it.args) (fl.one_more k.ArgCount 8 (λ x. x.name) it.args) d.1).0;
      init_nodes = capped (fl.init_nodes it) many.0;
      body_nodes = capped (fl.body_nodes it) many.1;
      init_part = block_empty gi (fl.with_args it.args []) it.init_part (parts (fl.block_faults gi (fl.with_args it.args []) it.init_part) (open_end (block it.init_part) (it.init_part).close) c.1).0 y.0;
      init_ends = ends_true gi (fl.with_args it.args []) it.init_part c.1;
      end_part = block_empty ge [] it.end_part b.1 y.1;
      next_part = block_empty gn [] it.next_part (parts (fl.block_faults gn [] it.next_part) (open_end (block it.next_part) (it.next_part).close) a.1).0 x.1;
      next_ends = ends_true gn [] it.next_part a.1;
    }
