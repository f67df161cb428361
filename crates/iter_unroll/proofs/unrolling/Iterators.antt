-- An accepted iterator and the straight code of its three parts.
use Rattle.std.proofs.Common.{◌≡◌, ℕ, ◌≤◌, List, [], ◌∷◌, ◌++◌, length, slice_get, Option, Some, None, option_map, IfSome, sym, ap, ap₂, subst, ◌∙◌, arith}
use Rattle.iter_syntax.specs.declared.tree.FieldDecl.{FieldDecl}
use Rattle.iter_syntax.specs.declared.tree.RecordDecl.{RecordDecl}
use Rattle.iter_syntax.specs.declared.tree.Iter.{Iter}
use Rattle.iter_syntax.specs.declared.tree.Program.{Program}
use Rattle.iter_syntax.specs.Tree.{Sts, block}
use Rattle.iter_check.specs.Layout.{size_of}
use Rattle.iter_check.specs.FaultList.{record_fields}
use Rattle.iter_check.specs.Accepted.{AcceptedIter}
use Rattle.iter_unroll.specs.declared.tree.Flat.{Flat}
use Rattle.iter_unroll.specs.Flat.{Fx, Fs, flat_iteration, flat_begin}
use Rattle.iter_unroll.specs.Flat as f
use Rattle.iter_unroll.specs.Tree.{fsts}
use Rattle.iter_unroll.specs.Limits.{Reach, init_reach, body_reach, InReach, Keeps}
use Rattle.iter_unroll.specs.Uses.{Use, fx_uses, fs_uses, flat_uses, iter_uses}
use Rattle.iter_unroll.specs.Span.{HoldsAll}
use Rattle.iter_unroll.specs.Unrolled.{HasSizes, SmallSizes, Iterates, Begins, KeepsAll, FewNodes}
use Rattle.iter_unroll.specs.unrolling.Scope.{Env, Shape}
use Rattle.iter_unroll.specs.unrolling.Flattened.{flat_of}
use Rattle.iter_unroll.specs.unrolling.Whole.{arguments, shape, IsThere}
use Rattle.iter_unroll.proofs.meaning.Whole.{iteration_is, begin_is}
use Rattle.iter_unroll.proofs.counts.Statements.{Counted, counted}
use Rattle.iter_unroll.proofs.accepted.Options.{Is}
use Rattle.iter_unroll.proofs.accepted.Programs.{init_room, body_room, init_kept, end_kept, next_kept}

-- what is known of the iterator of a number
pub record Known (p : Program) (i : ℕ) (it : Iter) (fields : List FieldDecl) : Type 0 where
  pub right : AcceptedIter p it
  pub same : (x : Iter) → slice_get p.iters i ≡ Some x → x ≡ it
  pub fields_are : fields ≡ record_fields p.records it

some_is : {A : Type 0} {x y : A} → Some x ≡ Some y → x ≡ y
some_is e = cc

pub known : (p : Program) (i : ℕ) (it : Iter) (records : List RecordDecl) (fields : List FieldDecl) → AcceptedIter p it → slice_get p.iters i ≡ Some it → records ≡ p.records → fields ≡ record_fields records it → Known p i it fields
known p i it records fields a h r g = record { right = a; same = λ x k. some_is (sym k ∙ h); fields_are = g ∙ ap (λ l. record_fields l it) r }

-- what is read of the iterator of a number
pub read_is : (f : Iter → ℕ) (o : Option Iter) (it : Iter) (n : ℕ) → o ≡ Some it → option_map f o ≡ Some n → n ≡ f it
read_is f o it n e h = sym (some_is (ap (option_map f) (sym e) ∙ h))

there : (P : Fs → Type 0) (o : Option Fs) → Is o P → IsThere o
there P None h = h
there P (Some b) h = tt

pub init_there : (p : Program) (i : ℕ) (it : Iter) (fields : List FieldDecl) → Known p i it fields → IsThere (flat_of (shape [] it) 0 (arguments 0 it.args []) (block it.init_part))
init_there p i it fields k = there _ _ (init_kept p it k.right)

pub end_there : (p : Program) (i : ℕ) (it : Iter) (fields pads : List FieldDecl) → pads ≡ it.pad → Known p i it fields → IsThere (flat_of (record { record_fields = fields; pad_fields = pads }) 0 [] (block it.end_part))
end_there p i it fields pads e k =
    subst (λ l. IsThere (flat_of (record { record_fields = fields; pad_fields = l }) 0 [] (block it.end_part))) (sym e)
    (subst (λ l. IsThere (flat_of (shape l it) 0 [] (block it.end_part))) (sym k.fields_are) (there _ _ (end_kept p it k.right)))

pub next_there : (p : Program) (i : ℕ) (it : Iter) (fields pads : List FieldDecl) → pads ≡ it.pad → Known p i it fields → IsThere (flat_of (record { record_fields = fields; pad_fields = pads }) 0 [] (block it.next_part))
next_there p i it fields pads e k =
    subst (λ l. IsThere (flat_of (record { record_fields = fields; pad_fields = l }) 0 [] (block it.next_part))) (sym e)
    (subst (λ l. IsThere (flat_of (shape l it) 0 [] (block it.next_part))) (sym k.fields_are) (there _ _ (next_kept p it k.right)))

pub fields_small : (p : Program) (i : ℕ) (it : Iter) (fields : List FieldDecl) → Known p i it fields → size_of fields ≤ 256
fields_small p i it fields k = let s = k.right.record_size.1 in subst (λ l. size_of l ≤ 256) (sym k.fields_are) s

pub fields_some : (p : Program) (i : ℕ) (it : Iter) (fields : List FieldDecl) → Known p i it fields → 1 ≤ size_of fields
fields_some p i it fields k = let s = k.right.record_size.0 in subst (λ l. 1 ≤ size_of l) (sym k.fields_are) s

-- the straight code that was made
pub record Made (fields : List FieldDecl) (it : Iter) (flat : Flat) : Type 0 where
  pub init_is : flat_of (shape [] it) 0 (arguments 0 it.args []) (block it.init_part) ≡ Some (fsts flat.init_part)
  pub end_is : flat_of (shape fields it) 0 [] (block it.end_part) ≡ Some (fsts flat.end_part)
  pub next_is : flat_of (shape fields it) 0 [] (block it.next_part) ≡ Some (fsts flat.next_part)
  pub record_is : flat.record_size ≡ size_of fields
  pub pad_is : flat.pad_size ≡ size_of it.pad
  pub args_are : flat.args ≡ length it.args

pub has_sizes : (fields : List FieldDecl) (it : Iter) (flat : Flat) → Made fields it flat → HasSizes fields it flat
has_sizes fields it flat m = (m.record_is, m.pad_is, m.args_are)

pub iterates : (fields : List FieldDecl) (it : Iter) (flat : Flat) → Made fields it flat → Iterates fields it flat
iterates fields it flat m bytes cur pad writable =
    iteration_is fields it (fsts flat.end_part) (fsts flat.next_part) (record { args = []; cur = cur; writable = writable }) bytes pad m.end_is m.next_is

pub begins : (fields : List FieldDecl) (it : Iter) (flat : Flat) → Made fields it flat → Begins fields it flat
begins fields it flat m values e =
    ap (flat_begin (fsts flat.init_part) values) m.pad_is ∙ begin_is it (fsts flat.init_part) values (e ∙ m.args_are) m.init_is

-- what holds of the code that is there
of_made : (P : Fs → Type 0) (o : Option Fs) (b : Fs) → o ≡ Some b → Is o P → P b
of_made P o b e h = subst (λ x. Is x P) e h

of_some : (P : Fs → Type 0) (o : Option Fs) (b : Fs) → o ≡ Some b → IfSome o P → P b
of_some P o b e h = subst (λ x. IfSome x P) e h

init_room_is : (it : Iter) (flat : Flat) → flat.pad_size ≡ size_of it.pad → flat.args ≡ length it.args → init_room it ≡ init_reach flat
init_room_is it flat p a = ap₂ (λ n s. record { args = n; record_size = 0; pad_size = s }) (sym a) (sym p)

body_room_is : (fields : List FieldDecl) (it : Iter) (flat : Flat) → flat.record_size ≡ size_of fields → flat.pad_size ≡ size_of it.pad → body_room fields it ≡ body_reach flat
body_room_is fields it flat r p = ap₂ (λ n s. record { args = 0; record_size = n; pad_size = s }) (sym r) (sym p)

pub keeps_all : (p : Program) (i : ℕ) (it : Iter) (fields : List FieldDecl) (flat : Flat) → Known p i it fields → Made fields it flat → KeepsAll flat
keeps_all p i it fields flat k m =
    let a = subst (λ r. Is (flat_of (shape [] it) 0 (arguments 0 it.args []) (block it.init_part)) (Keeps r)) (init_room_is it flat m.pad_is m.args_are) (init_kept p it k.right) in
    let e = subst (λ l. Is (flat_of (shape l it) 0 [] (block it.end_part)) (Keeps (body_room l it))) (sym k.fields_are) (end_kept p it k.right) in
    let n = subst (λ l. Is (flat_of (shape l it) 0 [] (block it.next_part)) (Keeps (body_room l it))) (sym k.fields_are) (next_kept p it k.right) in
    let room = body_room_is fields it flat m.record_is m.pad_is in (
      of_made (Keeps (init_reach flat)) _ (fsts flat.init_part) m.init_is a,
      of_made (Keeps (body_reach flat)) _ (fsts flat.end_part) m.end_is (subst (λ r. Is (flat_of (shape fields it) 0 [] (block it.end_part)) (Keeps r)) room e),
      of_made (Keeps (body_reach flat)) _ (fsts flat.next_part) m.next_is (subst (λ r. Is (flat_of (shape fields it) 0 [] (block it.next_part)) (Keeps r)) room n),
    )

counted_in : (sh : Shape) (env : Env) (ss : Sts) (b : Fs) → flat_of sh 0 env ss ≡ Some b → Counted sh env ss b
counted_in sh env ss b e = of_some (Counted sh env ss) (flat_of sh 0 env ss) b e (counted sh 0 env ss)

pub few_nodes : (p : Program) (i : ℕ) (it : Iter) (fields : List FieldDecl) (flat : Flat) → Known p i it fields → Made fields it flat → FewNodes flat
few_nodes p i it fields flat k m =
    let a = (counted_in (shape [] it) (arguments 0 it.args []) (block it.init_part) (fsts flat.init_part) m.init_is).few in
    let e = (counted_in (shape fields it) [] (block it.end_part) (fsts flat.end_part) m.end_is).few in
    let n = (counted_in (shape fields it) [] (block it.next_part) (fsts flat.next_part) m.next_is).few in
    let init = k.right.init_nodes in
    let body = k.right.body_nodes in
    (omega (arith, a, init), omega (arith, e, n, body))

pub uses_are : (fields : List FieldDecl) (it : Iter) (flat : Flat) → Made fields it flat → flat_uses flat ≡ iter_uses fields it
uses_are fields it flat m =
    ap₂ (λ x y. x ++ y)
    (counted_in (shape fields it) [] (block it.end_part) (fsts flat.end_part) m.end_is).uses
    (counted_in (shape fields it) [] (block it.next_part) (fsts flat.next_part) m.next_is).uses

-- what keeps to the record is held by it
held_append : (j : ℕ × ℕ) (xs ys : List Use) → HoldsAll j xs → HoldsAll j ys → HoldsAll j (xs ++ ys)
held_append j [] ys h q = q
held_append j (x ∷ xs) ys h q = (h.0, held_append j xs ys h.1 q)

held_ex : (r : Reach) (e : Fx) → InReach r e → HoldsAll (0, r.record_size) (fx_uses e)
held_ex r (f.num n) h = tt
held_ex r f.null h = tt
held_ex r (f.arg k) h = tt
held_ex r (f.slot k) h = tt
held_ex r f.cur h = tt
held_ex r (f.cur_field o w) h = ((omega arith, omega (arith, h)), tt)
held_ex r (f.pad_field o w) h = tt
held_ex r (f.not e) h = held_ex r e h
held_ex r (f.flip e) h = held_ex r e h
held_ex r (f.bin o a b) h = held_append (0, r.record_size) (fx_uses a) (fx_uses b) (held_ex r a h.0) (held_ex r b h.1)
held_ex r (f.at a b) h = held_append (0, r.record_size) (fx_uses a) (fx_uses b) (held_ex r a h.0) (held_ex r b h.1)

held_fs : (r : Reach) (b : Fs) → Keeps r b → HoldsAll (0, r.record_size) (fs_uses b)
held_fs r f.end h = tt
held_fs r (f.put_slot k e rest) h = held_append (0, r.record_size) (fx_uses e) (fs_uses rest) (held_ex r e h.1.0) (held_fs r rest h.2)
held_fs r (f.put_pad o w e rest) h = held_append (0, r.record_size) (fx_uses e) (fs_uses rest) (held_ex r e h.1.0) (held_fs r rest h.2)
held_fs r (f.put_cur o w e rest) h =
    let inside = h.0 in
    ((omega arith, omega (arith, inside)), held_append (0, r.record_size) (fx_uses e) (fs_uses rest) (held_ex r e h.1.0) (held_fs r rest h.2))
held_fs r (f.choose e x y rest) h =
    held_append (0, r.record_size) (fx_uses e) (fs_uses x ++ (fs_uses y ++ fs_uses rest)) (held_ex r e h.0.0)
    (held_append (0, r.record_size) (fs_uses x) (fs_uses y ++ fs_uses rest) (held_fs r x h.1)
    (held_append (0, r.record_size) (fs_uses y) (fs_uses rest) (held_fs r y h.2) (held_fs r rest h.3)))
held_fs r (f.done rest) h = held_fs r rest h
held_fs r (f.go e rest) h = held_append (0, r.record_size) (fx_uses e) (fs_uses rest) (held_ex r e h.0.0) (held_fs r rest h.1)

pub all_held : (flat : Flat) → KeepsAll flat → HoldsAll (0, flat.record_size) (flat_uses flat)
all_held flat k =
    held_append (0, flat.record_size) (fs_uses (fsts flat.end_part)) (fs_uses (fsts flat.next_part))
    (held_fs (body_reach flat) (fsts flat.end_part) k.1) (held_fs (body_reach flat) (fsts flat.next_part) k.2)

pub small_sizes : (p : Program) (i : ℕ) (it : Iter) (fields : List FieldDecl) (flat : Flat) → Known p i it fields → Made fields it flat → SmallSizes flat
small_sizes p i it fields flat k m =
    let a = fields_some p i it fields k in
    let b = fields_small p i it fields k in
    let c = k.right.pad_size.0 in
    let d = k.right.pad_size.1 in
    let e = k.right.args in
    let r = m.record_is in
    let q = m.pad_is in
    let n = m.args_are in
    (omega (arith, a, r), omega (arith, b, r), omega (arith, c, q), omega (arith, d, q), omega (arith, e, n))

-- the same of the iterator that a clause names
pub of_iter : (p : Program) (i : ℕ) (it x : Iter) (fields : List FieldDecl) (Q : List FieldDecl → Iter → Type 0) → Known p i it fields → slice_get p.iters i ≡ Some x → Q fields it → Q (record_fields p.records x) x
of_iter p i it x fields Q k h q =
    subst (λ y. Q (record_fields p.records y) y) (sym (k.same x h)) (subst (λ l. Q l it) k.fields_are q)

pub pads_small : (p : Program) (i : ℕ) (it : Iter) (fields pads : List FieldDecl) → pads ≡ it.pad → Known p i it fields → size_of pads ≤ 256
pads_small p i it fields pads e k = let s = k.right.pad_size.1 in subst (λ l. size_of l ≤ 256) (sym e) s

pub made : (p : Program) (i : ℕ) (it : Iter) (fields pads : List FieldDecl) (flat : Flat) → pads ≡ it.pad
    → flat_of (shape [] it) 0 (arguments 0 it.args []) (block it.init_part) ≡ Some (fsts flat.init_part)
    → flat_of (record { record_fields = fields; pad_fields = pads }) 0 [] (block it.end_part) ≡ Some (fsts flat.end_part)
    → flat_of (record { record_fields = fields; pad_fields = pads }) 0 [] (block it.next_part) ≡ Some (fsts flat.next_part)
    → flat.record_size ≡ size_of fields → flat.pad_size ≡ size_of it.pad → flat.args ≡ length it.args → Made fields it flat
made p i it fields pads flat e hi he hn hr hp ha =
    record {
      init_is = hi;
      end_is = ap (λ l. flat_of (record { record_fields = fields; pad_fields = l }) 0 [] (block it.end_part)) (sym e) ∙ he;
      next_is = ap (λ l. flat_of (record { record_fields = fields; pad_fields = l }) 0 [] (block it.next_part)) (sym e) ∙ hn;
      record_is = hr;
      pad_is = hp;
      args_are = ha;
    }
