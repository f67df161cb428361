-- An expression without a fault has straight code, which keeps to what is there and is no deeper.
use Rattle.std.proofs.Common.{◌≡◌, ℕ, ◌+◌, ◌≤◌, false, nat_lt, List, [], ◌++◌, Option, Some, None, refl, sym, subst, arith, le_refl}
use Rattle.std.specs.Prelude.{max, is_none}
use Rattle.iter_syntax.specs.declared.tree.Place.{Place}
use Rattle.iter_syntax.specs.declared.tree.Word.{Word}
use Rattle.iter_syntax.specs.declared.tree.FieldDecl.{FieldDecl}
use Rattle.iter_syntax.specs.Tree.{Ex}
use Rattle.iter_syntax.specs.Tree as t
use Rattle.iter_check.specs.Layout.{text, size_of}
use Rattle.iter_check.specs.declared.sort.Sort.TheVariants as s
use Rattle.iter_check.specs.declared.kind.CheckKind.TheVariants as k
use Rattle.iter_check.specs.declared.kind.Fault.{Fault}
use Rattle.iter_check.specs.declared.scope.Binding.{Binding}
use Rattle.iter_check.specs.declared.loops.Loop.{Loop}
use Rattle.iter_check.specs.Faults.{fault}
use Rattle.iter_check.specs.Scope.{Scope, Ground, bound, declared_field}
use Rattle.iter_check.specs.Typing.{in_init, is_not, sort_of}
use Rattle.iter_check.specs.Expressions.{place_of, too_deep, plain_faults, item_faults, expr_faults}
use Rattle.iter_check.specs.Expressions as x
use Rattle.iter_check.specs.Scoping.{whole}
use Rattle.iter_check.specs.Indices.{in_some_turn, out_of, array_len, index_fault, expr_indices}
use Rattle.iter_unroll.specs.declared.scope.Meant.{Meant}
use Rattle.iter_unroll.specs.declared.scope.Meant.TheVariants as m
use Rattle.iter_unroll.specs.Flat.{Fx}
use Rattle.iter_unroll.specs.Flat as f
use Rattle.iter_unroll.specs.Limits.{Reach, InReach, depth, Whole}
use Rattle.iter_unroll.specs.Uses.{element_of}
use Rattle.iter_unroll.specs.unrolling.Scope.{Env, lookup, Shape, index}
use Rattle.iter_unroll.specs.unrolling.Flattened.{named, flat_ex}
use Rattle.iter_unroll.proofs.accepted.Options.{Is, never, is_map, is_two}
use Rattle.iter_unroll.proofs.accepted.Faults.{first_nil, last_nil, right}
use Rattle.iter_unroll.proofs.accepted.Scopes.{Agrees, Knows}
use Rattle.iter_unroll.proofs.accepted.Indices.{index_there}
use Rattle.iter_unroll.proofs.accepted.Fields.{Inside, plain_there, item_there}

-- the fields of the code are those of the text; in init none of the record is there
pub record Stands (g : Ground) (sh : Shape) (r : Reach) : Type 0 where
  pub pad_is : sh.pad_fields ≡ g.pad_fields
  pub pad_size : size_of sh.pad_fields ≡ r.pad_size
  pub record_is : in_init g.part ≡ false → sh.record_fields ≡ g.record_fields
  pub record_size : in_init g.part ≡ false → size_of sh.record_fields ≡ r.record_size
  pub some_record : in_init g.part ≡ false → 1 ≤ r.record_size

-- the straight code of an expression of a depth
abbrev pub Kept : Reach → ℕ → Fx → Type 0
Kept r n x = InReach r x × (depth x ≤ n)

named_kept : (r : Reach) (o : Option Binding) (p : Option Meant) → is_none o ≡ false → Agrees r o p → Is p (λ x. Kept r 1 (named x))
named_kept r None None e a = cc
named_kept r None (Some x) e a = never a
named_kept r (Some b) None e a = never a
named_kept r (Some b) (Some (m.Slot k)) e a = (a.1, le_refl 1)
named_kept r (Some b) (Some (m.Number i)) e a = (tt, le_refl 1)
named_kept r (Some b) (Some (m.Argument k)) e a = (a.1, le_refl 1)

-- a field's place, where the fields are those of the text
moved : (fs gs : List FieldDecl) (w : Word) (v : Option ℕ) (n : ℕ) → fs ≡ gs → size_of fs ≡ n → Is (element_of gs w v) (Inside (size_of gs)) → Is (element_of fs w v) (Inside n)
moved fs gs w v n e q h =
    subst (λ z. Is (element_of fs w v) (Inside z)) q (subst (λ l. Is (element_of l w v) (Inside (size_of l))) (sym e) h)

-- the parts of an empty list of faults of an element's use
pub record ItemRight (g : Ground) (scope : Scope) (loops : List Loop) (fields : List FieldDecl) (w : Word) (i : Ex) : Type 0 where
  pub known : item_faults (declared_field fields w) w ≡ []
  pub parts : expr_faults g scope i ≡ []
  pub int : is_not s.Int (sort_of g scope i) ≡ false
  pub below : in_some_turn loops [] (out_of loops i (array_len (declared_field fields w))) ≡ false

pub item_right : (g : Ground) (scope : Scope) (loops : List Loop) (fields : List FieldDecl) (w : Word) (i : Ex) → item_faults (declared_field fields w) w ++ too_deep i ++ expr_faults g scope i ++ fault k.Typing (place_of i) (is_not s.Int (sort_of g scope i)) ≡ [] → index_fault fields loops w i ≡ [] → ItemRight g scope loops fields w i
item_right g scope loops fields w i e h =
    let known = item_faults (declared_field fields w) w in
    let abc = first_nil (known ++ too_deep i ++ expr_faults g scope i) (fault k.Typing (place_of i) (is_not s.Int (sort_of g scope i))) e in
    let ab = first_nil (known ++ too_deep i) (expr_faults g scope i) abc in
    record {
      known = first_nil known (too_deep i) ab;
      parts = last_nil (known ++ too_deep i) (expr_faults g scope i) abc;
      int = right k.Typing (place_of i) _ (last_nil (known ++ too_deep i ++ expr_faults g scope i) _ e);
      below = right k.Index w.place _ h;
    }

pub item_kept : (g : Ground) (r : Reach) (scope : Scope) (loops : List Loop) (turn : List ℕ) (n : ℕ) (env : Env) (fields : List FieldDecl) (w : Word) (i : Ex) → Knows r scope loops turn n env → ItemRight g scope loops fields w i → Is (element_of fields w (index env i)) (Inside (size_of fields))
item_kept g r scope loops turn n env fields w i know h =
    item_there fields w (index env i) h.known (index_there g r scope loops turn n env know i (array_len (declared_field fields w)) h.parts h.int h.below)

-- the places of pad and record fields
pub pad_plain : (g : Ground) (sh : Shape) (r : Reach) (w : Word) → Stands g sh r → plain_faults (declared_field g.pad_fields w) w ≡ [] → Is (element_of sh.pad_fields w (Some 0)) (Inside r.pad_size)
pad_plain g sh r w st e = moved sh.pad_fields g.pad_fields w (Some 0) r.pad_size st.pad_is st.pad_size (plain_there g.pad_fields w e)

pub cur_plain : (g : Ground) (sh : Shape) (r : Reach) (w : Word) → Stands g sh r → in_init g.part ≡ false → plain_faults (declared_field g.record_fields w) w ≡ [] → Is (element_of sh.record_fields w (Some 0)) (Inside r.record_size)
cur_plain g sh r w st b e = moved sh.record_fields g.record_fields w (Some 0) r.record_size (st.record_is b) (st.record_size b) (plain_there g.record_fields w e)

pub pad_item : (g : Ground) (sh : Shape) (r : Reach) (scope : Scope) (loops : List Loop) (turn : List ℕ) (n : ℕ) (env : Env) (w : Word) (i : Ex) → Stands g sh r → Knows r scope loops turn n env → ItemRight g scope loops g.pad_fields w i → Is (element_of sh.pad_fields w (index env i)) (Inside r.pad_size)
pad_item g sh r scope loops turn n env w i st know h =
    moved sh.pad_fields g.pad_fields w (index env i) r.pad_size st.pad_is st.pad_size (item_kept g r scope loops turn n env g.pad_fields w i know h)

pub cur_item : (g : Ground) (sh : Shape) (r : Reach) (scope : Scope) (loops : List Loop) (turn : List ℕ) (n : ℕ) (env : Env) (w : Word) (i : Ex) → Stands g sh r → Knows r scope loops turn n env → in_init g.part ≡ false → ItemRight g scope loops g.record_fields w i → Is (element_of sh.record_fields w (index env i)) (Inside r.record_size)
cur_item g sh r scope loops turn n env w i st know b h =
    moved sh.record_fields g.record_fields w (index env i) r.record_size (st.record_is b) (st.record_size b) (item_kept g r scope loops turn n env g.record_fields w i know h)

-- the parts of an empty list of faults of a use of `cur`
pub record CurRight (g : Ground) (fs : List Fault) : Type 0 where
  pub body : in_init g.part ≡ false
  pub others : fs ≡ []

pub cur_plain_right : (g : Ground) (p : Place) (w : Word) → fault k.Name p (in_init g.part) ++ plain_faults (declared_field g.record_fields w) w ≡ [] → CurRight g (plain_faults (declared_field g.record_fields w) w)
cur_plain_right g p w e = record { body = right k.Name p _ (first_nil (fault k.Name p (in_init g.part)) _ e); others = last_nil (fault k.Name p (in_init g.part)) _ e }

pub cur_item_right : (g : Ground) (scope : Scope) (p : Place) (w : Word) (i : Ex) → expr_faults g scope (t.cur_item p w i) ≡ [] → CurRight g (item_faults (declared_field g.record_fields w) w ++ too_deep i ++ expr_faults g scope i ++ fault k.Typing (place_of i) (is_not s.Int (sort_of g scope i)))
cur_item_right g scope p w i e =
    let a = fault k.Name p (in_init g.part) in
    let b = item_faults (declared_field g.record_fields w) w in
    let c = too_deep i in
    let d = expr_faults g scope i in
    let h = fault k.Typing (place_of i) (is_not s.Int (sort_of g scope i)) in
    let abcd = first_nil (a ++ b ++ c ++ d) h e in
    let abc = first_nil (a ++ b ++ c) d abcd in
    let ab = first_nil (a ++ b) c abc in
    record { body = right k.Name p _ (first_nil a b ab); others = all_nil b c d h (last_nil a b ab) (last_nil (a ++ b) c abc) (last_nil (a ++ b ++ c) d abcd) (last_nil (a ++ b ++ c ++ d) h e) }
  where
    all_nil : (b c d h : List Fault) → b ≡ [] → c ≡ [] → d ≡ [] → h ≡ [] → b ++ c ++ d ++ h ≡ []
    all_nil b c d h hb hc hd hh = rw (hb, hc, hd, hh) refl

max_le : (a b x y : ℕ) → a ≤ x → b ≤ y → 1 + max a b ≤ 1 + max x y
max_le a b x y h q = omega (arith, h, q)

pub kept_ex : (g : Ground) (sh : Shape) (r : Reach) (scope : Scope) (loops : List Loop) (turn : List ℕ) (n : ℕ) (env : Env) → Stands g sh r → Knows r scope loops turn n env → (e : Ex) → expr_faults g scope e ≡ [] → expr_indices g loops e ≡ [] → Is (flat_ex sh env e) (Kept r (x.depth e))
kept_ex g sh r scope loops turn n env st know (t.num p c) a b = (tt, le_refl 1)
kept_ex g sh r scope loops turn n env st know (t.null p) a b = (tt, le_refl 1)
kept_ex g sh r scope loops turn n env st know (t.name w) a b =
    is_map named (lookup (text w) env) (λ y. Kept r 1 (named y)) (Kept r 1) (named_kept r (bound scope w) (lookup (text w) env) (right k.Name w.place _ a) (know.names w)) (λ y h. h)
kept_ex g sh r scope loops turn n env st know (t.cur p) a b = (st.some_record (right k.Name p _ a), le_refl 1)
kept_ex g sh r scope loops turn n env st know (t.cur_field p w) a b =
    let c = cur_plain_right g p w a in
    is_map _ (element_of sh.record_fields w (Some 0)) (Inside r.record_size) (Kept r 1) (cur_plain g sh r w st c.body c.others) (λ u h. (h, le_refl 1))
kept_ex g sh r scope loops turn n env st know (t.cur_item p w i) a b =
    let c = cur_item_right g scope p w i a in
    is_map _ (element_of sh.record_fields w (index env i)) (Inside r.record_size) (Kept r 1)
    (cur_item g sh r scope loops turn n env w i st know c.body (item_right g scope loops g.record_fields w i c.others (first_nil (index_fault g.record_fields loops w i) _ b))) (λ u h. (h, le_refl 1))
kept_ex g sh r scope loops turn n env st know (t.pad_field p w) a b =
    is_map _ (element_of sh.pad_fields w (Some 0)) (Inside r.pad_size) (Kept r 1) (pad_plain g sh r w st a) (λ u h. (h, le_refl 1))
kept_ex g sh r scope loops turn n env st know (t.pad_item p w i) a b =
    is_map _ (element_of sh.pad_fields w (index env i)) (Inside r.pad_size) (Kept r 1)
    (pad_item g sh r scope loops turn n env w i st know (item_right g scope loops g.pad_fields w i a (first_nil (index_fault g.pad_fields loops w i) _ b))) (λ u h. (h, le_refl 1))
kept_ex g sh r scope loops turn n env st know (t.not p e) a b =
    is_map f.not (flat_ex sh env e) (Kept r (x.depth e)) (Kept r (1 + x.depth e)) (kept_ex g sh r scope loops turn n env st know e (first_nil (expr_faults g scope e) _ a) b) (λ y h. (h.0, omega (arith, h.1)))
kept_ex g sh r scope loops turn n env st know (t.flip p e) a b =
    is_map f.flip (flat_ex sh env e) (Kept r (x.depth e)) (Kept r (1 + x.depth e)) (kept_ex g sh r scope loops turn n env st know e (first_nil (expr_faults g scope e) _ a) b) (λ y h. (h.0, omega (arith, h.1)))
kept_ex g sh r scope loops turn n env st know (t.bin p o c d) a b =
    let cd = first_nil (expr_faults g scope c ++ expr_faults g scope d) _ a in
    is_two (f.bin o) (flat_ex sh env c) (flat_ex sh env d) (Kept r (x.depth c)) (Kept r (x.depth d)) (Kept r (1 + max (x.depth c) (x.depth d)))
    (kept_ex g sh r scope loops turn n env st know c (first_nil (expr_faults g scope c) _ cd) (first_nil (expr_indices g loops c) _ b))
    (kept_ex g sh r scope loops turn n env st know d (last_nil (expr_faults g scope c) _ cd) (last_nil (expr_indices g loops c) _ b))
    (λ y z h q. ((h.0, q.0), max_le (depth y) (depth z) (x.depth c) (x.depth d) h.1 q.1))
kept_ex g sh r scope loops turn n env st know (t.at p c d) a b =
    let cd = first_nil (expr_faults g scope c ++ expr_faults g scope d) _ a in
    is_two f.at (flat_ex sh env c) (flat_ex sh env d) (Kept r (x.depth c)) (Kept r (x.depth d)) (Kept r (1 + max (x.depth c) (x.depth d)))
    (kept_ex g sh r scope loops turn n env st know c (first_nil (expr_faults g scope c) _ cd) (first_nil (expr_indices g loops c) _ b))
    (kept_ex g sh r scope loops turn n env st know d (last_nil (expr_faults g scope c) _ cd) (last_nil (expr_indices g loops c) _ b))
    (λ y z h q. ((h.0, q.0), max_le (depth y) (depth z) (x.depth c) (x.depth d) h.1 q.1))

shallow : (n : ℕ) → nat_lt 7 n ≡ false → n ≤ 7
shallow n e = grind arith

-- a whole expression of a statement
pub kept_whole : (g : Ground) (sh : Shape) (r : Reach) (scope : Scope) (loops : List Loop) (turn : List ℕ) (n : ℕ) (env : Env) → Stands g sh r → Knows r scope loops turn n env → (e : Ex) → whole g scope e ≡ [] → expr_indices g loops e ≡ [] → Is (flat_ex sh env e) (Whole r)
kept_whole g sh r scope loops turn n env st know e a b =
    let low : x.depth e ≤ 7 = shallow (x.depth e) (right k.Depth (place_of e) _ (first_nil (too_deep e) _ a)) in
    weaker (flat_ex sh env e) (kept_ex g sh r scope loops turn n env st know e (last_nil (too_deep e) _ a) b) low
  where
    weaker : (o : Option Fx) → Is o (Kept r (x.depth e)) → x.depth e ≤ 7 → Is o (Whole r)
    weaker None h low = never h
    weaker (Some y) h low = (h.0, omega (arith, h.1, low))
