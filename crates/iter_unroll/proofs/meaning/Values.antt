-- Expressions and indexes.
use Rattle.std.proofs.Common.{◌≡◌, ℕ, ◌-◌, ◌^◌, Bool, true, false, List, Option, Some, None, IfSome, nat_eq, nat_lt, if◌then◌else◌, refl, sym, ap, ap₂, ◌∙◌}
use Rattle.iter_syntax.specs.declared.tree.Width.{Width}
use Rattle.iter_syntax.specs.declared.tree.Word.{Word}
use Rattle.iter_syntax.specs.declared.tree.FieldDecl.{FieldDecl}
use Rattle.iter_syntax.specs.declared.tree.BinaryOp.TheVariants as op
use Rattle.iter_syntax.specs.Tree.{Ex}
use Rattle.iter_syntax.specs.Tree as t
use Rattle.iter_check.specs.Layout.{Slot, text, find_field}
use Rattle.iter_check.specs.FieldValue.{item_at, read_at, write_at, read_item, write_item}
use Rattle.iter_check.specs.State.{Names, look}
use Rattle.iter_check.specs.Value.{Value, Number, Truth, word, one, both, apply, binary, value_of}
use Rattle.iter_unroll.specs.Flat.{Fx, Fixed, Slots, flat_value}
use Rattle.iter_unroll.specs.Flat as f
use Rattle.iter_unroll.specs.declared.scope.Meant.{Meant}
use Rattle.iter_unroll.specs.declared.scope.Meant.TheVariants as m
use Rattle.iter_unroll.specs.unrolling.Scope.{Env, lookup, Shape, turn_number, constant, index}
use Rattle.iter_unroll.specs.Uses.{element, element_of}
use Rattle.iter_unroll.specs.unrolling.Flattened.{named, flat_ex}
use Rattle.iter_unroll.specs.unrolling.Tied.{setting, as_state, Fit, SameEx}
use Rattle.iter_unroll.proofs.meaning.Options.{if_map, if_then, if_two}
use Rattle.iter_unroll.proofs.meaning.Names.{Stands, found}

-- the value of an expression of the tree
abbrev pub V : Shape → Fixed → Slots → Names → Ex → Value
V sh g a names e = value_of (setting sh g) (as_state a names) e

turn_is : (slots args : List ℕ) (v : ℕ) (o : Option Meant) → IfSome o (Stands slots args v) → IfSome (turn_number o) (λ c. c ≡ Number v)
turn_is slots args v None h = tt
turn_is slots args v (Some (m.Slot k)) h = tt
turn_is slots args v (Some (m.Number k)) h = ap Number h
turn_is slots args v (Some (m.Argument k)) h = tt

pub constant_is : (sh : Shape) (g : Fixed) (a : Slots) (n : ℕ) (env : Env) (names : Names) → Fit n env g a names → (e : Ex) → IfSome (constant env e) (λ c. c ≡ V sh g a names e)
constant_is sh g a n env names h (t.num p k) = refl
constant_is sh g a n env names h (t.null p) = tt
constant_is sh g a n env names h (t.name w) = turn_is a.slots g.args (look (text w) names) (lookup (text w) env) (found (text w) n env names a.slots g.args h.binds)
constant_is sh g a n env names h (t.cur p) = tt
constant_is sh g a n env names h (t.cur_field p w) = tt
constant_is sh g a n env names h (t.cur_item p w i) = tt
constant_is sh g a n env names h (t.pad_field p w) = tt
constant_is sh g a n env names h (t.pad_item p w i) = tt
constant_is sh g a n env names h (t.not p e) =
    if_map (constant env e) _ (λ c. c ≡ V sh g a names e) (λ c. c ≡ V sh g a names (t.not p e)) (constant_is sh g a n env names h e) (λ c i. ap (λ v. one (λ x. Truth (nat_eq x 0)) (word v)) i)
constant_is sh g a n env names h (t.flip p e) =
    if_map (constant env e) _ (λ c. c ≡ V sh g a names e) (λ c. c ≡ V sh g a names (t.flip p e)) (constant_is sh g a n env names h e) (λ c i. ap (λ v. one (λ x. Number (2 ^ 64 - 1 - x)) (word v)) i)
constant_is sh g a n env names h (t.bin p o x y) =
    if_two _ (constant env x) (constant env y) (λ c. c ≡ V sh g a names x) (λ c. c ≡ V sh g a names y) (λ c. c ≡ V sh g a names (t.bin p o x y)) (constant_is sh g a n env names h x) (constant_is sh g a n env names h y) (λ c d i j. ap₂ (binary o) i j)
constant_is sh g a n env names h (t.at p x y) = tt

word_is : (v : Value) (o : Option ℕ) → word v ≡ o → IfSome o (λ k. word v ≡ Some k)
word_is v None e = tt
word_is v (Some k) e = e

pub index_is : (sh : Shape) (g : Fixed) (a : Slots) (n : ℕ) (env : Env) (names : Names) → Fit n env g a names → (e : Ex) → IfSome (index env e) (λ k. word (V sh g a names e) ≡ Some k)
index_is sh g a n env names h e =
    if_then (constant env e) word (λ c. c ≡ V sh g a names e) (λ k. word (V sh g a names e) ≡ Some k) (constant_is sh g a n env names h e)
    (λ c i. word_is (V sh g a names e) (word c) (ap word (sym i)))

-- reads and writes of an element go to its offset and width
pub record IsElement (o : Option Slot) (k : ℕ) (u : ℕ × Width) : Type 0 where
  pub reads : (bytes : List ℕ) → read_item o k bytes ≡ read_at bytes u.0 u.1
  pub writes : (v : ℕ) (bytes : List ℕ) → write_item o k v bytes ≡ write_at bytes u.0 u.1 v

-- what an index is worth, and its element
pub record Chosen (o : Option Slot) (w : Option ℕ) (u : ℕ × Width) : Type 0 where
  pub k : ℕ
  pub is : w ≡ Some k
  pub item : IsElement o k u

if_so : {A : Type 0} (b : Bool) (x y : A) → b ≡ true → (if b then x else y) ≡ x
if_so true x y e = refl
if_so false x y e = cc

element_case : (b : Bool) (s : Slot) (k : ℕ) → nat_lt k s.count ≡ b → IfSome (if b then Some (item_at s k, s.width) else None) (IsElement (Some s) k)
element_case true s k e = record { reads = λ bytes. if_so (nat_lt k s.count) _ _ e; writes = λ v bytes. if_so (nat_lt k s.count) _ _ e }
element_case false s k e = tt

element_is : (o : Option Slot) (k : ℕ) → IfSome (element o k) (IsElement o k)
element_is None k = tt
element_is (Some s) k = element_case (nat_lt k s.count) s k refl

lift_chosen : (o : Option Slot) (v : Option ℕ) (n : ℕ) → v ≡ Some n → (e : Option (ℕ × Width)) → IfSome e (IsElement o n) → IfSome e (Chosen o v)
lift_chosen o v n i None h = tt
lift_chosen o v n i (Some u) h = record { k = n; is = i; item = h }

pub chosen : (fields : List FieldDecl) (w : Word) (k v : Option ℕ) → IfSome k (λ n. v ≡ Some n) → IfSome (element_of fields w k) (Chosen (find_field fields (text w)) v)
chosen fields w k v h =
    if_then k (element (find_field fields (text w))) (λ n. v ≡ Some n) (Chosen (find_field fields (text w)) v) h
    (λ n i. lift_chosen (find_field fields (text w)) v n i (element (find_field fields (text w)) n) (element_is (find_field fields (text w)) n))

one_some : (f : ℕ → Value) (w : Option ℕ) (k : ℕ) → w ≡ Some k → one f w ≡ f k
one_some f w k e = ap (one f) e

read_is : (o : Option Slot) (w : Option ℕ) (u : ℕ × Width) (bytes : List ℕ) → Chosen o w u → Number (read_at bytes u.0 u.1) ≡ one (λ k. Number (read_item o k bytes)) w
read_is o w u bytes c = ap Number (sym (c.item.reads bytes)) ∙ sym (ap (one (λ k. Number (read_item o k bytes))) c.is)

named_is : (g : Fixed) (a : Slots) (v : ℕ) (m : Meant) → Stands a.slots g.args v m → flat_value g a (named m) ≡ Number v
named_is g a v (m.Slot k) h = ap Number h
named_is g a v (m.Number k) h = ap Number h
named_is g a v (m.Argument k) h = ap Number h

same_value : (sh : Shape) (g : Fixed) (a : Slots) (n : ℕ) (env : Env) (names : Names) → Fit n env g a names → (e : Ex) → IfSome (flat_ex sh env e) (λ x. flat_value g a x ≡ V sh g a names e)
same_value sh g a n env names h (t.num p k) = refl
same_value sh g a n env names h (t.null p) = refl
same_value sh g a n env names h (t.name w) =
    if_map (lookup (text w) env) named (Stands a.slots g.args (look (text w) names)) (λ x. flat_value g a x ≡ V sh g a names (t.name w)) (found (text w) n env names a.slots g.args h.binds) (λ m i. named_is g a (look (text w) names) m i)
same_value sh g a n env names h (t.cur p) = refl
same_value sh g a n env names h (t.cur_field p w) =
    if_map (element_of sh.record_fields w (Some 0)) _ (Chosen (find_field sh.record_fields (text w)) (Some 0)) (λ x. flat_value g a x ≡ V sh g a names (t.cur_field p w))
    (chosen sh.record_fields w (Some 0) (Some 0) refl) (λ u c. read_is _ _ u a.record_bytes c)
same_value sh g a n env names h (t.cur_item p w i) =
    if_map (element_of sh.record_fields w (index env i)) _ (Chosen (find_field sh.record_fields (text w)) (word (V sh g a names i))) (λ x. flat_value g a x ≡ V sh g a names (t.cur_item p w i))
    (chosen sh.record_fields w (index env i) _ (index_is sh g a n env names h i)) (λ u c. read_is _ _ u a.record_bytes c)
same_value sh g a n env names h (t.pad_field p w) =
    if_map (element_of sh.pad_fields w (Some 0)) _ (Chosen (find_field sh.pad_fields (text w)) (Some 0)) (λ x. flat_value g a x ≡ V sh g a names (t.pad_field p w))
    (chosen sh.pad_fields w (Some 0) (Some 0) refl) (λ u c. read_is _ _ u a.pad c)
same_value sh g a n env names h (t.pad_item p w i) =
    if_map (element_of sh.pad_fields w (index env i)) _ (Chosen (find_field sh.pad_fields (text w)) (word (V sh g a names i))) (λ x. flat_value g a x ≡ V sh g a names (t.pad_item p w i))
    (chosen sh.pad_fields w (index env i) _ (index_is sh g a n env names h i)) (λ u c. read_is _ _ u a.pad c)
same_value sh g a n env names h (t.not p e) =
    if_map (flat_ex sh env e) f.not (λ x. flat_value g a x ≡ V sh g a names e) (λ x. flat_value g a x ≡ V sh g a names (t.not p e)) (same_value sh g a n env names h e) (λ x i. ap (λ v. one (λ y. Truth (nat_eq y 0)) (word v)) i)
same_value sh g a n env names h (t.flip p e) =
    if_map (flat_ex sh env e) f.flip (λ x. flat_value g a x ≡ V sh g a names e) (λ x. flat_value g a x ≡ V sh g a names (t.flip p e)) (same_value sh g a n env names h e) (λ x i. ap (λ v. one (λ y. Number (2 ^ 64 - 1 - y)) (word v)) i)
same_value sh g a n env names h (t.bin p o b c) =
    if_two (f.bin o) (flat_ex sh env b) (flat_ex sh env c) (λ x. flat_value g a x ≡ V sh g a names b) (λ x. flat_value g a x ≡ V sh g a names c) (λ x. flat_value g a x ≡ V sh g a names (t.bin p o b c))
    (same_value sh g a n env names h b) (same_value sh g a n env names h c) (λ x y i j. ap₂ (binary o) i j)
same_value sh g a n env names h (t.at p b c) =
    if_two f.at (flat_ex sh env b) (flat_ex sh env c) (λ x. flat_value g a x ≡ V sh g a names b) (λ x. flat_value g a x ≡ V sh g a names c) (λ x. flat_value g a x ≡ V sh g a names (t.at p b c))
    (same_value sh g a n env names h b) (same_value sh g a n env names h c) (λ x y i j. ap₂ (λ v w. both (apply op.Add) (word v) (word w)) i j)

-- what holds for each state holds of the value, if there is one
pub for_each : {A : Type 0} (n : ℕ) (env : Env) (g : Fixed) (o : Option A) (P : Slots → Names → A → Type 0) → ((a : Slots) (names : Names) → Fit n env g a names → IfSome o (P a names)) → IfSome o (λ x. (a : Slots) (names : Names) → Fit n env g a names → P a names x)
for_each n env g None P h = tt
for_each n env g (Some x) P h = h

pub same_ex : (sh : Shape) (g : Fixed) (n : ℕ) (env : Env) (e : Ex) → IfSome (flat_ex sh env e) (SameEx sh g n env e)
same_ex sh g n env e = for_each n env g (flat_ex sh env e) (λ a names x. flat_value g a x ≡ V sh g a names e) (λ a names h. same_value sh g a n env names h e)
