-- Straight code uses just the fields of the record that the text uses, turn by turn.
use Rattle.std.proofs.Common.{◌≡◌, ℕ, ◌-◌, ◌^◌, nat_eq, Bool, true, false, List, [], ◌∷◌, ◌++◌, bytes_eq, if◌then◌else◌, Option, Some, None, IfSome, refl, sym, ap, ap₂, ◌∙◌}
use Rattle.iter_syntax.specs.declared.tree.Word.{Word}
use Rattle.iter_syntax.specs.declared.tree.FieldDecl.{FieldDecl}
use Rattle.iter_syntax.specs.Tree.{Ex, Sts}
use Rattle.iter_syntax.specs.Tree as t
use Rattle.iter_check.specs.Layout.{text, find_field}
use Rattle.iter_check.specs.State.{Names, look}
use Rattle.iter_check.specs.Value.{Value, Number, Truth, word, one, binary}
use Rattle.iter_unroll.specs.declared.scope.Meant.{Meant}
use Rattle.iter_unroll.specs.declared.scope.Meant.TheVariants as m
use Rattle.iter_unroll.specs.Flat.{Fx, Fs}
use Rattle.iter_unroll.specs.Flat as f
use Rattle.iter_unroll.specs.Uses.{Use, fx_uses, element, element_of, index_value, listed, ex_uses}
use Rattle.iter_unroll.specs.unrolling.Scope.{Env, lookup, Shape, turn_number, constant, index}
use Rattle.iter_unroll.specs.unrolling.Flattened.{named, flat_ex}
use Rattle.iter_unroll.proofs.meaning.Options.{if_map, if_then, if_two}

-- the loop variables in scope with their numbers
abbrev pub turn_of : Env → Names
turn_of [] = []
turn_of ((x, m.Slot k) ∷ env) = turn_of env
turn_of ((x, m.Number i) ∷ env) = (x, i) ∷ turn_of env
turn_of ((x, m.Argument k) ∷ env) = turn_of env

-- a loop variable that is found has its number
abbrev Looks : Names → List ℕ → Option Meant → Type 0
Looks turn name o = IfSome (turn_number o) (λ c. c ≡ Number (look name turn))

looks_case : (b : Bool) (name x : List ℕ) (t : Meant) (env : Env) → bytes_eq x name ≡ b → Looks (turn_of env) name (lookup name env) → Looks (turn_of ((x, t) ∷ env)) name (if b then Some t else lookup name env)
looks_case true name x (m.Slot k) env e h = tt
looks_case true name x (m.Number i) env e h = ap (λ (b : Bool). Number (if b then i else look name (turn_of env))) (sym e)
looks_case true name x (m.Argument k) env e h = tt
looks_case false name x (m.Slot k) env e h = h
looks_case false name x (m.Number i) env e h = subst_number (turn_number (lookup name env)) (ap (λ (b : Bool). Number (if b then i else look name (turn_of env))) (sym e)) h
  where
    subst_number : {u v : Value} (o : Option Value) → u ≡ v → IfSome o (λ c. c ≡ u) → IfSome o (λ c. c ≡ v)
    subst_number None e h = tt
    subst_number (Some c) e h = h ∙ e
looks_case false name x (m.Argument k) env e h = h

looks : (name : List ℕ) (env : Env) → Looks (turn_of env) name (lookup name env)
looks name [] = tt
looks name ((x, t) ∷ env) = looks_case (bytes_eq x name) name x t env refl (looks name env)

-- an index is worth in its turn what it is worth in the code
constant_is : (env : Env) (e : Ex) → IfSome (constant env e) (λ c. c ≡ index_value (turn_of env) e)
constant_is env (t.num p k) = refl
constant_is env (t.null p) = tt
constant_is env (t.name w) = looks (text w) env
constant_is env (t.cur p) = tt
constant_is env (t.cur_field p w) = tt
constant_is env (t.cur_item p w i) = tt
constant_is env (t.pad_field p w) = tt
constant_is env (t.pad_item p w i) = tt
constant_is env (t.not p e) =
    if_map (constant env e) _ (λ c. c ≡ index_value (turn_of env) e) (λ c. c ≡ index_value (turn_of env) (t.not p e)) (constant_is env e) (λ c i. ap (λ v. one (λ x. Truth (nat_eq x 0)) (word v)) i)
constant_is env (t.flip p e) =
    if_map (constant env e) _ (λ c. c ≡ index_value (turn_of env) e) (λ c. c ≡ index_value (turn_of env) (t.flip p e)) (constant_is env e) (λ c i. ap (λ v. one (λ x. Number (2 ^ 64 - 1 - x)) (word v)) i)
constant_is env (t.bin p o x y) =
    if_two _ (constant env x) (constant env y) (λ c. c ≡ index_value (turn_of env) x) (λ c. c ≡ index_value (turn_of env) y) (λ c. c ≡ index_value (turn_of env) (t.bin p o x y)) (constant_is env x) (constant_is env y) (λ c d i j. ap₂ (binary o) i j)
constant_is env (t.at p x y) = tt

word_some : (v : Value) (o : Option ℕ) → word v ≡ o → IfSome o (λ k. word v ≡ Some k)
word_some v None e = tt
word_some v (Some k) e = e

pub index_is : (env : Env) (e : Ex) → IfSome (index env e) (λ k. word (index_value (turn_of env) e) ≡ Some k)
index_is env e =
    if_then (constant env e) word (λ c. c ≡ index_value (turn_of env) e) (λ k. word (index_value (turn_of env) e) ≡ Some k) (constant_is env e)
    (λ c i. word_some (index_value (turn_of env) e) (word c) (ap word (sym i)))

-- the element that is used
pub one_listed : (o : Option Use) → IfSome o (λ u. u ∷ [] ≡ listed o)
one_listed None = tt
one_listed (Some u) = refl

pub item_listed : (fields : List FieldDecl) (w : Word) (k v : Option ℕ) → IfSome k (λ n. v ≡ Some n) → IfSome (element_of fields w k) (λ u. u ∷ [] ≡ listed (element_of fields w v))
item_listed fields w None v h = tt
item_listed fields w (Some k) v h = moved (element (find_field fields (text w)) k) _ (sym (ap (element_of fields w) h))
  where
    moved : (o p : Option Use) → o ≡ p → IfSome o (λ u. u ∷ [] ≡ listed p)
    moved None p e = tt
    moved (Some u) p e = ap listed e

abbrev pub ExUses : Shape → Env → Ex → Fx → Type 0
ExUses sh env e x = fx_uses x ≡ ex_uses sh.record_fields (turn_of env) e

named_none : (t : Meant) → fx_uses (named t) ≡ []
named_none (m.Slot k) = refl
named_none (m.Number i) = refl
named_none (m.Argument k) = refl

always : {A : Type 0} (o : Option A) → IfSome o (λ x. Unit {0})
always None = tt
always (Some x) = tt

pub uses_ex : (sh : Shape) (env : Env) (e : Ex) → IfSome (flat_ex sh env e) (ExUses sh env e)
uses_ex sh env (t.num p k) = refl
uses_ex sh env (t.null p) = refl
uses_ex sh env (t.name w) = if_map (lookup (text w) env) named (λ x. Unit {0}) (ExUses sh env (t.name w)) (always (lookup (text w) env)) (λ x h. named_none x)
uses_ex sh env (t.cur p) = refl
uses_ex sh env (t.cur_field p w) =
    if_map (element_of sh.record_fields w (Some 0)) _ (λ u. u ∷ [] ≡ listed (element_of sh.record_fields w (Some 0))) (ExUses sh env (t.cur_field p w)) (one_listed (element_of sh.record_fields w (Some 0))) (λ u h. h)
uses_ex sh env (t.cur_item p w i) =
    if_map (element_of sh.record_fields w (index env i)) _ (λ u. u ∷ [] ≡ listed (element_of sh.record_fields w (word (index_value (turn_of env) i)))) (ExUses sh env (t.cur_item p w i)) (item_listed sh.record_fields w (index env i) (word (index_value (turn_of env) i)) (index_is env i)) (λ u h. h)
uses_ex sh env (t.pad_field p w) = if_map (element_of sh.pad_fields w (Some 0)) _ (λ u. Unit {0}) (ExUses sh env (t.pad_field p w)) (always (element_of sh.pad_fields w (Some 0))) (λ u h. refl)
uses_ex sh env (t.pad_item p w i) = if_map (element_of sh.pad_fields w (index env i)) _ (λ u. Unit {0}) (ExUses sh env (t.pad_item p w i)) (always (element_of sh.pad_fields w (index env i))) (λ u h. refl)
uses_ex sh env (t.not p e) = if_map (flat_ex sh env e) f.not (ExUses sh env e) (ExUses sh env (t.not p e)) (uses_ex sh env e) (λ x h. h)
uses_ex sh env (t.flip p e) = if_map (flat_ex sh env e) f.flip (ExUses sh env e) (ExUses sh env (t.flip p e)) (uses_ex sh env e) (λ x h. h)
uses_ex sh env (t.bin p o a b) =
    if_two (f.bin o) (flat_ex sh env a) (flat_ex sh env b) (ExUses sh env a) (ExUses sh env b) (ExUses sh env (t.bin p o a b)) (uses_ex sh env a) (uses_ex sh env b) (λ x y h k. ap₂ (λ u v. u ++ v) h k)
uses_ex sh env (t.at p a b) =
    if_two f.at (flat_ex sh env a) (flat_ex sh env b) (ExUses sh env a) (ExUses sh env b) (ExUses sh env (t.at p a b)) (uses_ex sh env a) (uses_ex sh env b) (λ x y h k. ap₂ (λ u v. u ++ v) h k)
