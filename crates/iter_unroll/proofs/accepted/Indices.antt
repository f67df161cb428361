-- An index without a fault is worth its number in each turn, and that is below the length.
use Rattle.std.proofs.Common.{◌≡◌, ℕ, zero, suc, ◌+◌, ◌-◌, ◌^◌, ◌<◌, ◌≤◌, Bool, true, false, ◌||◌, nat_lt, List, [], ◌∷◌, ◌++◌, Option, Some, None, option_map, option_and_then, IfSome, refl, sym, ap, ap₂, subst, ◌∙◌, arith, append_assoc}
use Rattle.std.proofs.lemmas.List.{append-nil}
use Rattle.iter_syntax.specs.declared.tree.Place.{Place}
use Rattle.iter_syntax.specs.declared.tree.Word.{Word}
use Rattle.iter_syntax.specs.declared.tree.BinaryOp.{BinaryOp}
use Rattle.iter_syntax.specs.declared.tree.BinaryOp.TheVariants as op
use Rattle.iter_syntax.specs.Tree.{Ex}
use Rattle.iter_syntax.specs.Tree as t
use Rattle.iter_check.specs.Layout.{text}
use Rattle.iter_check.specs.Value.{Value, Number, word, one, both, apply, binary}
use Rattle.iter_check.specs.declared.sort.Sort.{Sort}
use Rattle.iter_check.specs.declared.sort.Sort.TheVariants as s
use Rattle.iter_check.specs.declared.kind.CheckKind.TheVariants as k
use Rattle.iter_check.specs.declared.scope.Binding.{Binding}
use Rattle.iter_check.specs.declared.loops.Loop.{Loop}
use Rattle.iter_check.specs.Scope.{Scope, Ground, bound}
use Rattle.iter_check.specs.Typing.{is_not, clash, gives, of_one, of_two, name_sort, sort_of}
use Rattle.iter_check.specs.Expressions.{expr_faults}
use Rattle.iter_check.specs.Indices.{number_in, two_numbers, flipped, index_in, is_below, out_of, for_some, in_some_turn}
use Rattle.iter_unroll.specs.declared.scope.Meant.{Meant}
use Rattle.iter_unroll.specs.declared.scope.Meant.TheVariants as m
use Rattle.iter_unroll.specs.Limits.{Reach}
use Rattle.iter_unroll.specs.unrolling.Scope.{Env, lookup, map2, turn_number, constant, index}
use Rattle.iter_unroll.proofs.accepted.Options.{Is, never}
use Rattle.iter_unroll.proofs.accepted.Faults.{first_nil, last_nil, right, or_left, or_right, not_false}
use Rattle.iter_unroll.proofs.accepted.Scopes.{Agrees, turn_index, IsTurn, Knows}

-- the type of an index in a turn, and what the code takes for it where it is an int
pub record Typed (g : Ground) (scope : Scope) (env : Env) (e : Ex) (n : ℕ) : Type 0 where
  pub sort : Sort
  pub is : sort_of g scope e ≡ Some sort
  pub worth : sort ≡ s.Int → index env e ≡ Some n

is_int : (sort : Sort) → is_not s.Int (Some sort) ≡ false → sort ≡ s.Int
is_int s.Int e = refl
is_int s.Ptr e = cc
is_int s.Bool e = cc

abbrev NameTyped : Option Sort → Option Meant → ℕ → Type 0
NameTyped o p n = (o ≡ Some s.Int) × (option_and_then word (turn_number p) ≡ Some n)

name_case : (r : Reach) (o : Option Binding) (p : Option Meant) → Agrees r o p → IfSome (turn_index p) (NameTyped (name_sort o) p)
name_case r None None a = tt
name_case r None (Some x) a = never a
name_case r (Some b) None a = never a
name_case r (Some b) (Some (m.Slot k)) a = tt
name_case r (Some b) (Some (m.Number i)) a = (a.1, refl)
name_case r (Some b) (Some (m.Argument k)) a = tt

typed_name : (g : Ground) (scope : Scope) (env : Env) (w : Word) (o : Option ℕ) → IfSome o (NameTyped (name_sort (bound scope w)) (lookup (text w) env)) → IfSome o (Typed g scope env (t.name w))
typed_name g scope env w None h = tt
typed_name g scope env w (Some n) h = record { sort = s.Int; is = h.0; worth = λ e. h.1 }

-- one number
worth_one : (f : ℕ → Value) (o : Option Value) (n : ℕ) → option_and_then word o ≡ Some n → option_and_then word (option_map (λ v. one f (word v)) o) ≡ word (f n)
worth_one f None n e = cc
worth_one f (Some v) n e = ap (λ w. word (one f w)) e

typed_flip : (g : Ground) (scope : Scope) (env : Env) (p : Place) (e : Ex) (o : Option ℕ) → is_not s.Int (sort_of g scope e) ≡ false → IfSome o (Typed g scope env e) → IfSome (flipped o) (Typed g scope env (t.flip p e))
typed_flip g scope env p e None fits h = tt
typed_flip g scope env p e (Some n) fits h =
    let int : h.sort ≡ s.Int = is_int h.sort (ap (is_not s.Int) (sym h.is) ∙ fits) in
    record {
      sort = s.Int;
      is = ap (λ o. of_one o (is_not s.Int o) s.Int) (h.is ∙ ap Some int);
      worth = λ q. worth_one (λ x. Number (2 ^ 64 - 1 - x)) (constant env e) n (h.worth int);
    }

-- two numbers: what gives an int takes two
pub record TakesInts (o : BinaryOp) (a b : Sort) : Type 0 where
  pub first : a ≡ s.Int
  pub second : b ≡ s.Int
  pub plain : (v w : Value) → binary o v w ≡ both (apply o) (word v) (word w)

ints : (o : BinaryOp) (a b : Sort) → is_not s.Int (Some a) || is_not s.Int (Some b) ≡ false → ((v w : Value) → binary o v w ≡ both (apply o) (word v) (word w)) → TakesInts o a b
ints o a b e h = record { first = is_int a (or_left _ _ e); second = is_int b (or_right (is_not s.Int (Some a)) _ e); plain = h }

no_bool : {A : Type 0} → s.Bool ≡ s.Int → A
no_bool e = cc

takes_ints : (o : BinaryOp) (a b : Sort) → gives o ≡ s.Int → clash o (Some a) (Some b) ≡ false → TakesInts o a b
takes_ints op.Or a b e c = no_bool e
takes_ints op.And a b e c = no_bool e
takes_ints op.Eq a b e c = no_bool e
takes_ints op.Ne a b e c = no_bool e
takes_ints op.Lt a b e c = no_bool e
takes_ints op.Le a b e c = no_bool e
takes_ints op.Gt a b e c = no_bool e
takes_ints op.Ge a b e c = no_bool e
takes_ints op.BitAnd a b e c = ints op.BitAnd a b c (λ v w. refl)
takes_ints op.BitOr a b e c = ints op.BitOr a b c (λ v w. refl)
takes_ints op.BitXor a b e c = ints op.BitXor a b c (λ v w. refl)
takes_ints op.Shl a b e c = ints op.Shl a b c (λ v w. refl)
takes_ints op.Shr a b e c = ints op.Shr a b c (λ v w. refl)
takes_ints op.Add a b e c = ints op.Add a b c (λ v w. refl)
takes_ints op.Sub a b e c = ints op.Sub a b c (λ v w. refl)
takes_ints op.Mul a b e c = ints op.Mul a b c (λ v w. refl)
takes_ints op.Div a b e c = ints op.Div a b c (λ v w. refl)
takes_ints op.Mod a b e c = ints op.Mod a b c (λ v w. refl)

worth_two : (o : BinaryOp) (u v : Option Value) (x y : ℕ) → ((v w : Value) → binary o v w ≡ both (apply o) (word v) (word w)) → option_and_then word u ≡ Some x → option_and_then word v ≡ Some y → option_and_then word (map2 (binary o) u v) ≡ word (apply o x y)
worth_two o None v x y h e f = cc
worth_two o (Some u) None x y h e f = cc
worth_two o (Some u) (Some v) x y h e f = ap word (h u v ∙ ap₂ (both (apply o)) e f)

listed_worth : (g : Ground) (scope : Scope) (env : Env) (e : Ex) (sort : Sort) (o : Option ℕ) → sort_of g scope e ≡ Some sort → (sort ≡ s.Int → index env e ≡ o) → IfSome o (Typed g scope env e)
listed_worth g scope env e sort None is h = tt
listed_worth g scope env e sort (Some n) is h = record { sort = sort; is = is; worth = h }

typed_two : (g : Ground) (scope : Scope) (env : Env) (p : Place) (o : BinaryOp) (a b : Ex) (x y : Option ℕ) → clash o (sort_of g scope a) (sort_of g scope b) ≡ false → IfSome x (Typed g scope env a) → IfSome y (Typed g scope env b) → IfSome (two_numbers (apply o) x y) (Typed g scope env (t.bin p o a b))
typed_two g scope env p o a b None y fits h q = tt
typed_two g scope env p o a b (Some x) None fits h q = tt
typed_two g scope env p o a b (Some x) (Some y) fits h q =
    let c : clash o (Some h.sort) (Some q.sort) ≡ false = ap₂ (clash o) (sym h.is) (sym q.is) ∙ fits in
    listed_worth g scope env (t.bin p o a b) (gives o) (word (apply o x y))
    (ap₂ (λ u v. of_two u v (clash o u v) (gives o)) h.is q.is ∙ ap (λ d. of_two (Some h.sort) (Some q.sort) d (gives o)) c)
    (λ e. let i = takes_ints o h.sort q.sort e c in worth_two o (constant env a) (constant env b) x y i.plain (h.worth i.first) (q.worth i.second))

pub typed : (g : Ground) (r : Reach) (scope : Scope) (loops : List Loop) (turn : List ℕ) (n : ℕ) (env : Env) → Knows r scope loops turn n env → (e : Ex) → expr_faults g scope e ≡ [] → IfSome (index_in loops turn e) (Typed g scope env e)
typed g r scope loops turn n env know (t.num p x) f = record { sort = s.Int; is = refl; worth = λ e. refl }
typed g r scope loops turn n env know (t.null p) f = tt
typed g r scope loops turn n env know (t.name w) f =
    typed_name g scope env w (number_in (text w) loops turn)
    (subst (λ o. IfSome o (NameTyped (name_sort (bound scope w)) (lookup (text w) env))) (sym (know.numbers w)) (name_case r (bound scope w) (lookup (text w) env) (know.names w)))
typed g r scope loops turn n env know (t.cur p) f = tt
typed g r scope loops turn n env know (t.cur_field p w) f = tt
typed g r scope loops turn n env know (t.cur_item p w i) f = tt
typed g r scope loops turn n env know (t.pad_field p w) f = tt
typed g r scope loops turn n env know (t.pad_item p w i) f = tt
typed g r scope loops turn n env know (t.not p e) f = tt
typed g r scope loops turn n env know (t.flip p e) f =
    typed_flip g scope env p e (index_in loops turn e) (right k.Typing p _ (last_nil (expr_faults g scope e) _ f)) (typed g r scope loops turn n env know e (first_nil _ _ f))
typed g r scope loops turn n env know (t.bin p o a b) f =
    let ab = first_nil (expr_faults g scope a ++ expr_faults g scope b) _ f in
    typed_two g scope env p o a b (index_in loops turn a) (index_in loops turn b) (right k.Typing p _ (last_nil (expr_faults g scope a ++ expr_faults g scope b) _ f))
    (typed g r scope loops turn n env know a (first_nil _ _ ab)) (typed g r scope loops turn n env know b (last_nil (expr_faults g scope a) _ ab))
typed g r scope loops turn n env know (t.at p a b) f = tt

-- what holds in no turn does not hold in one of them
none_of : (j n first : ℕ) (holds : ℕ → Bool) → j < n → for_some first n holds ≡ false → holds (first + j) ≡ false
none_of j zero first holds lt e = absurd (omega (arith, lt))
none_of zero (suc n) first holds lt e = subst (λ i. holds i ≡ false) (omega arith) (or_left (holds first) _ e)
none_of (suc j) (suc n) first holds lt e = subst (λ i. holds i ≡ false) (omega arith) (none_of j n (suc first) holds (omega (arith, lt)) (or_right (holds first) _ e))

none_between : (i first past : ℕ) (holds : ℕ → Bool) → first ≤ i → i < past → for_some first (past - first) holds ≡ false → holds i ≡ false
none_between i first past holds low high e = subst (λ j. holds j ≡ false) (omega (arith, low)) (none_of (i - first) (past - first) first holds (omega (arith, low, high)) e)

pub in_no_turn : (loops : List Loop) (before turn : List ℕ) (holds : List ℕ → Bool) → IsTurn loops turn → in_some_turn loops before holds ≡ false → holds (before ++ turn) ≡ false
in_no_turn [] before [] holds t e = subst (λ l. holds l ≡ false) (sym (append-nil before)) e
in_no_turn [] before (i ∷ turn) holds t e = never t
in_no_turn (l ∷ loops) before [] holds t e = never t
in_no_turn (l ∷ loops) before (i ∷ turn) holds t e =
    subst (λ x. holds x ≡ false) (append_assoc before (i ∷ []) turn)
    (in_no_turn loops (before ++ i ∷ []) turn holds t.2 (none_between i l.first l.past (λ j. in_some_turn loops (before ++ j ∷ []) holds) t.0 t.1 e))

below_case : (b : Bool) (n len : ℕ) → nat_lt n len ≡ b → b ≡ true → n < len
below_case true n len e q = grind arith
below_case false n len e q = cc

there : (g : Ground) (scope : Scope) (env : Env) (e : Ex) (o : Option ℕ) (len : ℕ) → is_not s.Int (sort_of g scope e) ≡ false → is_below o len ≡ true → IfSome o (Typed g scope env e) → Is (index env e) (λ n. n < len)
there g scope env e None len fits below h = never (sym below)
there g scope env e (Some n) len fits below h =
    let int : h.sort ≡ s.Int = is_int h.sort (ap (is_not s.Int) (sym h.is) ∙ fits) in
    subst (λ o. Is o (λ n. n < len)) (sym (h.worth int)) (below_case (nat_lt n len) n len refl below)

-- an index that is never out of its array
pub index_there : (g : Ground) (r : Reach) (scope : Scope) (loops : List Loop) (turn : List ℕ) (n : ℕ) (env : Env) → Knows r scope loops turn n env → (i : Ex) (len : ℕ) → expr_faults g scope i ≡ [] → is_not s.Int (sort_of g scope i) ≡ false → in_some_turn loops [] (out_of loops i len) ≡ false → Is (index env i) (λ k. k < len)
index_there g r scope loops turn n env know i len f fits e =
    there g scope env i (index_in loops turn i) len fits
    (not_false (is_below (index_in loops turn i) len) (in_no_turn loops [] turn (out_of loops i len) know.turns e))
    (typed g r scope loops turn n env know i f)
