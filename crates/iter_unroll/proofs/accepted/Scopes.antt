-- The checker's scope, the loops around and the environment know the same names.
use Rattle.std.proofs.Common.{◌≡◌, ℕ, suc, ◌+◌, ◌<◌, ◌≤◌, Bool, true, false, List, [], ◌∷◌, ◌++◌, bytes_eq, if◌then◌else◌, Option, Some, None, refl, sym, ap, subst, ◌∙◌, arith}
use Rattle.std.proofs.lemmas.List.Folds.{find-append}
use Rattle.std.proofs.lemmas.Slice.Eq.{bytes_eq-Decides}
use Rattle.std.specs.Prelude.{⊤, find, count_by, is_some}
use Rattle.std.specs.Option.{option_or}
use Rattle.std.proofs.lemmas.List.Sums.{sum_by-append}
use Rattle.iter_syntax.specs.declared.tree.Word.{Word}
use Rattle.iter_check.specs.Layout.{text}
use Rattle.iter_check.specs.declared.sort.Sort.{Sort}
use Rattle.iter_check.specs.declared.sort.Sort.TheVariants as s
use Rattle.iter_check.specs.declared.scope.Binding.{Binding}
use Rattle.iter_check.specs.declared.loops.Loop.{Loop}
use Rattle.iter_check.specs.Scope.{Scope, bound, bind}
use Rattle.iter_check.specs.Scoping.{lets}
use Rattle.iter_check.specs.Indices.{number_in, loop_of}
use Rattle.iter_unroll.specs.declared.scope.Meant.{Meant}
use Rattle.iter_unroll.specs.declared.scope.Meant.TheVariants as m
use Rattle.iter_unroll.specs.Limits.{Reach}
use Rattle.iter_unroll.specs.unrolling.Scope.{Env, lookup}
use Rattle.iter_unroll.specs.unrolling.Tied.{Never}
use Rattle.iter_unroll.proofs.accepted.Options.{never}

-- what a name is bound to goes with what it stands for
abbrev pub Agrees : Reach → Option Binding → Option Meant → Type 0
Agrees r None None = ⊤
Agrees r None (Some x) = Never
Agrees r (Some b) None = Never
Agrees r (Some b) (Some (m.Slot k)) = (b.is_let ≡ true) × (k < 8)
Agrees r (Some b) (Some (m.Number i)) = (b.is_let ≡ false) × (b.sort ≡ Some s.Int)
Agrees r (Some b) (Some (m.Argument k)) = (b.is_let ≡ false) × (k < r.args)

abbrev pub turn_index : Option Meant → Option ℕ
turn_index None = None
turn_index (Some (m.Slot k)) = None
turn_index (Some (m.Number i)) = Some i
turn_index (Some (m.Argument k)) = None

-- the numbers are those of a turn
abbrev pub IsTurn : List Loop → List ℕ → Type 0
IsTurn [] [] = ⊤
IsTurn [] (i ∷ turn) = Never
IsTurn (l ∷ loops) [] = Never
IsTurn (l ∷ loops) (i ∷ turn) = (l.first ≤ i) × (i < l.past) × IsTurn loops turn

pub record Knows (r : Reach) (scope : Scope) (loops : List Loop) (turn : List ℕ) (n : ℕ) (env : Env) : Type 0 where
  pub names : (w : Word) → Agrees r (bound scope w) (lookup (text w) env)
  pub lets_are : lets scope ≡ n
  pub numbers : (w : Word) → number_in (text w) loops turn ≡ turn_index (lookup (text w) env)
  pub turns : IsTurn loops turn

-- the same word finds the same binding
same_bound : (scope : Scope) (w v : Word) → bytes_eq (text w) (text v) ≡ true → bound scope v ≡ bound scope w
same_bound scope w v e = ap (λ (x : List ℕ). find (λ (b : Binding). bytes_eq b.text x) scope) (sym ((bytes_eq-Decides (text w) (text v)).0 e))

unbound : (r : Reach) (o : Option Binding) (p : Option Meant) → o ≡ None → Agrees r o p → p ≡ None
unbound r None None e a = refl
unbound r None (Some x) e a = never a
unbound r (Some b) p e a = cc

-- one more name
agrees_case : (c : Bool) (r : Reach) (b : Binding) (x : Meant) (o : Option Binding) (p : Option Meant) → (c ≡ true → o ≡ None) → Agrees r (Some b) (Some x) → Agrees r o p → Agrees r (option_or o (if c then Some b else None)) (if c then Some x else p)
agrees_case true r b x None p fresh new old = new
agrees_case true r b x (Some d) p fresh new old = never (clash (fresh refl))
  where
    clash : {A : Type 0} {y : A} → Some y ≡ None → Never
    clash e = cc
agrees_case false r b x None p fresh new old = old
agrees_case false r b x (Some d) p fresh new old = old

pub names_more : (r : Reach) (scope : Scope) (env : Env) (w : Word) (sort : Option Sort) (is_let : Bool) (x : Meant) → bound scope w ≡ None → Agrees r (Some (record { text = text w; sort = sort; is_let = is_let })) (Some x) → ((v : Word) → Agrees r (bound scope v) (lookup (text v) env)) → (v : Word) → Agrees r (bound (bind w sort is_let scope) v) (lookup (text v) ((text w, x) ∷ env))
names_more r scope env w sort is_let x fresh new old v =
    subst (λ o. Agrees r o (lookup (text v) ((text w, x) ∷ env))) (sym (find-append (λ (b : Binding). bytes_eq b.text (text v)) scope (record { text = text w; sort = sort; is_let = is_let } ∷ [])))
    (agrees_case (bytes_eq (text w) (text v)) r _ x (bound scope v) (lookup (text v) env) (λ e. same_bound scope w v e ∙ fresh) new (old v))

-- lets are counted
count_append : (p : Binding → Bool) (xs ys : List Binding) → count_by p (xs ++ ys) ≡ count_by p xs + count_by p ys
count_append p xs ys = sum_by-append (λ x. if p x then 1 else 0) xs ys

pub lets_more : (scope : Scope) (w : Word) (sort : Option Sort) (n : ℕ) → lets scope ≡ n → lets (bind w sort true scope) ≡ suc n
lets_more scope w sort n e =
    let a : lets (bind w sort true scope) ≡ lets scope + 1 = count_append (λ (b : Binding). b.is_let) scope (record { text = text w; sort = sort; is_let = true } ∷ []) in
    omega (arith, a, e)

pub lets_same : (scope : Scope) (w : Word) (sort : Option Sort) (n : ℕ) → lets scope ≡ n → lets (bind w sort false scope) ≡ n
lets_same scope w sort n e =
    let a : lets (bind w sort false scope) ≡ lets scope + 0 = count_append (λ (b : Binding). b.is_let) scope (record { text = text w; sort = sort; is_let = false } ∷ []) in
    omega (arith, a, e)

-- a name that is no loop variable is no number
plain_case : (c : Bool) (x : Meant) (o : Option ℕ) (p : Option Meant) → turn_index (Some x) ≡ None → (c ≡ true → p ≡ None) → o ≡ turn_index p → o ≡ turn_index (if c then Some x else p)
plain_case true x o p no_number fresh e = e ∙ ap turn_index (fresh refl) ∙ sym no_number
plain_case false x o p no_number fresh e = e

numbers_same : (r : Reach) (scope : Scope) (loops : List Loop) (turn : List ℕ) (n : ℕ) (env : Env) (w : Word) (x : Meant) → turn_index (Some x) ≡ None → bound scope w ≡ None → Knows r scope loops turn n env → (v : Word) → number_in (text v) loops turn ≡ turn_index (lookup (text v) ((text w, x) ∷ env))
numbers_same r scope loops turn n env w x no_number fresh k v =
    plain_case (bytes_eq (text w) (text v)) x (number_in (text v) loops turn) (lookup (text v) env) no_number
    (λ e. unbound r (bound scope v) (lookup (text v) env) (same_bound scope w v e ∙ fresh) (k.names v)) (k.numbers v)

pub know_let : (r : Reach) (scope : Scope) (loops : List Loop) (turn : List ℕ) (n : ℕ) (env : Env) (w : Word) (sort : Option Sort) → bound scope w ≡ None → n < 8 → Knows r scope loops turn n env → Knows r (bind w sort true scope) loops turn (suc n) ((text w, m.Slot n) ∷ env)
know_let r scope loops turn n env w sort fresh lt k =
    record {
      names = names_more r scope env w sort true (m.Slot n) fresh (refl, lt) k.names;
      lets_are = lets_more scope w sort n k.lets_are;
      numbers = numbers_same r scope loops turn n env w (m.Slot n) refl fresh k;
      turns = k.turns;
    }

pub know_argument : (r : Reach) (scope : Scope) (loops : List Loop) (turn : List ℕ) (n : ℕ) (env : Env) (w : Word) (sort : Option Sort) (j : ℕ) → bound scope w ≡ None → j < r.args → Knows r scope loops turn n env → Knows r (bind w sort false scope) loops turn n ((text w, m.Argument j) ∷ env)
know_argument r scope loops turn n env w sort j fresh lt k =
    record {
      names = names_more r scope env w sort false (m.Argument j) fresh (refl, lt) k.names;
      lets_are = lets_same scope w sort n k.lets_are;
      numbers = numbers_same r scope loops turn n env w (m.Argument j) refl fresh k;
      turns = k.turns;
    }

-- one more loop
turn_more : (loops : List Loop) (turn : List ℕ) (l : Loop) (i : ℕ) → l.first ≤ i → i < l.past → IsTurn loops turn → IsTurn (loops ++ l ∷ []) (turn ++ i ∷ [])
turn_more [] [] l i a b t = (a, b, tt)
turn_more [] (j ∷ turn) l i a b t = never t
turn_more (x ∷ loops) [] l i a b t = never t
turn_more (x ∷ loops) (j ∷ turn) l i a b t = (t.0, t.1, turn_more loops turn l i a b t.2)

either_number : (c : Bool) (n : ℕ) (o q : Option ℕ) → (if c then Some n else option_or o q) ≡ option_or (if c then Some n else o) q
either_number true n o q = refl
either_number false n o q = refl

number_more : (name : List ℕ) (loops : List Loop) (turn : List ℕ) (l : Loop) (i : ℕ) → IsTurn loops turn → number_in name (loops ++ l ∷ []) (turn ++ i ∷ []) ≡ option_or (number_in name loops turn) (if bytes_eq l.text name then Some i else None)
number_more name [] [] l i t = refl
number_more name [] (j ∷ turn) l i t = never t
number_more name (x ∷ loops) [] l i t = never t
number_more name (x ∷ loops) (j ∷ turn) l i t =
    ap (λ o. if bytes_eq x.text name then Some j else o) (number_more name loops turn l i t.2) ∙ either_number (bytes_eq x.text name) j (number_in name loops turn) _

number_case : (c : Bool) (i : ℕ) (o : Option ℕ) (p : Option Meant) → (c ≡ true → p ≡ None) → o ≡ turn_index p → option_or o (if c then Some i else None) ≡ turn_index (if c then Some (m.Number i) else p)
number_case true i None p fresh e = refl
number_case true i (Some j) p fresh e = lost (e ∙ ap turn_index (fresh refl))
  where
    lost : {A : Type 0} {x : ℕ} → Some x ≡ None → A
    lost e = cc
number_case false i None p fresh e = e
number_case false i (Some j) p fresh e = e

pub know_turn : (r : Reach) (scope : Scope) (loops : List Loop) (turn : List ℕ) (n : ℕ) (env : Env) (w : Word) (first past i : ℕ) → bound scope w ≡ None → first ≤ i → i < past → Knows r scope loops turn n env → Knows r (bind w (Some s.Int) false scope) (loops ++ loop_of w first past ∷ []) (turn ++ i ∷ []) n ((text w, m.Number i) ∷ env)
know_turn r scope loops turn n env w first past i fresh low high k =
    record {
      names = names_more r scope env w (Some s.Int) false (m.Number i) fresh (refl, refl) k.names;
      lets_are = lets_same scope w (Some s.Int) n k.lets_are;
      numbers = λ v. number_more (text v) loops turn (loop_of w first past) i k.turns
          ∙ number_case (bytes_eq (text w) (text v)) i (number_in (text v) loops turn) (lookup (text v) env) (λ e. unbound r (bound scope v) (lookup (text v) env) (same_bound scope w v e ∙ fresh) (k.names v)) (k.numbers v);
      turns = turn_more loops turn (loop_of w first past) i low high k.turns;
    }

-- nothing is known of nothing
pub know_nothing : (r : Reach) → Knows r [] [] [] 0 []
know_nothing r = record { names = λ w. tt; lets_are = refl; numbers = λ w. refl; turns = tt }

pub no_name : (o : Option Binding) → is_some o ≡ false → o ≡ None
no_name None e = refl
no_name (Some b) e = cc
