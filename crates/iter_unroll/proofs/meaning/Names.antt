-- Names in scope.
use Rattle.std.proofs.Common.{◌≡◌, ◌≢◌, ℕ, ◌<◌, ◌≤◌, Bool, true, false, List, [], ◌∷◌, ◌++◌, length, get_or, set, Option, Some, None, IfSome, bytes_eq, if◌then◌else◌, sym, ap, ◌∙◌, arith, append_assoc, get_or-set_same, get_or-set_other, le_refl, le_trans}
use Rattle.iter_check.specs.State.{Names, State, look, change}
use Rattle.iter_unroll.specs.Flat.{Fixed, Slots}
use Rattle.iter_unroll.specs.declared.scope.Meant.{Meant}
use Rattle.iter_unroll.specs.declared.scope.Meant.TheVariants as m
use Rattle.iter_unroll.specs.unrolling.Scope.{Env, lookup}
use Rattle.iter_unroll.specs.unrolling.Flattened.{let_slot}
use Rattle.iter_unroll.specs.unrolling.Tied.{Holds, Binds, Fit, Grown, as_state, below, Never}

never : {A : Type 0} → Never → A
never h = cc

-- what a name stands for has its value
abbrev pub Stands : List ℕ → List ℕ → ℕ → Meant → Type 0
Stands slots args v (m.Slot k) = get_or slots k 0 ≡ v
Stands slots args v (m.Number i) = i ≡ v
Stands slots args v (m.Argument k) = get_or args k 0 ≡ v

stands : (n : ℕ) (slots args : List ℕ) (m : Meant) (v : ℕ) → Holds n slots args m v → Stands slots args v m
stands n slots args (m.Slot k) v h = h.1
stands n slots args (m.Number i) v h = h
stands n slots args (m.Argument k) v h = h

found_case : (b c : Bool) (slots args : List ℕ) (x : Meant) (v : ℕ) (o : Option Meant) (l : ℕ) → b ≡ c → Stands slots args v x → IfSome o (Stands slots args l) → IfSome (if b then Some x else o) (Stands slots args (if c then v else l))
found_case true true slots args x v o l e h r = h
found_case false false slots args x v o l e h r = r
found_case true false slots args x v o l e h r = never e
found_case false true slots args x v o l e h r = never (sym e)

pub found : (name : List ℕ) (n : ℕ) (env : Env) (names : Names) (slots args : List ℕ) → Binds n env names slots args → IfSome (lookup name env) (Stands slots args (look name names))
found name n [] [] slots args b = tt
found name n [] (y ∷ names) slots args b = never b
found name n (e ∷ env) [] slots args b = never b
found name n (e ∷ env) (y ∷ names) slots args b =
    found_case (bytes_eq e.0 name) (bytes_eq y.0 name) slots args e.1 y.1 (lookup name env) (look name names) (ap (λ x. bytes_eq x name) b.0) (stands n slots args e.1 y.1 b.1) (found name (below n e.1) env names slots args b.2)

-- slots from `k` on are of no name
pub kept : (n : ℕ) (env : Env) (names : Names) (slots args : List ℕ) (k v : ℕ) → n ≤ k → Binds n env names slots args → Binds n env names (set slots k v) args
kept n [] [] slots args k v le b = tt
kept n [] (y ∷ names) slots args k v le b = b
kept n (e ∷ env) [] slots args k v le b = b
kept n ((x, m.Slot j) ∷ env) (y ∷ names) slots args k v le b =
    let other : j ≢ k = omega (arith, b.1.0, le) in
    (b.0, (b.1.0, get_or-set_other slots k j v 0 other ∙ b.1.1), kept j env names slots args k v (omega (arith, b.1.0, le)) b.2)
kept n ((x, m.Number i) ∷ env) (y ∷ names) slots args k v le b = (b.0, b.1, kept n env names slots args k v le b.2)
kept n ((x, m.Argument i) ∷ env) (y ∷ names) slots args k v le b = (b.0, b.1, kept n env names slots args k v le b.2)

-- a slot below `n` and what an assignment to it leaves
abbrev pub Assigned : ℕ → Env → Names → List ℕ → List ℕ → ℕ → ℕ → Type 0
Assigned n env names slots args v k = (k < n) × Binds n env names (set slots k v) args

here : (x : List ℕ) (t : Meant) (n : ℕ) (env : Env) (y : List ℕ × ℕ) (names : Names) (slots args : List ℕ) (v : ℕ) → n ≤ length slots → Binds n ((x, t) ∷ env) (y ∷ names) slots args → IfSome (let_slot (Some t)) (Assigned n ((x, t) ∷ env) ((y.0, v) ∷ names) slots args v)
here x (m.Slot k) n env y names slots args v le b =
    (omega (arith, b.1.0), (b.0, (b.1.0, get_or-set_same slots k v 0 (omega (arith, b.1.0, le))), kept k env names slots args k v (le_refl k) b.2))
here x (m.Number i) n env y names slots args v le b = tt
here x (m.Argument i) n env y names slots args v le b = tt

there : (x : List ℕ) (t : Meant) (n : ℕ) (env : Env) (y : List ℕ × ℕ) (names more : Names) (slots args : List ℕ) (v k : ℕ) → Binds n ((x, t) ∷ env) (y ∷ names) slots args → Assigned (below n t) env more slots args v k → Assigned n ((x, t) ∷ env) (y ∷ more) slots args v k
there x (m.Slot j) n env y names more slots args v k b h =
    let other : j ≢ k = omega (arith, h.0) in
    (omega (arith, b.1.0, h.0), (b.0, (b.1.0, get_or-set_other slots k j v 0 other ∙ b.1.1), h.1))
there x (m.Number i) n env y names more slots args v k b h = (h.0, (b.0, b.1, h.1))
there x (m.Argument i) n env y names more slots args v k b h = (h.0, (b.0, b.1, h.1))

below_le : (n : ℕ) (x : List ℕ) (t : Meant) (env : Env) (y : List ℕ × ℕ) (names : Names) (slots args : List ℕ) → Binds n ((x, t) ∷ env) (y ∷ names) slots args → below n t ≤ n
below_le n x (m.Slot k) env y names slots args b = omega (arith, b.1.0)
below_le n x (m.Number k) env y names slots args b = le_refl n
below_le n x (m.Argument k) env y names slots args b = le_refl n

if_weaker : (o : Option ℕ) (P Q : ℕ → Type 0) → ((k : ℕ) → P k → Q k) → IfSome o P → IfSome o Q
if_weaker None P Q h p = tt
if_weaker (Some k) P Q h p = h k p

assigned_case : (b c : Bool) (x : List ℕ) (t : Meant) (n : ℕ) (env : Env) (y : List ℕ × ℕ) (names more : Names) (slots args : List ℕ) (v : ℕ) (o : Option Meant) → b ≡ c → n ≤ length slots → Binds n ((x, t) ∷ env) (y ∷ names) slots args → IfSome (let_slot o) (Assigned (below n t) env more slots args v) → IfSome (let_slot (if b then Some t else o)) (Assigned n ((x, t) ∷ env) (if c then (y.0, v) ∷ names else y ∷ more) slots args v)
assigned_case true true x t n env y names more slots args v o e le b r = here x t n env y names slots args v le b
assigned_case false false x t n env y names more slots args v o e le b r =
    if_weaker (let_slot o) (Assigned (below n t) env more slots args v) (Assigned n ((x, t) ∷ env) (y ∷ more) slots args v) (λ k h. there x t n env y names more slots args v k b h) r
assigned_case true false x t n env y names more slots args v o e le b r = never e
assigned_case false true x t n env y names more slots args v o e le b r = never (sym e)

pub assigned : (name : List ℕ) (n : ℕ) (env : Env) (names : Names) (slots args : List ℕ) (v : ℕ) → n ≤ length slots → Binds n env names slots args → IfSome (let_slot (lookup name env)) (Assigned n env (change name v names) slots args v)
assigned name n [] [] slots args v le b = tt
assigned name n [] (y ∷ names) slots args v le b = never b
assigned name n (e ∷ env) [] slots args v le b = never b
assigned name n ((x, t) ∷ env) (y ∷ names) slots args v le b =
    assigned_case (bytes_eq x name) (bytes_eq y.0 name) x t n env y names (change name v names) slots args v (lookup name env) (ap (λ z. bytes_eq z name) b.0) le b
    (assigned name (below n t) env names slots args v (le_trans (below_le n x t env y names slots args b) le) b.2)

-- a name goes out of scope
outer : (n : ℕ) (x : List ℕ) (t : Meant) (env : Env) (g : Fixed) (a : Slots) (s : State) (top names : Names) → below n t ≤ 8 → s ≡ as_state a (top ++ names) → Fit n ((x, t) ∷ env) g a names → Grown (below n t) env g a s
outer n x t env g a s top [] le e f = never f.binds
outer n x t env g a s top (y ∷ names) le e f =
    record {
      top = top ++ (y ∷ []);
      names = names;
      is = e ∙ ap (as_state a) (sym (append_assoc top (y ∷ []) names));
      fit = record { few = le; eight = f.eight; binds = f.binds.2 };
    }

pub ungrow : (n : ℕ) (x : List ℕ) (t : Meant) (env : Env) (g : Fixed) → below n t ≤ 8 → (a : Slots) (s : State) → Grown n ((x, t) ∷ env) g a s → Grown (below n t) env g a s
ungrow n x t env g le a s h = outer n x t env g a s h.top h.names le h.is h.fit
