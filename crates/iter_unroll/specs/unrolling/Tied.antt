-- That straight code means what statements of the tree mean: a state of the one stands to a state of the other.
use Rattle.std.specs.Prelude.{◌≡◌, ℕ, suc, ◌≤◌, true, false, List, [], ◌∷◌, ◌++◌, length, get_or, IfSome, ⊤}
use Rattle.iter_syntax.specs.Tree.{Ex, Sts}
use Rattle.iter_check.specs.State.{Names, Setting, State}
use Rattle.iter_check.specs.Value.{value_of}
use Rattle.iter_check.specs.Meaning.{Outcome, meaning}
use Rattle.iter_check.specs.Meaning as o
use Rattle.iter_check.specs.Iteration as i
use Rattle.iter_unroll.specs.declared.scope.Meant.{Meant}
use Rattle.iter_unroll.specs.declared.scope.Meant.TheVariants as m
use Rattle.iter_unroll.specs.Flat.{Fx, Fs, Fixed, Slots, flat_value, Leaving, Falls, Ends, flat_meaning}
use Rattle.iter_unroll.specs.unrolling.Scope.{Env, Shape}
use Rattle.iter_unroll.specs.unrolling.Flattened.{flat_of}

-- what the tree's statements run in
abbrev pub setting : Shape → Fixed → Setting
setting sh g = record { record_fields = sh.record_fields; pad_fields = sh.pad_fields; cur = g.cur; writable = g.writable }

abbrev pub as_state : Slots → Names → State
as_state a names = record { record_bytes = a.record_bytes; pad = a.pad; names = names }

abbrev pub Never : Type 0
Never = true ≡ false

-- how many lets are in scope below a name, where there are `n` with it
abbrev pub below : ℕ → Meant → ℕ
below n (m.Slot k) = k
below n (m.Number i) = n
below n (m.Argument k) = n

-- a name's value; the newest let of `n` has the slot n - 1
abbrev pub Holds : ℕ → List ℕ → List ℕ → Meant → ℕ → Type 0
Holds n slots args (m.Slot k) v = (n ≡ suc k) × (get_or slots k 0 ≡ v)
Holds n slots args (m.Number i) v = i ≡ v
Holds n slots args (m.Argument k) v = get_or args k 0 ≡ v

-- the names in scope, one by one, have the values that the environment says
abbrev pub Binds : ℕ → Env → Names → List ℕ → List ℕ → Type 0
Binds n [] [] slots args = ⊤
Binds n [] (y ∷ names) slots args = Never
Binds n (e ∷ env) [] slots args = Never
Binds n (e ∷ env) (y ∷ names) slots args = (e.0 ≡ y.0) × Holds n slots args e.1 y.1 × Binds (below n e.1) env names slots args

pub record Fit (n : ℕ) (env : Env) (g : Fixed) (a : Slots) (names : Names) : Type 0 where
  pub few : n ≤ 8
  pub eight : length a.slots ≡ 8
  pub binds : Binds n env names a.slots g.args

-- a state of the tree and one of the straight code, with the names in scope
pub record Tied (n : ℕ) (env : Env) (g : Fixed) (a : Slots) (s : State) : Type 0 where
  pub names : Names
  pub is : s ≡ as_state a names
  pub fit : Fit n env g a names

-- the same, where a block has brought more names in scope
pub record Grown (n : ℕ) (env : Env) (g : Fixed) (a : Slots) (s : State) : Type 0 where
  pub top : Names
  pub names : Names
  pub is : s ≡ as_state a (top ++ names)
  pub fit : Fit n env g a names

-- the same way out; where both fall through, with states of a kind
abbrev pub Comes : (Slots → State → Type 0) → Leaving → Outcome → Type 0
Comes P (Falls a) (o.Falls s) = P a s
Comes P (Falls a) (o.Done s) = Never
Comes P (Falls a) (o.Goes p s) = Never
Comes P (Falls a) (o.Fault k) = Never
Comes P (Ends r) (o.Falls s) = Never
Comes P (Ends r) (o.Done s) = r ≡ i.Done s.record_bytes s.pad
Comes P (Ends r) (o.Goes p s) = r ≡ i.Goes p s.record_bytes s.pad
Comes P (Ends r) (o.Fault k) = r ≡ i.Fault k

abbrev pub SameEx : Shape → Fixed → ℕ → Env → Ex → Fx → Type 0
SameEx sh g n env e x =
    (a : Slots) (names : Names) → Fit n env g a names → flat_value g a x ≡ value_of (setting sh g) (as_state a names) e

abbrev pub Same : Shape → Fixed → ℕ → Env → Sts → Fs → Type 0
Same sh g n env ss fs =
    (a : Slots) (names : Names) → Fit n env g a names
    → Comes (Grown n env g) (flat_meaning g fs a) (meaning (setting sh g) ss (as_state a names))

-- where there is straight code, it means what the tree's statements mean
abbrev pub FlatLaw : Type 0
FlatLaw = (sh : Shape) (g : Fixed) (n : ℕ) (env : Env) (ss : Sts) → IfSome (flat_of sh n env ss) (Same sh g n env ss)
