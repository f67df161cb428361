-- How many turns of its node a live leg waits at most, and runs of a node by accepts and turns alone.
use Rattle.std.specs.Prelude.{◌≡◌, ◌≢◌, ℕ, suc, ◌+◌, ◌-◌, ◌*◌, ◌≤◌, List, [], ◌∷◌, length, Option, Some, None, if◌then◌else◌}
use Rattle.std.specs.FinMap as m
use Rattle.frame_codec.specs.declared.frame.Leg.{Leg}
use Rattle.leg_ledger.specs.declared.leg.LegKey.{LegKey}
use Rattle.leg_ledger.specs.declared.leg.Reply.{Reply}
use Rattle.run_rules.specs.declared.node.LiveLeg.{LiveLeg}
use Rattle.run_rules.specs.declared.node.Accepted.TheVariants.{Started}
use Rattle.run_rules.specs.Outcome.{Outcome}
use Rattle.run_rules.specs.Node.{NodeState, key_of, same_key, find_live}
use Rattle.run_rules.specs.Accepting.{accept}
use Rattle.run_rules.specs.Turning.{turn}

-- ---- the wait

-- of a leg at a place of the turn order, the first at 1, on a node of so many slots
abbrev pub wait_at : ℕ → ℕ → Leg → ℕ
wait_at slots place l = (l.left - 1) * slots + place

abbrev pub wait_from : ℕ → ℕ → List LiveLeg → LegKey → Option ℕ
wait_from slots place [] q = None
wait_from slots place (e ∷ es) q = if same_key q (key_of e.leg) then Some (wait_at slots place e.leg) else wait_from slots (suc place) es q

-- of the live leg of a name
abbrev pub wait : NodeState → LegKey → Option ℕ
wait n q = wait_from n.slots 1 n.live q

abbrev pub waits_from : ℕ → ℕ → List LiveLeg → ℕ
waits_from slots place [] = 0
waits_from slots place (e ∷ es) = wait_at slots place e.leg + waits_from slots (suc place) es

-- the sum of all waits: each turn that is not idle lowers it
abbrev pub rest : NodeState → ℕ
rest n = waits_from n.slots 1 n.live

-- ---- runs

-- one call of a node: a leg is accepted, or the first live leg makes an iteration, with any outcome
pub data Move : Type 0 where
  Accepts : Leg → Move
  Turns : Outcome → Move

abbrev pub turn_first : NodeState → List LiveLeg → Outcome → NodeState
turn_first n [] outcome = n
turn_first n (e ∷ es) outcome = (turn n (key_of e.leg) outcome).0

abbrev pub move : NodeState → Move → NodeState
move n (Accepts l) = (accept n l).0
move n (Turns outcome) = turn_first n n.live outcome

abbrev pub moves : NodeState → List Move → NodeState
moves n [] = n
moves n (x ∷ xs) = moves (move n x) xs

abbrev pub count_turns : List Move → ℕ
count_turns [] = 0
count_turns (Accepts l ∷ xs) = count_turns xs
count_turns (Turns outcome ∷ xs) = suc (count_turns xs)

-- each leg that is accepted has an iteration left
abbrev pub HaveLeft : List Move → Type 0
HaveLeft [] = Unit {0}
HaveLeft (Accepts l ∷ xs) = (1 ≤ l.left) × HaveLeft xs
HaveLeft (Turns outcome ∷ xs) = HaveLeft xs

-- ---- nodes on which this holds

abbrev pub Each : {A : Type 0} → (A → Type 0) → List A → Type 0
Each P [] = Unit {0}
Each P (x ∷ xs) = P x × Each P xs

-- no two live legs have the same name
abbrev pub Apart : List LiveLeg → Type 0
Apart [] = Unit {0}
Apart (e ∷ es) = Each (λ f. key_of e.leg ≢ key_of f.leg) es × Apart es

-- a live leg has an iteration left, and no reply of it is kept
abbrev pub IsOpen : NodeState → LiveLeg → Type 0
IsOpen n e = (1 ≤ e.leg.left) × (m.get n.kept (key_of e.leg) ≡ None)

-- at most as many legs are live as there are slots, their names differ, and each is open
pub record IsOrderly (n : NodeState) : Type 0 where
  pub few : length n.live ≤ n.slots
  pub apart : Apart n.live
  pub live : Each (IsOpen n) n.live

-- A leg that was started with b iterations left on a node of W slots is no longer live after b * W turns, whatever is
-- accepted between them, and its back is then kept.
abbrev pub BoundedWait : Type 0
BoundedWait =
    (n : NodeState) (l : Leg) (xs : List Move)
    → IsOrderly n → 1 ≤ l.left → (accept n l).1 ≡ Started → HaveLeft xs → l.left * n.slots ≤ count_turns xs
    → (find_live (moves (accept n l).0 xs).live (key_of l) ≡ None) × ((reply : Reply) × (m.get (moves (accept n l).0 xs).kept (key_of l) ≡ Some reply))

-- A leg that is started waits at most its iterations times the slots, and no other leg's wait changes.
abbrev pub StartedWait : Type 0
StartedWait =
    (n : NodeState) (l : Leg) → IsOrderly n → 1 ≤ l.left → (accept n l).1 ≡ Started
    → ((w : ℕ) × (wait (accept n l).0 (key_of l) ≡ Some w) × (w ≤ l.left * n.slots)) × ((q : LegKey) → q ≢ key_of l → wait (accept n l).0 q ≡ wait n q)

-- A turn of the first live leg lowers the wait of each leg that stays live by at least 1, and the sum of all waits.
abbrev pub TurnWait : Type 0
TurnWait =
    (n : NodeState) (e : LiveLeg) (es : List LiveLeg) (outcome : Outcome) → IsOrderly n → n.live ≡ e ∷ es
    → ((q : LegKey) (v : ℕ) → wait (turn n (key_of e.leg) outcome).0 q ≡ Some v → (w : ℕ) × (wait n q ≡ Some w) × (v + 1 ≤ w)) × (rest (turn n (key_of e.leg) outcome).0 + 1 ≤ rest n)
