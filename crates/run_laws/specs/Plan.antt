-- What stays the same in a run: which region holds a record, who owns the region, how each request begins and iterates, and how
-- many iterations it may make. Regions, nodes and requests are numbers, and none of them is out of range.
use Rattle.std.specs.Prelude.{ℕ, ◌*◌, ◌≤◌, Bool, List, [], Option, Some, None, nat_eq, if◌then◌else◌}

-- the faults of a walk; an iteration itself gives the last two
pub data FaultKind : Type 0 where
  Unmapped : FaultKind
  NotReadable : FaultKind
  NotWritable : FaultKind
  DivZero : FaultKind

-- where a walk is: its pointer, its pad and the iterations that its leg may still make
pub record Progress : Type 0 where
  pub cur : ℕ
  pub pad : List ℕ
  pub left : ℕ

-- A walk under way, by request and leg number. The client and the program of a request are functions of it, and stand in no frame.
pub record Leg : Type 0 where
  pub request : ℕ
  pub number : ℕ
  pub now : Progress

pub data Ending : Type 0 where
  Done : Ending
  Reroute : Ending
  Resume : Ending
  Fault : FaultKind → Ending

-- how a leg ended
pub record Back : Type 0 where
  pub request : ℕ
  pub number : ℕ
  pub now : Progress
  pub ending : Ending

pub data Frame : Type 0 where
  AsLeg : Leg → Frame
  AsBack : Back → Frame

abbrev pub leg_of : ℕ → ℕ → Progress → Leg
leg_of r k a = record { request = r; number = k; now = a }

abbrev pub back_of : ℕ → ℕ → Progress → Ending → Back
back_of r k a e = record { request = r; number = k; now = a; ending = e }

-- What the init of a request gives: a pointer and a pad, a pad where it is done at once, or a division by zero.
pub data Begun : Type 0 where
  Begins : ℕ → List ℕ → Begun
  Finished : List ℕ → Begun
  Faulted : Begun

-- What one iteration gives: the region's bytes after it with the pad, and a pointer where the walk goes on. A fault gives neither.
pub data Outcome : Type 0 where
  Finishes : (bytes pad : List ℕ) → Outcome
  Goes : (to : ℕ) (bytes pad : List ℕ) → Outcome
  Faults : FaultKind → Outcome

-- `region` names the region that holds a request's record at a pointer. `iterate` takes request, region, its bytes, pointer and pad.
pub record Plan : Type 0 where
  pub region : ℕ → ℕ → Option ℕ
  pub readable : ℕ → Bool
  pub owner : ℕ → ℕ
  pub first : ℕ → Begun
  pub iterate : ℕ → ℕ → List ℕ → ℕ → List ℕ → Outcome
  pub budget : ℕ
  pub rounds : ℕ
  pub some_budget : 1 ≤ budget
  pub some_rounds : 1 ≤ rounds

-- the iterations that a request may make in all
abbrev pub limit : Plan → ℕ
limit P = P.rounds * P.budget

-- What a walk meets at a pointer: a region that may be read, one that may not, or none.
pub data Arrival : Type 0 where
  Here : ℕ → Arrival
  Barred : Arrival
  Nowhere : Arrival

abbrev pub arrival : Plan → Option ℕ → Arrival
arrival P None = Nowhere
arrival P (Some i) = if P.readable i then Here i else Barred

-- in the flat memory, which has all regions
abbrev pub arrive : Plan → ℕ → ℕ → Arrival
arrive P r cur = arrival P (P.region r cur)

-- the region, where it is this node's
abbrev pub owned : Plan → ℕ → Option ℕ → Option ℕ
owned P n None = None
owned P n (Some i) = if nat_eq (P.owner i) n then Some i else None

-- on a node, which has its own regions alone
abbrev pub arrive_on : Plan → ℕ → ℕ → ℕ → Arrival
arrive_on P n r cur = arrival P (owned P n (P.region r cur))

-- the leg's iterations are what a round has
abbrev pub refilled : Plan → Progress → Progress
refilled P a = record a { left = P.budget }

abbrev pub first_progress : ℕ → Begun → Progress
first_progress budget (Begins cur pad) = record { cur = cur; pad = pad; left = budget }
first_progress budget (Finished pad) = record { cur = 0; pad = pad; left = budget }
first_progress budget Faulted = record { cur = 0; pad = []; left = budget }

-- a function that is changed at one number
abbrev pub put : {A : Type 0} → (ℕ → A) → ℕ → A → ℕ → A
put f r x q = if nat_eq q r then x else f q
