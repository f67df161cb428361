-- A node: what it has of each leg, and the bytes of its regions. Its rules are relations, since which live leg a turn takes is free.
use Rattle.std.specs.Prelude.{◌≡◌, ℕ, ◌-◌, ◌⊎◌, ◌&&◌, Bool, true, false, List, nat_eq, if◌then◌else◌}
use Rattle.run_laws.specs.Plan.{NotReadable, Progress, Leg, Ending, Done, Reroute, Resume, Fault, Back, back_of, Outcome, Finishes, Goes, Faults, Plan, Arrival, Here, Barred, Nowhere, arrive_on, put}
use Rattle.run_laws.specs.Flat.{new_bytes}

-- what a node has of a leg: nothing, a live leg, or the back that it keeps for good
pub data Slot : Type 0 where
  Fresh : Slot
  Running : Progress → Slot
  Kept : Back → Slot

-- `slot` is by request and leg number, `bytes` by region
pub record Node : Type 0 where
  pub slot : ℕ → ℕ → Slot
  pub bytes : ℕ → List ℕ

abbrev pub put_at : (ℕ → ℕ → Slot) → ℕ → ℕ → Slot → ℕ → ℕ → Slot
put_at f n k x m j = if nat_eq m n && nat_eq j k then x else f m j

abbrev pub with_slot : Node → ℕ → ℕ → Slot → Node
with_slot v r k x = record v { slot = put_at v.slot r k x }

-- some leg is live: a node whose slots are all taken has one, as it has at least one slot
pub record IsBusy (v : Node) : Type 0 where
  pub request : ℕ
  pub leg : ℕ
  pub now : Progress
  pub runs : v.slot request leg ≡ Running now

-- the answers of accepting a leg
pub data Accepted : Type 0 where
  Foreign : Accepted
  Replies : Back → Accepted
  RunsAlready : Accepted
  Elsewhere : Accepted
  Full : Accepted
  Started : Accepted

-- A leg is answered with the back that is kept, or with NotReadable where its record is on a region here that may not be read.
-- Only a leg that is fresh, and whose record is here, is started. No leg of a run is foreign.
abbrev pub Accepts : Plan → ℕ → Node → Node → Leg → Accepted → Type 0
Accepts P n old new l Foreign = ⊥
Accepts P n old new l (Replies b) = (new ≡ old) × ((old.slot l.request l.number ≡ Kept b) ⊎ ((arrive_on P n l.request l.now.cur ≡ Barred) × (b ≡ back_of l.request l.number l.now (Fault NotReadable))))
Accepts P n old new l RunsAlready = (new ≡ old) × ((a : Progress) × (old.slot l.request l.number ≡ Running a))
Accepts P n old new l Elsewhere = (new ≡ old) × (arrive_on P n l.request l.now.cur ≡ Nowhere)
Accepts P n old new l Full = (new ≡ old) × IsBusy old
Accepts P n old new l Started = (old.slot l.request l.number ≡ Fresh) × ((i : ℕ) × (arrive_on P n l.request l.now.cur ≡ Here i)) × (new ≡ with_slot old l.request l.number (Running l.now))

-- how a turn leaves a leg
pub data Turned : Type 0 where
  Stays : Progress → Turned
  Ends : Progress → Ending → Turned

abbrev pub came_to : ℕ → List ℕ → ℕ → Progress
came_to to pad left = record { cur = to; pad = pad; left = left }

-- a leg with iterations left goes on where its next record is here, and is rerouted where no region of this node holds it
abbrev pub goes_to : Progress → Arrival → Turned
goes_to a (Here i) = Stays a
goes_to a Barred = Ends a (Fault NotReadable)
goes_to a Nowhere = Ends a Reroute

abbrev pub goes_on : Progress → Bool → Arrival → Turned
goes_on a true to = Ends a Resume
goes_on a false to = goes_to a to

-- what becomes of request r's leg on node n by an iteration
abbrev pub turned : Plan → ℕ → ℕ → Progress → Outcome → Turned
turned P n r a (Finishes bytes pad) = Ends (came_to 0 pad (a.left - 1)) Done
turned P n r a (Goes to bytes pad) = goes_on (came_to to pad (a.left - 1)) (nat_eq (a.left - 1) 0) (arrive_on P n r to)
turned P n r a (Faults kind) = Ends a (Fault kind)

abbrev pub turned_slot : ℕ → ℕ → Turned → Slot
turned_slot r k (Stays a) = Running a
turned_slot r k (Ends a e) = Kept (back_of r k a e)

-- A turn of node n for a live leg, any one: an iteration on the region here that holds its record. The leg stays live, or its back is kept.
pub record Iterates (P : Plan) (n : ℕ) (old new : Node) (r k : ℕ) (t : Turned) : Type 0 where
  pub now : Progress
  pub region : ℕ
  pub is_live : old.slot r k ≡ Running now
  pub here : arrive_on P n r now.cur ≡ Here region
  pub left : t ≡ turned P n r now (P.iterate r region (old.bytes region) now.cur now.pad)
  pub changes : new ≡ record { slot = put_at old.slot r k (turned_slot r k t); bytes = put old.bytes region (new_bytes (old.bytes region) (P.iterate r region (old.bytes region) now.cur now.pad)) }
