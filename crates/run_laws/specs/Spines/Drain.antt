-- One step of the drain for a request: the last letter is delivered, and its node turns until it is idle.
use Rattle.std.specs.Prelude.{◌≡◌, ◌≢◌, ℕ, zero, suc, ◌+◌, ◌-◌, ◌*◌, ◌<◌, ◌≤◌, ◌⊎◌, List, [], ◌∷◌, ◌++◌, Some}
use Rattle.run_laws.specs.Plan.{Progress, Leg, Reroute, Frame, AsLeg, AsBack, Plan, limit}
use Rattle.run_laws.specs.Flat.{Flat, Answer}
use Rattle.run_laws.specs.Node.{Running, Node}
use Rattle.run_laws.specs.Client.{Asked, Answered}
use Rattle.run_laws.specs.World.{To, ToSwitch, ToNode, ToClient, Letter, World, Delivered, TurnMade}
use Rattle.run_laws.specs.Spines.Sound.{IsSound}

abbrev pub IsIdle : Node → Type 0
IsIdle v = (r k : ℕ) (a : Progress) → v.slot r k ≡ Running a → ⊥

abbrev pub AllIdle : World → Type 0
AllIdle w = (n : ℕ) → IsIdle (w.nodes n)

-- A letter of leg j of request r, and its rank: a leg to the switch 3, a leg to the owner of its record's region 2, a back to the
-- switch 1, and a back to the client 0, which is no Reroute.
abbrev pub StageBy : Plan → ℕ → ℕ → ℕ → To → Frame → Type 0
StageBy P r j rank ToSwitch (AsLeg l) = (l.request ≡ r) × (l.number ≡ j) × (rank ≡ 3)
StageBy P r j rank (ToNode n) (AsLeg l) = (l.request ≡ r) × (l.number ≡ j) × (rank ≡ 2) × ((i : ℕ) × (P.region l.request l.now.cur ≡ Some i) × (P.owner i ≡ n))
StageBy P r j rank ToSwitch (AsBack b) = (b.request ≡ r) × (b.number ≡ j) × (rank ≡ 1)
StageBy P r j rank ToClient (AsBack b) = (b.request ≡ r) × (b.number ≡ j) × (rank ≡ 0) × (b.ending ≢ Reroute)
StageBy P r j rank (ToNode n) (AsBack b) = ⊥
StageBy P r j rank ToClient (AsLeg l) = ⊥

-- The last letter is of request r, whose client waits at that leg or one before it, and no leg is live.
pub record Draining (P : Plan) (w : World) (r j rank : ℕ) (last : Letter) : Type 0 where
  pub earlier : List Letter
  pub stands : w.letters ≡ earlier ++ last ∷ []
  pub stage : StageBy P r j rank last.to last.frame
  pub leg : Leg
  pub accepted : ℕ
  pub ticks : ℕ
  pub asking : w.asking r ≡ Asked leg accepted ticks
  pub reached : leg.number ≤ j
  pub idle : AllIdle w

-- so many turns of node n, until it is idle
abbrev pub Settles : Plan → ℕ → ℕ → World → World → Type 0
Settles P n zero u v = (v ≡ u) × IsIdle (u.nodes n)
Settles P n (suc m) u v = (x : World) × TurnMade P n u x × Settles P n m x v

abbrev pub SettlesAt : Plan → To → World → World → Type 0
SettlesAt P ToSwitch u v = v ≡ u
SettlesAt P ToClient u v = v ≡ u
SettlesAt P (ToNode n) u v = (m : ℕ) × Settles P n m u v

-- how far the last letter is from an answer
abbrev pub measure : Plan → ℕ → ℕ → ℕ
measure P j rank = 4 * (limit P + 1 - j) + rank

pub record GoesOn (P : Plan) (w : World) (r : ℕ) (bound : ℕ) : Type 0 where
  pub number : ℕ
  pub rank : ℕ
  pub last : Letter
  pub drains : Draining P w r number rank last
  pub less : measure P number rank < bound

-- a step gives the answer, or leaves a last letter that is nearer to it
abbrev pub DrainAdvances : Type 0
DrainAdvances =
    (P : Plan) (start : Flat) (w u v : World) (r j rank : ℕ) (last : Letter)
    → IsSound P start w → Draining P w r j rank last → Delivered P w u last.to last.frame → SettlesAt P last.to u v
    → ((x : Answer) × (v.asking r ≡ Answered x)) ⊎ GoesOn P v r (measure P j rank)
