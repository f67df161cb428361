-- Two things that hold of every run by themselves, whatever is delivered: what letters, slots and clients carry has the shape of its
-- request; and each back that a node keeps was sent.
use Rattle.std.specs.Prelude.{◌≡◌, ℕ, ◌≤◌, List, length, Some, slice_get}
use Rattle.run_laws.specs.Plan.{Progress, Ending, Done, Reroute, Resume, Fault, Back, Frame, AsLeg, AsBack, Begun, Begins, Finished, Faulted, Outcome, Finishes, Goes, Faults, Plan}
use Rattle.run_laws.specs.Flat.{Flat}
use Rattle.run_laws.specs.Node.{Slot, Fresh, Running, Kept}
use Rattle.run_laws.specs.Client.{Asking, NotAsked, Asked, Answered}
use Rattle.run_laws.specs.World.{Letter, World, Event, Happens}
use Rattle.run_laws.specs.Laws.{IsFirst}
use Rattle.run_laws.specs.Spines.Sound.{Each}

-- the bytes of each request's pad, and of each region
pub record Shape : Type 0 where
  pub pad : ℕ → ℕ
  pub region : ℕ → ℕ

-- a pad of that size, and at most the budget left
pub record IsShaped (P : Plan) (size : ℕ) (a : Progress) : Type 0 where
  pub pad : length a.pad ≡ size
  pub left : a.left ≤ P.budget

abbrev pub BegunShaped : ℕ → Begun → Type 0
BegunShaped size (Begins cur pad) = length pad ≡ size
BegunShaped size (Finished pad) = Unit {0}
BegunShaped size Faulted = Unit {0}

abbrev pub OutcomeShaped : (size region : ℕ) → Outcome → Type 0
OutcomeShaped size region (Finishes bytes pad) = (length bytes ≡ region) × (length pad ≡ size)
OutcomeShaped size region (Goes to bytes pad) = (length bytes ≡ region) × (length pad ≡ size)
OutcomeShaped size region (Faults kind) = Unit {0}

-- the requests begin with such pads, and iterations keep them and the lengths of regions
pub record KeepsShape (P : Plan) (S : Shape) : Type 0 where
  pub begins : (r : ℕ) → BegunShaped (S.pad r) (P.first r)
  pub iterates : (r i : ℕ) (bytes : List ℕ) (cur : ℕ) (pad : List ℕ) → P.region r cur ≡ Some i → length bytes ≡ S.region i → length pad ≡ S.pad r
      → OutcomeShaped (S.pad r) (S.region i) (P.iterate r i bytes cur pad)

-- a leg has an iteration left, and so has a back that becomes a leg
abbrev pub EndingLeft : Ending → Progress → Type 0
EndingLeft Reroute a = 1 ≤ a.left
EndingLeft Done a = Unit {0}
EndingLeft Resume a = Unit {0}
EndingLeft (Fault kind) a = Unit {0}

abbrev pub FrameShaped : Plan → Shape → Frame → Type 0
FrameShaped P S (AsLeg l) = IsShaped P (S.pad l.request) l.now × (1 ≤ l.now.left)
FrameShaped P S (AsBack b) = IsShaped P (S.pad b.request) b.now × EndingLeft b.ending b.now

abbrev pub SlotShaped : Plan → Shape → ℕ → Slot → Type 0
SlotShaped P S r Fresh = Unit {0}
SlotShaped P S r (Running a) = IsShaped P (S.pad r) a × (1 ≤ a.left)
SlotShaped P S r (Kept b) = FrameShaped P S (AsBack b)

abbrev pub AskingShaped : Plan → Shape → Asking → Type 0
AskingShaped P S NotAsked = Unit {0}
AskingShaped P S (Asked leg accepted ticks) = FrameShaped P S (AsLeg leg)
AskingShaped P S (Answered a) = Unit {0}

pub record Shaped (P : Plan) (S : Shape) (w : World) : Type 0 where
  pub letters : Each (λ m. FrameShaped P S m.frame) w.letters
  pub slots : (n r k : ℕ) → SlotShaped P S r ((w.nodes n).slot r k)
  pub asking : (r : ℕ) → AskingShaped P S (w.asking r)
  pub memory : (i : ℕ) → length ((w.nodes (P.owner i)).bytes i) ≡ S.region i

abbrev pub EachEventKeepsShape : Type 0
EachEventKeepsShape =
    (P : Plan) (S : Shape) (tries : ℕ) (w v : World) (e : Event)
    → KeepsShape P S → Shaped P S w → Happens P tries w v e → Shaped P S v

-- each back that a node keeps is among the letters
pub record IsAmong (letters : List Letter) (f : Frame) : Type 0 where
  pub place : ℕ
  pub letter : Letter
  pub stands : slice_get letters place ≡ Some letter
  pub frame : letter.frame ≡ f

abbrev pub KeptWasSent : World → Type 0
KeptWasSent w = (n r k : ℕ) (b : Back) → (w.nodes n).slot r k ≡ Kept b → IsAmong w.letters (AsBack b)

abbrev pub EachEventKeepsSent : Type 0
EachEventKeepsSent = (P : Plan) (tries : ℕ) (w v : World) (e : Event) → KeptWasSent w → Happens P tries w v e → KeptWasSent v

-- before the first event both hold, where the regions have their lengths
abbrev pub FirstCarries : Type 0
FirstCarries =
    (P : Plan) (S : Shape) (start : Flat) (w : World)
    → IsFirst P start w → ((i : ℕ) → length (start.regions i) ≡ S.region i) → Shaped P S w × KeptWasSent w
