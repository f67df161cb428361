-- What a spine explains of its request, and what is always true of a spine.
use Rattle.std.specs.Prelude.{◌≡◌, ℕ, suc, ◌<◌, ◌≤◌, ◌⊎◌, List, [], ◌∷◌, length, Option, Some, None}
use Rattle.run_laws.specs.Plan.{Unmapped, NotReadable, Progress, Leg, Fault, Back, Frame, AsLeg, AsBack, back_of, Begun, Begins, Finished, Faulted, Plan, Arrival, Here, Barred, Nowhere, arrive}
use Rattle.run_laws.specs.Flat.{FlatRequest, Silent, due}
use Rattle.run_laws.specs.Node.{Slot, Kept}
use Rattle.run_laws.specs.Client.{Asking, NotAsked, Asked, Answered}
use Rattle.run_laws.specs.Spines.Spine.{Hop, Rerouted, Resumed, Final, ByDone, ByFault, ByBar, ByLimit, Stand, Held, Waiting, Live, Ended, Spine, fresh, entry, sent_leg, became, slot_of, resumes, count, flat_of, round_start}

abbrev pub IsHere : Arrival → Type 0
IsHere (Here i) = Unit {0}
IsHere Barred = ⊥
IsHere Nowhere = ⊥

-- a leg begins, and goes on, with 1 to budget iterations left
pub record Within (P : Plan) (a : Progress) : Type 0 where
  pub some : 1 ≤ a.left
  pub most : a.left ≤ P.budget

-- each leg before the newest was started: its first record was here
abbrev pub Ran : Plan → ℕ → List Hop → Type 0
Ran P r [] = Unit {0}
Ran P r (h ∷ past) = IsHere (arrive P r (entry P r past).cur) × Ran P r past

-- only a leg after a Resume is held, and the first
abbrev pub HeldFits : List Hop → Type 0
HeldFits [] = Unit {0}
HeldFits (Rerouted a ∷ past) = ⊥
HeldFits (Resumed a ∷ past) = Unit {0}

abbrev pub FinalFits : Plan → ℕ → List Hop → Final → Type 0
FinalFits P r past (ByDone a) = Unit {0}
FinalFits P r past (ByFault kind a) = Unit {0}
FinalFits P r past (ByBar a) = Within P a × (arrive P r a.cur ≡ Barred)
FinalFits P r past (ByLimit a) = (a.left ≡ 0) × (suc (resumes past) ≡ P.rounds)

-- a live leg: its record may be read, and is on the node on which the leg was started
pub record LiveFits (P : Plan) (r : ℕ) (past : List Hop) (a : Progress) : Type 0 where
  pub region : ℕ
  pub place : ℕ
  pub began : P.region r (entry P r past).cur ≡ Some region
  pub stands : arrive P r a.cur ≡ Here place
  pub same : P.owner place ≡ P.owner region
  pub spent : a.left ≤ (entry P r past).left
  pub within : Within P a

abbrev pub StandFits : Plan → ℕ → List Hop → Stand → Type 0
StandFits P r past Held = HeldFits past
StandFits P r past Waiting = Unit {0}
StandFits P r past (Live a) = IsHere (arrive P r (entry P r past).cur) × LiveFits P r past a
StandFits P r past (Ended e) = IsHere (arrive P r (entry P r past).cur) × FinalFits P r past e

-- a request whose init ends it has no leg at all
abbrev pub BegunFits : Begun → Spine → Type 0
BegunFits (Begins cur pad) s = Unit {0}
BegunFits (Finished pad) s = s ≡ fresh
BegunFits Faulted s = s ≡ fresh

pub record IsSpine (P : Plan) (r : ℕ) (s : Spine) : Type 0 where
  pub rounds : resumes s.past < P.rounds
  pub entered : Within P (entry P r s.past)
  pub many : length s.past ≤ count P s.past (entry P r s.past).left
  pub ran : Ran P r s.past
  pub stands : StandFits P r s.past s.stand
  pub begun : BegunFits (P.first r) s

-- the client is in the round that the spine has reached; where the newest leg is held, in the round before
abbrev pub RoundBefore : Plan → ℕ → List Hop → Leg → ℕ → Type 0
RoundBefore P r [] leg accepted = ⊥
RoundBefore P r (h ∷ past) leg accepted = (leg ≡ round_start P r past) × (accepted ≡ resumes past)

abbrev pub InRound : Plan → ℕ → List Hop → Stand → Leg → ℕ → Type 0
InRound P r past Held leg accepted = RoundBefore P r past leg accepted
InRound P r past Waiting leg accepted = (leg ≡ round_start P r past) × (accepted ≡ resumes past)
InRound P r past (Live a) leg accepted = (leg ≡ round_start P r past) × (accepted ≡ resumes past)
InRound P r past (Ended e) leg accepted = (leg ≡ round_start P r past) × (accepted ≡ resumes past)

abbrev pub AskingFits : Plan → ℕ → Spine → Asking → Type 0
AskingFits P r s NotAsked = s ≡ fresh
AskingFits P r s (Asked leg accepted ticks) = InRound P r s.past s.stand leg accepted
AskingFits P r s (Answered a) = (a ≡ Silent) ⊎ (due P r (flat_of P r s) ≡ Some a)

-- An early back is of a leg at whose own first record there is nothing to read. No node keeps it.
abbrev pub blocked : Leg → Arrival → Option Back
blocked l (Here i) = None
blocked l Barred = Some (back_of l.request l.number l.now (Fault NotReadable))
blocked l Nowhere = Some (back_of l.request l.number l.now (Fault Unmapped))

abbrev pub early : Plan → Leg → Option Back
early P l = blocked l (arrive P l.request l.now.cur)

-- a frame that may be among the letters: a leg that was sent, what a node keeps, or an early back
abbrev pub BackFits : Plan → Spine → Back → Type 0
BackFits P s b = (became b.request s.past s.stand b.number ≡ Kept b)
    ⊎ ((l : Leg) × (sent_leg P b.request s.past s.stand b.number ≡ Some l) × (early P l ≡ Some b))

abbrev pub FrameFits : Plan → (ℕ → Spine) → Frame → Type 0
FrameFits P s (AsLeg l) = sent_leg P l.request (s l.request).past (s l.request).stand l.number ≡ Some l
FrameFits P s (AsBack b) = BackFits P (s b.request) b

-- what is there of one request: its flat state, its slots by node and leg, and its client's state
pub record RequestView : Type 0 where
  pub flat : FlatRequest
  pub slot : ℕ → ℕ → Slot
  pub asking : Asking

pub record Fits (P : Plan) (r : ℕ) (v : RequestView) (s : Spine) : Type 0 where
  pub spine : IsSpine P r s
  pub flat : v.flat ≡ flat_of P r s
  pub slots : (n k : ℕ) → v.slot n k ≡ slot_of P r s.past s.stand n k
  pub asking : AskingFits P r s v.asking
