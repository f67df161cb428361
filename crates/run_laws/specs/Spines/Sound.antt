-- Sound: each request has a spine that explains what is there of it, each letter is of a spine, and the nodes hold the flat memory.
use Rattle.std.specs.Prelude.{◌≡◌, ℕ, ◌<◌, List, [], ◌∷◌, Some, slice_get, IsTrue}
use Rattle.run_laws.specs.Plan.{Progress, Back, Frame, AsLeg, AsBack, Plan, limit}
use Rattle.run_laws.specs.Flat.{Flat, flat_run, is_legal}
use Rattle.run_laws.specs.Node.{Running, Kept}
use Rattle.run_laws.specs.World.{Letter, World, Event, Happens}
use Rattle.run_laws.specs.Laws.{IsFirst, Explained}
use Rattle.run_laws.specs.Spines.Spine.{Spine}
use Rattle.run_laws.specs.Spines.Fits.{FrameFits, RequestView, Fits}

-- P holds of each item
abbrev pub Each : {A : Type 0} → (A → Type 0) → List A → Type 0
Each P [] = Unit {0}
Each P (x ∷ xs) = P x × Each P xs

abbrev pub view : World → Flat → ℕ → RequestView
view w f r = record { flat = f.requests r; slot = λ n k. (w.nodes n).slot r k; asking = w.asking r }

pub record IsSound (P : Plan) (start : Flat) (w : World) : Type 0 where
  pub spines : ℕ → Spine
  pub fits : (r : ℕ) → Fits P r (view w (flat_run P start w.order) r) (spines r)
  pub letters : Each (λ m. FrameFits P spines m.frame) w.letters
  pub memory : (i : ℕ) → (w.nodes (P.owner i)).bytes i ≡ (flat_run P start w.order).regions i
  pub legal : IsTrue (is_legal P start w.order)

-- the first world is sound
abbrev pub FirstIsSound : Type 0
FirstIsSound = (P : Plan) (start : Flat) (w : World) → IsFirst P start w → IsSound P start w

-- each event keeps it
abbrev pub EachEventKeeps : Type 0
EachEventKeeps =
    (P : Plan) (tries : ℕ) (start : Flat) (w v : World) (e : Event)
    → IsSound P start w → Happens P tries w v e → IsSound P start v

-- a sound world is explained
abbrev pub SoundExplains : Type 0
SoundExplains = (P : Plan) (start : Flat) (w : World) → IsSound P start w → Explained P start w

-- Sentences that follow.
-- At most one leg of a request is live, over all nodes.
abbrev pub OneLive : World → Type 0
OneLive w = (n m r k j : ℕ) (x y : Progress) → (w.nodes n).slot r k ≡ Running x → (w.nodes m).slot r j ≡ Running y → (n ≡ m) × (k ≡ j)

-- A back is kept on one node alone.
abbrev pub KeptAlone : World → Type 0
KeptAlone w = (n m r k : ℕ) (b c : Back) → (w.nodes n).slot r k ≡ Kept b → (w.nodes m).slot r k ≡ Kept c → (n ≡ m) × (b ≡ c)

-- The backs that were sent of one leg are equal.
abbrev pub BacksEqual : World → Type 0
BacksEqual w =
    (i j : ℕ) (x y : Letter) (b c : Back) → slice_get w.letters i ≡ Some x → slice_get w.letters j ≡ Some y → x.frame ≡ AsBack b → y.frame ≡ AsBack c
    → b.request ≡ c.request → b.number ≡ c.number → b ≡ c

-- A leg's number is below the iterations that its request may make in all.
abbrev pub number_in : Frame → ℕ
number_in (AsLeg l) = l.number
number_in (AsBack b) = b.number

abbrev pub NumbersLow : Plan → World → Type 0
NumbersLow P w = (k : ℕ) (m : Letter) → slice_get w.letters k ≡ Some m → number_in m.frame < limit P

pub record Says (P : Plan) (w : World) : Type 0 where
  pub one_live : OneLive w
  pub kept_alone : KeptAlone w
  pub backs_equal : BacksEqual w
  pub numbers_low : NumbersLow P w

abbrev pub SoundSays : Type 0
SoundSays = (P : Plan) (start : Flat) (w : World) → IsSound P start w → Says P w
