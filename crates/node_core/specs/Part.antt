-- What a run sees of a node, what is true of it at every moment, and what its calls do.
use Rattle.std.specs.Prelude.{◌≡◌, ◌≢◌, ℕ, ◌+◌, ◌^◌, ◌≤◌, true, false, List, [], ◌∷◌, length, map, sum, take, drop, Option, Some, None, IsSome, nat_eq, position, slice_get, AllPairs}
use Rattle.std.specs.FinMap as m
use Rattle.std.specs.List.Sorted.{IsPermutation}
use Rattle.range_table.specs.declared.region.RegionSpan.{RegionSpan}
use Rattle.range_table.specs.Memory.{may_read}
use Rattle.range_table.specs.Table.{IsTable}
use Rattle.code_image.specs.declared.image.Image.{Image}
use Rattle.frame_codec.specs.declared.frame.Leg.{Leg}
use Rattle.frame_codec.specs.declared.frame.Frame.TheVariants as frame
use Rattle.frame_codec.specs.Spelling.{MeetsRules}
use Rattle.leg_ledger.specs.declared.leg.LegKey.{LegKey}
use Rattle.leg_ledger.specs.declared.leg.Reply.{Reply}
use Rattle.run_rules.specs.declared.node.NodeRegion.{NodeRegion}
use Rattle.run_rules.specs.declared.node.ProgramSizes.{ProgramSizes}
use Rattle.run_rules.specs.declared.node.LiveLeg.{LiveLeg}
use Rattle.run_rules.specs.declared.node.Accepted.{Accepted}
use Rattle.run_rules.specs.declared.node.Accepted.TheVariants as accepted
use Rattle.run_rules.specs.Outcome.{Outcome}
use Rattle.run_rules.specs.Node.{NodeState, Kept, key_of, find_live, spans_of, place_of}
use Rattle.run_rules.specs.Accepting.{is_foreign, accept}
use Rattle.run_rules.specs.Turning.{turn, record_of, is_writable}
use Rattle.run_rules.specs.Waiting.{Each, Apart}
use Rattle.node_core.specs.declared.part.Turned.{Turned}
use Rattle.node_core.specs.declared.part.Turned.TheVariants as turned
use Rattle.node_core.specs.Code.{code_run}

-- a node by the rules, with the images of its programs
pub record PartState : Type 0 where
  pub node : NodeState
  pub images : List Image

abbrev pub sizes_of : Image → ProgramSizes
sizes_of i = record { record_size = i.record_size; pad_size = i.pad_size }

-- ---- regions

abbrev pub numbers_of : List NodeRegion → List ℕ
numbers_of regions = map (λ r. r.number) regions

-- what a node may hold: regions of a table, of which no two have the same number, each with as many bytes as its
-- length, and at most 2^24 bytes in all
pub record IsRegions (regions : List NodeRegion) : Type 0 where
  pub table : IsTable (spans_of regions)
  pub numbers : AllPairs ◌≢◌ (numbers_of regions)
  pub bytes : map (λ (r : NodeRegion). length r.bytes) regions ≡ map (λ (s : RegionSpan). s.len) (spans_of regions)
  pub total : sum (map (λ (s : RegionSpan). s.len) (spans_of regions)) ≤ 2 ^ 24

-- the place of the region of a number
abbrev pub place_by : PartState → ℕ → Option ℕ
place_by p number = position (λ (r : NodeRegion). nat_eq r.number number) p.node.regions

abbrev pub IsHere : PartState → ℕ → Type 0
IsHere p number = IsSome (place_by p number)

-- the region of this number is here, and has so many bytes from `at` on
abbrev pub HoldsRange : PartState → ℕ → ℕ → ℕ → Type 0
HoldsRange p number at count = (i : ℕ) × (r : NodeRegion) × (place_by p number ≡ Some i) × (slice_get p.node.regions i ≡ Some r) × (at + count ≤ length r.bytes)

-- these are the bytes of the region of this number from `at` on
abbrev pub IsRange : PartState → ℕ → ℕ → List ℕ → Type 0
IsRange p number at bytes = (i : ℕ) (r : NodeRegion) → place_by p number ≡ Some i → slice_get p.node.regions i ≡ Some r → bytes ≡ take (length bytes) (drop at r.bytes)

-- ---- at every moment

-- a live leg can make its next iteration: it has one left, its program is known and its pad of the program's size, its
-- record lies in a region here that may be read, and no reply of it is kept
pub record CanRun (n : NodeState) (e : LiveLeg) : Type 0 where
  pub rules : MeetsRules (frame.Leg e.leg)
  pub known : is_foreign n e.leg ≡ false
  pub unkept : m.get n.kept (key_of e.leg) ≡ None
  pub place : ℕ
  pub at : place_of n e.leg ≡ Some place
  pub reads : may_read (spans_of n.regions) place ≡ true

-- each back that is kept meets the rules of its fields
abbrev pub KeptFits : Kept → Type 0
KeptFits kept = (q : LegKey) (reply : Reply) → m.get kept q ≡ Some reply → MeetsRules (frame.Back reply.back)

pub record IsPart (p : PartState) : Type 0 where
  pub regions : IsRegions p.node.regions
  pub sizes : p.node.sizes ≡ map sizes_of p.images
  pub some : 1 ≤ p.node.slots
  pub slots : p.node.slots ≤ 64
  pub few : length p.node.live ≤ p.node.slots
  pub apart : Apart p.node.live
  pub live : Each (CanRun p.node) p.node.live
  pub kept : KeptFits p.node.kept

-- a part of these, on which nothing is kept or live
abbrev pub new_part : List NodeRegion → List Image → ℕ → PartState
new_part regions images slots = record {
  node = record { regions = regions; sizes = map sizes_of images; slots = slots; kept = m.empty; live = [] };
  images = images;
}

-- ---- its calls

-- the answer and the node are the rule's; where there was no memory to start the leg, nothing changed
abbrev pub HasAccepted : Accepted → PartState → PartState → Leg → Type 0
HasAccepted accepted.Memory old new l = ((accept old.node l).1 ≡ accepted.Started) × (new ≡ old)
HasAccepted answer old new l = ((accept old.node l).1 ≡ answer) × (new ≡ record old { node = (accept old.node l).0 })

-- the run of the code of the live leg of this name on its record as it stands
abbrev pub ran_by : PartState → Option LiveLeg → Outcome
ran_by p None = code_run p.images (record { client = 0; request = 0; leg = 0; program = 0; left = 0; cur = 0; pad = [] }) [] false
ran_by p (Some e) = code_run p.images e.leg (record_of p.node e.leg) (is_writable p.node e.leg)

abbrev pub ran : PartState → LegKey → Outcome
ran p q = ran_by p (find_live p.node.live q)

-- at most the turn order of the live legs changed
abbrev pub Reordered : PartState → PartState → LegKey → Type 0
Reordered old new q = IsSome (find_live old.node.live q) × (new ≡ record old { node = record old.node { live = new.node.live } }) × IsPermutation old.node.live new.node.live

-- an iteration of the live leg of a name, whole, by the rule; nothing but the turn order; or nothing
abbrev pub HasTurned : Turned → PartState → PartState → Type 0
HasTurned (turned.Iterated q back) old new =
    IsSome (find_live old.node.live q) × (new ≡ record old { node = (turn old.node q (ran old q)).0 }) × (back ≡ (turn old.node q (ran old q)).1)
HasTurned (turned.Part q) old new = Reordered old new q
HasTurned (turned.Waits q) old new = Reordered old new q
HasTurned turned.Idle old new = (old.node.live ≡ []) × (new ≡ old)

-- the turn is an iteration of the first live leg
abbrev pub IsFirstOf : Turned → List LiveLeg → Type 0
IsFirstOf t [] = Unit {0}
IsFirstOf (turned.Iterated q back) (e ∷ es) = q ≡ key_of e.leg
IsFirstOf (turned.Part q) (e ∷ es) = ⊥
IsFirstOf (turned.Waits q) (e ∷ es) = ⊥
IsFirstOf turned.Idle (e ∷ es) = ⊥

abbrev pub IsFirst : Turned → PartState → Type 0
IsFirst t p = IsFirstOf t p.node.live
