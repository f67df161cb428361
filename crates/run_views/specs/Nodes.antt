-- A node, as the laws of runs see it: what it has of each leg by request and number, and the bytes of each region by its number.
use Rattle.std.specs.Prelude.{◌≡◌, ℕ, ◌<◌, ◌≤◌, true, List, [], ◌∷◌, length, Option, Some, None, nat_eq, if◌then◌else◌}
use Rattle.std.specs.FinMap as m
use Rattle.range_table.specs.Memory.{may_read}
use Rattle.range_table.specs.Memory as table
use Rattle.frame_codec.specs.declared.frame.Leg.{Leg}
use Rattle.frame_codec.specs.declared.frame.Back.{Back}
use Rattle.leg_ledger.specs.declared.leg.LegKey.{LegKey}
use Rattle.leg_ledger.specs.declared.leg.Reply.{Reply}
use Rattle.run_rules.specs.declared.node.NodeRegion.{NodeRegion}
use Rattle.run_rules.specs.declared.node.LiveLeg.{LiveLeg}
use Rattle.run_rules.specs.declared.node.Accepted.{Accepted}
use Rattle.run_rules.specs.declared.node.Accepted.TheVariants as accepted
use Rattle.run_rules.specs.declared.node.Fate.{Fate}
use Rattle.run_rules.specs.declared.node.Fate.TheVariants as fate
use Rattle.run_rules.specs.Node.{NodeState, find_live, spans_of, place_of, region_at}
use Rattle.run_rules.specs.Outcome.{Outcome}
use Rattle.run_rules.specs.Turning.{record_of, is_writable}
use Rattle.run_rules.specs.Waiting.{Each, IsOrderly}
use Rattle.run_laws.specs.Plan as p
use Rattle.run_laws.specs.Node as n
use Rattle.run_laws.specs.World as w
use Rattle.run_views.specs.Frames.{ending_view, leg_view, back_view}
use Rattle.run_views.specs.Setting.{Setting, owner_of, IsLegOf, IsBackOf}

abbrev pub slot_by : Option Reply → Option LiveLeg → n.Slot
slot_by (Some reply) e = n.Kept (back_view reply.back)
slot_by None (Some e) = n.Running (leg_view e.leg).now
slot_by None None = n.Fresh

-- what the node has of the leg of a name: its reply where one is kept, or the leg where it is live
abbrev pub slot_in : NodeState → LegKey → n.Slot
slot_in s q = slot_by (m.get s.kept q) (find_live s.live q)

-- the name of a request's leg
abbrev pub key_for : Setting → ℕ → ℕ → LegKey
key_for u r k = record { client = u.client r; request = r; leg = k }

-- the bytes of the region of a number
abbrev pub bytes_numbered : List NodeRegion → ℕ → List ℕ
bytes_numbered [] i = []
bytes_numbered (g ∷ regions) i = if nat_eq g.number i then g.bytes else bytes_numbered regions i

abbrev pub node_view : Setting → NodeState → n.Node
node_view u s = record { slot = λ r k. slot_in s (key_for u r k); bytes = λ i. bytes_numbered s.regions i }

-- the rule never answers Memory
abbrev pub accepted_view : Accepted → n.Accepted
accepted_view accepted.Foreign = n.Foreign
accepted_view (accepted.Answer back) = n.Replies (back_view back)
accepted_view accepted.Running = n.RunsAlready
accepted_view accepted.Elsewhere = n.Elsewhere
accepted_view accepted.Full = n.Full
accepted_view accepted.Started = n.Started
accepted_view accepted.Memory = n.Foreign

abbrev pub fate_view : Fate → n.Turned
fate_view (fate.Stays l) = n.Stays (leg_view l).now
fate_view (fate.Ends b) = n.Ends (back_view b).now (ending_view b.ending)

-- the back that a turn gives goes to the switch
abbrev pub sent_back : Option Back → List w.Letter
sent_back None = []
sent_back (Some b) = w.to_switch (p.AsBack (back_view b)) ∷ []

-- the iteration of a leg on this node
abbrev pub outcome_of : Setting → NodeState → Leg → Outcome
outcome_of u s l = u.iterate l.program (record_of s l) l.cur l.pad (is_writable s l)

-- ---- what is always true of node n

-- its regions are those of the table that it owns, each under its number there, and each once
pub record IsShare (u : Setting) (n : ℕ) (s : NodeState) : Type 0 where
  pub inside : (k : ℕ) → k < length s.regions → (region_at s k).number < length u.table
  pub spans : (k : ℕ) → k < length s.regions → (region_at s k).span ≡ table.region_at u.table (region_at s k).number
  pub owned : (k : ℕ) → k < length s.regions → owner_of u (region_at s k).number ≡ n
  pub whole : (i : ℕ) → i < length u.table → owner_of u i ≡ n → (k : ℕ) × (k < length s.regions) × ((region_at s k).number ≡ i)
  pub once : (k j : ℕ) → k < length s.regions → j < length s.regions → (region_at s k).number ≡ (region_at s j).number → k ≡ j
  pub filled : (k : ℕ) → k < length s.regions → length (region_at s k).bytes ≡ (region_at s k).span.len

-- a live leg is of its request, and its record is here and may be read
pub record IsLiveOf (u : Setting) (s : NodeState) (e : LiveLeg) : Type 0 where
  pub leg : IsLegOf u e.leg
  pub place : ℕ
  pub at : place_of s e.leg ≡ Some place
  pub reads : may_read (spans_of s.regions) place ≡ true

pub record IsNodeOf (u : Setting) (n : ℕ) (s : NodeState) : Type 0 where
  pub orderly : IsOrderly s
  pub some : 1 ≤ s.slots
  pub sizes : s.sizes ≡ u.sizes
  pub share : IsShare u n s
  pub live : Each (IsLiveOf u s) s.live
  pub kept : (q : LegKey) (reply : Reply) → m.get s.kept q ≡ Some reply → IsBackOf u reply.back
