-- A node's fields as the state that contracts see, and what holds of the fields.
use Rattle.std.specs.Prelude.{◌≡◌, ℕ, ◌≤◌, List, [], ◌∷◌, map, Option, option_map}
use Rattle.std.specs.FinMap as m
use Rattle.std.specs.VecDeque.{deque_capacity}
use Rattle.leg_ledger.specs.declared.leg.LegKey.{LegKey}
use Rattle.leg_ledger.specs.declared.leg.LegState.{LegState}
use Rattle.leg_ledger.specs.declared.leg.LegState.TheVariants.{Started, Ended}
use Rattle.leg_ledger.specs.Legs.{Legs, running_region}
use Rattle.run_rules.specs.declared.node.NodeRegion.{NodeRegion}
use Rattle.run_rules.specs.declared.node.LiveLeg.{LiveLeg}
use Rattle.run_rules.specs.Node.{Kept, find_live, spans_of}
use Rattle.node_core.specs.declared.held.Held.{Held}
use Rattle.node_core.specs.declared.node.Node.TheInside.{Inside}
use Rattle.node_core.specs.Part.{PartState, IsPart, sizes_of}

abbrev pub held_view : Held → NodeRegion
held_view h = record { number = h.number; span = h.span; bytes = h.bytes.items }

-- of the entries of a ledger those that ended
abbrev pub put_state : Kept → LegKey → LegState → Kept
put_state kept k (Ended reply) = m.insert kept k reply
put_state kept k (Started region) = m.remove kept k

abbrev pub kept_in : List (LegKey × LegState) → Kept
kept_in [] = m.empty
kept_in (e ∷ es) = put_state (kept_in es) e.0 e.1

abbrev pub kept_of : Legs → Kept
kept_of legs = kept_in (m.entries legs)

abbrev pub part_view : Inside → PartState
part_view n = record {
  node = record { regions = map held_view n.regions.items; sizes = map sizes_of n.images; slots = n.slots; kept = kept_of n.ledger; live = n.live.items };
  images = n.images;
}

-- the region at which the live leg of a name was started
abbrev pub live_region : List LiveLeg → LegKey → Option ℕ
live_region live q = option_map (λ (e : LiveLeg). e.region) (find_live live q)

-- the table is that of the regions, the ledger's running legs are the live ones, and there is room for as many as
-- there are slots
pub record IsNode (n : Inside) : Type 0 where
  pub part : IsPart (part_view n)
  pub table : n.table ≡ spans_of (map held_view n.regions.items)
  pub running : (q : LegKey) → running_region n.ledger q ≡ live_region n.live.items q
  pub room : n.slots ≤ deque_capacity n.live
