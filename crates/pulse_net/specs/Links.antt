-- What a link in memory holds, and what a call does to its counts.
use Rattle.std.specs.Prelude.{◌≡◌, ℕ, ◌+◌, ◌-◌, ◌^◌, min, Bool, List, [], ◌∷◌, length, map, drop, take, Contains, Result, Ok, Err}
use Rattle.pulse_base.specs.InMemory.{next}
use Rattle.pulse_base.specs.Link.{Traffic, Receipt, next_item, later_items}
use Rattle.pulse_base.specs.Link as link
use Rattle.pulse_net.specs.declared.item.Item.{Item}
use Rattle.pulse_net.specs.declared.item.Item.TheVariants.{Frame, Gap}
use Rattle.pulse_net.specs.declared.item.Sent.{Sent}

-- its traffic, the numbers of the calls that fail, calls made, calls that failed
pub record LinkState : Type 0 where
  pub traffic : Traffic
  pub fails : List ℕ
  pub calls : ℕ
  pub faults : ℕ

abbrev pub item_of : Item → link.Item
item_of (Frame port bytes) = link.frame port bytes
item_of Gap = link.gap

abbrev pub sent_of : Sent → link.Sent
sent_of s = record { port = s.port; bytes = s.bytes }

abbrev pub waits_of : List Receipt → List Bool
waits_of receipts = map (λ r. r.wait) receipts

-- the receipts of receives that took these items in order, with gaps after the last
abbrev pub receipts : List link.Item → List Bool → List Receipt
receipts items [] = []
receipts items (w ∷ ws) = record { wait = w; item = next_item items } ∷ receipts (later_items items) ws

-- a receive has taken an item for each of the waits
abbrev pub traffic_of : List Item → List Bool → List Sent → List ℕ → Traffic
traffic_of items waits sent bound = record {
  incoming = map item_of (drop (length waits) items);
  taken = receipts (map item_of items) waits;
  sent = map sent_of sent;
  bound = bound;
}

abbrev pub new_link : List Item → List ℕ → LinkState
new_link items fails = record { traffic = record { incoming = map item_of items; taken = []; sent = []; bound = [] }; fails = fails; calls = 0; faults = 0 }

-- each call is counted, and one that fails is counted as a fault too
abbrev pub Counts : {T E : Type 0} → LinkState → LinkState → Result T E → Type 0
Counts old now (Ok x) = now ≡ record old { traffic = now.traffic; calls = next old.calls }
Counts old now (Err e) = now ≡ record old { calls = next old.calls; faults = next old.faults }

-- the buffer begins with so many bytes of a frame: all of them, or as many as it holds
abbrev pub IsFront : List ℕ → List ℕ → ℕ → Type 0
IsFront bytes buf len = (len ≡ min (length bytes) (length buf)) × (take len buf ≡ take len bytes)
