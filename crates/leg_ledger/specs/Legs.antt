-- The legs of a ledger: a finite map from keys to what is known of each leg.
use Rattle.std.specs.Prelude.{◌≡◌, ℕ, Option, Some, None, IsSome, unwrap_or}
use Rattle.std.specs.Ordering.{nat_cmp, on, then_cmp}
use Rattle.std.specs.declared.cmp.Ordering.{Ordering}
use Rattle.std.specs.FinMap as map
use Rattle.frame_codec.specs.declared.frame.Back.{Back}
use Rattle.leg_ledger.specs.declared.ledger.Entering.{Entering}
use Rattle.leg_ledger.specs.declared.ledger.Entering.TheVariants.{Entered, Running, Kept, Memory}
use Rattle.leg_ledger.specs.declared.leg.LegKey.{LegKey}
use Rattle.leg_ledger.specs.declared.leg.LegState.{LegState}
use Rattle.leg_ledger.specs.declared.leg.LegState.TheVariants.{Started, Ended}
use Rattle.leg_ledger.specs.declared.leg.Reply.{Reply}

-- keys in the order of their clients, then requests, then legs
abbrev pub key_cmp : LegKey → LegKey → Ordering
key_cmp = then_cmp (on (λ k. k.client) nat_cmp) (then_cmp (on (λ k. k.request) nat_cmp) (on (λ k. k.leg) nat_cmp))

abbrev pub Legs : Type 0
Legs = map.FinMap key_cmp LegState

abbrev pub reply_in : Option LegState → Option Reply
reply_in None = None
reply_in (Some (Started region)) = None
reply_in (Some (Ended reply)) = Some reply

abbrev pub region_in : Option LegState → Option ℕ
region_in None = None
region_in (Some (Started region)) = Some region
region_in (Some (Ended reply)) = None

-- the reply that is kept of a key
abbrev pub kept_reply : Legs → LegKey → Option Reply
kept_reply legs key = reply_in (map.get legs key)

-- the region of a key that is entered and has no reply
abbrev pub running_region : Legs → LegKey → Option ℕ
running_region legs key = region_in (map.get legs key)

-- what `enter` answers, and the legs that it leaves: a new key is started at the region, unless there is no memory;
-- at a key that runs or whose reply is kept nothing changes
abbrev pub Enters : Entering → Legs → Legs → LegKey → ℕ → Type 0
Enters Entered old new key region = (map.get old key ≡ None) × (new ≡ map.insert old key (Started region))
Enters Running old new key region = IsSome (running_region old key) × (new ≡ old)
Enters Kept old new key region = IsSome (kept_reply old key) × (new ≡ old)
Enters Memory old new key region = (map.get old key ≡ None) × (new ≡ old)

-- the legs once the key has ended with this back, at the region where it was started
abbrev pub ended : Legs → LegKey → Back → Legs
ended legs key back = map.insert legs key (Ended (record { back = back; region = unwrap_or (running_region legs key) 0 }))

-- each reply that was kept is kept unchanged
abbrev pub KeepsReplies : Legs → Legs → Type 0
KeepsReplies old new = (key : LegKey) (reply : Reply) → kept_reply old key ≡ Some reply → kept_reply new key ≡ Some reply
