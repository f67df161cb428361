-- A node makes a turn: one iteration of a live leg, whose outcome is handed in, and what then becomes of the leg.
use Rattle.std.specs.Prelude.{ℕ, ◌-◌, Bool, false, List, [], ◌∷◌, ◌++◌, Option, Some, None, nat_eq, if◌then◌else◌}
use Rattle.std.specs.FinMap as m
use Rattle.pulse_base.specs.Cause.{kind_of}
use Rattle.pulse_base.specs.declared.answer.FaultKind.TheVariants as fault
use Rattle.range_table.specs.Memory.{may_read, may_write}
use Rattle.frame_codec.specs.declared.frame.Leg.{Leg}
use Rattle.frame_codec.specs.declared.frame.Back.{Back}
use Rattle.frame_codec.specs.declared.frame.Ending.TheVariants as ending
use Rattle.leg_ledger.specs.declared.leg.LegKey.{LegKey}
use Rattle.run_rules.specs.declared.node.LiveLeg.{LiveLeg}
use Rattle.run_rules.specs.declared.node.Fate.{Fate}
use Rattle.run_rules.specs.declared.node.Fate.TheVariants.{Stays, Ends}
use Rattle.run_rules.specs.Outcome.{Outcome, Done, Goes, Faults, record_after}
use Rattle.run_rules.specs.Node.{NodeState, key_of, back_of, same_key, find_live, spans_of, place_of, record_in, with_record}

-- the leg after an iteration that took effect
abbrev pub moved : Leg → ℕ → List ℕ → Leg
moved l to pad = record l { left = l.left - 1; cur = to; pad = pad }

-- a leg with iterations left, by the place of the region here that holds its next record
abbrev pub fate_at : NodeState → Leg → Option ℕ → Fate
fate_at n l None = Ends (back_of l ending.Reroute)
fate_at n l (Some i) = if may_read (spans_of n.regions) i then Stays l else Ends (back_of l (ending.Fault fault.NotReadable))

-- a fault leaves cur, pad and left; done has cur 0; a leg that goes on resumes at the client, or at another node, or
-- is not permitted to read, or stays
abbrev pub fate_of : NodeState → Leg → Outcome → Fate
fate_of n l (Faults cause) = Ends (back_of l (ending.Fault (kind_of cause)))
fate_of n l (Done bytes pad) = Ends (back_of (moved l 0 pad) ending.Done)
fate_of n l (Goes to bytes pad) =
    if nat_eq (moved l to pad).left 0 then Ends (back_of (moved l to pad) ending.Resume) else fate_at n (moved l to pad) (place_of n (moved l to pad))

-- the record after the iteration in its region, where there is one
abbrev pub stored : NodeState → Leg → Outcome → Option ℕ → NodeState
stored n l outcome None = n
stored n l outcome (Some i) = with_record n l i (record_after outcome (record_in n l i))

-- the live legs without the one of a name
abbrev pub without : List LiveLeg → LegKey → List LiveLeg
without [] q = []
without (e ∷ es) q = if same_key q (key_of e.leg) then es else e ∷ without es q

-- a leg that stays goes to the back of the turn order; the back of a leg that ended is kept
abbrev pub settled : NodeState → LiveLeg → Fate → NodeState
settled n e (Stays l) = record n { live = without n.live (key_of e.leg) ++ record { leg = l; region = e.region } ∷ [] }
settled n e (Ends b) = record n { live = without n.live (key_of e.leg); kept = m.insert n.kept (key_of e.leg) (record { back = b; region = e.region }) }

-- the back of a leg that ended
abbrev pub back_in : Fate → Option Back
back_in (Stays l) = None
back_in (Ends b) = Some b

abbrev pub turn_of : NodeState → Option LiveLeg → Outcome → NodeState × Option Back
turn_of n None outcome = (n, None)
turn_of n (Some e) outcome = (settled (stored n e.leg outcome (place_of n e.leg)) e (fate_of n e.leg outcome), back_in (fate_of n e.leg outcome))

-- the node after a turn of the live leg of this name, and the back of the leg where it ended
abbrev pub turn : NodeState → LegKey → Outcome → NodeState × Option Back
turn n q outcome = turn_of n (find_live n.live q) outcome

-- ---- what the iteration is made on

abbrev pub record_by : NodeState → Leg → Option ℕ → List ℕ
record_by n l None = []
record_by n l (Some i) = record_in n l i

-- the bytes of the leg's record here
abbrev pub record_of : NodeState → Leg → List ℕ
record_of n l = record_by n l (place_of n l)

abbrev pub writable_by : NodeState → Option ℕ → Bool
writable_by n None = false
writable_by n (Some i) = may_write (spans_of n.regions) i

-- whether it may be written
abbrev pub is_writable : NodeState → Leg → Bool
is_writable n l = writable_by n (place_of n l)
