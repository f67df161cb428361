-- The switch: where it sends what it makes of a frame.
use Rattle.std.specs.Prelude.{ℕ, ◌+◌, ◌-◌, ◌^◌, Bool, List, length, Option, Some, None, nat_eq, nat_lt, ◌&&◌, slice_index_or, if◌then◌else◌}
use Rattle.pulse_base.specs.declared.answer.FaultKind.TheVariants as fault
use Rattle.range_table.specs.declared.region.RegionSpan.{RegionSpan}
use Rattle.range_table.specs.Memory.{region_of}
use Rattle.frame_codec.specs.declared.frame.Leg.{Leg}
use Rattle.frame_codec.specs.declared.frame.Back.{Back}
use Rattle.frame_codec.specs.declared.frame.Ending.{Ending}
use Rattle.frame_codec.specs.declared.frame.Ending.TheVariants as ending
use Rattle.frame_codec.specs.declared.frame.Frame.{Frame}
use Rattle.frame_codec.specs.declared.frame.Frame.TheVariants as frame
use Rattle.run_rules.specs.declared.switch.Out.{Out}
use Rattle.run_rules.specs.declared.switch.Out.TheVariants.{ToNode, ToClient, Nothing}
use Rattle.run_rules.specs.Node.{back_of}

-- all regions, the node that owns each, the bytes of a record of each program, and how many clients there are
pub record SwitchState : Type 0 where
  pub table : List RegionSpan
  pub owners : List ℕ
  pub sizes : List ℕ
  pub clients : ℕ

-- rule 1, by the region that holds the leg's record: its owner has the leg; where there is none the walk has ended
abbrev pub sent_to : SwitchState → Leg → Option ℕ → Out
sent_to s l (Some i) = ToNode (slice_index_or s.owners i 0) l
sent_to s l None = ToClient l.client (back_of l (ending.Fault fault.Unmapped))

abbrev pub route : SwitchState → Leg → Out
route s l = sent_to s l (region_of s.table l.cur (slice_index_or s.sizes l.program 0))

-- the leg that goes on where a back was rerouted, with the same left, cur and pad
abbrev pub next_leg : Back → Leg
next_leg b = record { client = b.client; request = b.request; leg = b.leg + 1; program = b.program; left = b.left; cur = b.cur; pad = b.pad }

-- rules 2 and 3: a Reroute of the last number gives nothing
abbrev pub pass_back : SwitchState → Back → Ending → Out
pass_back s b ending.Reroute = if nat_eq b.leg (2 ^ 32 - 1) then Nothing else route s (next_leg b)
pass_back s b ending.Done = ToClient b.client b
pass_back s b ending.Resume = ToClient b.client b
pass_back s b (ending.Fault kind) = ToClient b.client b

-- rule 4 goes first: a Stop, an unknown program and an unknown client give nothing
abbrev pub is_known : SwitchState → (client program : ℕ) → Bool
is_known s client program = nat_lt client s.clients && nat_lt program (length s.sizes)

abbrev pub on : SwitchState → Frame → Out
on s (frame.Leg l) = if is_known s l.client l.program then route s l else Nothing
on s (frame.Back b) = if is_known s b.client b.program then pass_back s b b.ending else Nothing
on s frame.Stop = Nothing
