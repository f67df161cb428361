-- What it takes that a node starts a leg, and what becomes of a leg that goes on.
use Rattle.std.specs.Prelude.{◌≡◌, ℕ, ◌<◌, true, false, length, Some, None, nat_eq, if◌then◌else◌}
use Rattle.std.specs.FinMap as m
use Rattle.range_table.specs.Memory.{may_read}
use Rattle.frame_codec.specs.declared.frame.Leg.{Leg}
use Rattle.frame_codec.specs.declared.frame.Ending.TheVariants as ending
use Rattle.run_rules.specs.declared.node.Fate.{Fate}
use Rattle.run_rules.specs.declared.node.Fate.TheVariants as fate
use Rattle.run_rules.specs.Node.{NodeState, key_of, back_of, find_live, spans_of, place_of}
use Rattle.run_rules.specs.Accepting.{is_foreign}
use Rattle.run_rules.specs.Turning.{fate_at}

-- a leg may be started
pub record MayStart (n : NodeState) (l : Leg) : Type 0 where
  pub known : is_foreign n l ≡ false
  pub unkept : m.get n.kept (key_of l) ≡ None
  pub idle : find_live n.live (key_of l) ≡ None
  pub room : length n.live < n.slots
  pub place : ℕ
  pub at : place_of n l ≡ Some place
  pub reads : may_read (spans_of n.regions) place ≡ true

-- a leg that goes on, as it stands after its iteration
abbrev pub fate_after : NodeState → Leg → Fate
fate_after n l = if nat_eq l.left 0 then fate.Ends (back_of l ending.Resume) else fate_at n l (place_of n l)
