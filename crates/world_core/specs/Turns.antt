-- One turn of a node of a world.
use Rattle.std.specs.Prelude.{◌≡◌, ℕ, List, [], Some, IsSome, slice_get, slice_set}
use Rattle.std.specs.List.Sorted.{IsPermutation}
use Rattle.pulse_base.specs.declared.event.Trace.{Trace}
use Rattle.pulse_base.specs.declared.event.Trace.TheVariants as trace
use Rattle.leg_ledger.specs.declared.leg.LegKey.{LegKey}
use Rattle.run_rules.specs.declared.node.LiveLeg.{LiveLeg}
use Rattle.run_rules.specs.Waiting.{Apart}
use Rattle.run_rules.specs.Node.{NodeState, key_of, find_live}
use Rattle.run_views.specs.Setting.{Setting}
use Rattle.event_run.specs.World.{WorldState, turns}

-- node n makes an iteration of a live leg
pub record Iterates (u : Setting) (old new : WorldState) (n : ℕ) (t : Trace) : Type 0 where
  pub node : NodeState
  pub stands : slice_get old.nodes n ≡ Some node
  pub leg : LiveLeg
  pub live : find_live node.live (key_of leg.leg) ≡ Some leg
  pub step : (new, t) ≡ turns u old n node leg

-- at most the turn order of node n's live legs changes, of which this one is passed over
pub record PassesOver (old new : WorldState) (n : ℕ) (q : LegKey) : Type 0 where
  pub node : NodeState
  pub stands : slice_get old.nodes n ≡ Some node
  pub live : IsSome (find_live node.live q)
  pub order : List LiveLeg
  pub same : IsPermutation node.live order
  pub apart : Apart order
  pub left : new ≡ record old { nodes = slice_set old.nodes n (record node { live = order }) }

-- no leg of node n is live, and nothing changes
pub record IsIdle (old new : WorldState) (n : ℕ) : Type 0 where
  pub node : NodeState
  pub stands : slice_get old.nodes n ≡ Some node
  pub none : node.live ≡ []
  pub same : new ≡ old

abbrev pub TurnsSo : Setting → (old new : WorldState) → (n : ℕ) → Trace → Type 0
TurnsSo u old new n (trace.Iterated request sent) = Iterates u old new n (trace.Iterated request sent)
TurnsSo u old new n (trace.Part request) = (q : LegKey) × (q.request ≡ request) × PassesOver old new n q
TurnsSo u old new n (trace.Waits request) = (q : LegKey) × (q.request ≡ request) × PassesOver old new n q
TurnsSo u old new n trace.Idle = IsIdle old new n
TurnsSo u old new n (trace.Sent k) = ⊥
TurnsSo u old new n trace.Answered = ⊥
TurnsSo u old new n trace.Again = ⊥
TurnsSo u old new n trace.Silent = ⊥
TurnsSo u old new n trace.Nothing = ⊥
TurnsSo u old new n trace.Missed = ⊥
TurnsSo u old new n trace.Started = ⊥
TurnsSo u old new n trace.Running = ⊥
TurnsSo u old new n trace.Full = ⊥
TurnsSo u old new n trace.Foreign = ⊥
TurnsSo u old new n trace.Stale = ⊥
