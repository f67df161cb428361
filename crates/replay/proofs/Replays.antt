-- What was run and told is the replay of the scenario.
use Rattle.std.proofs.Common.{◌≡◌, List, length}
use Rattle.run_laws.specs.Flat.{Flat}
use Rattle.drain_run.specs.Drain.{Drains}
use Rattle.drain_run.proofs.Drained.{drain_drains}
use Rattle.event_run.specs.World.{WorldState, event_run}
use Rattle.event_run.specs.Always.{IsRun}
use Rattle.event_run.specs.Laws.{flat_start}
use Rattle.event_run.proofs.Start.{start_is_run}
use Rattle.scenario_text.specs.declared.scenario.Scenario.{Scenario}
use Rattle.scenario_text.specs.Accepted.{IsRunnable}
use Rattle.scenario_run.specs.Setting.{setting_of}
use Rattle.scenario_run.specs.Start.{start_of}
use Rattle.scenario_run.proofs.Settings.{setting_is}
use Rattle.scenario_run.proofs.Worlds.{start_is}
use Rattle.run_explained.proofs.Explained.{run_is_explained}
use Rattle.node_core.specs.Part.{PartState}
use Rattle.replay.specs.declared.scenario.Replayed.{Replayed}
use Rattle.replay.specs.Report.{IsReplayed, AreNodesOf, outcome_of, traces_of}

abbrev pub flat_of : (s : Scenario) → IsRunnable s → Flat
flat_of s h = flat_start (setting_of s h) (start_of s)

pub first_run : (s : Scenario) (h : IsRunnable s) → IsRun (setting_of s h) (flat_of s h) (start_of s)
first_run s h = start_is_run (setting_of s h) (start_of s) (setting_is s h) (start_is s h)

-- the world after the events and the drain
pub is_replayed : (s : Scenario) (h : IsRunnable s) (v : WorldState) (left : Replayed) (parts : List PartState)
    → Drains (setting_of s h) (event_run (setting_of s h) (start_of s) (s.plan).events) v → IsRun (setting_of s h) (flat_of s h) v
    → length v.asking ≡ length (s.plan).requests
    → left.outcome ≡ outcome_of s.plan (traces_of (setting_of s h) (start_of s) (s.plan).events) v → left.letters ≡ length v.letters
    → AreNodesOf s v parts → IsReplayed s left parts
is_replayed s h v left parts d run long told sent nodes = record {
  runnable = h;
  world = v;
  ran = record { drains = d };
  outcome = told;
  letters = sent;
  nodes = nodes;
  explained = run_is_explained s h v long run;
  answered = (drain_drains (setting_of s h) _ v d).done;
}
