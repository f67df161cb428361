-- What a step of a replay does to a world, in every setting that the world is of.
use Rattle.std.specs.Prelude.{◌≡◌, Bool, List, [], IsTrue, map, if◌then◌else◌}
use Rattle.pulse_base.specs.declared.event.Event.{Event}
use Rattle.pulse_base.specs.declared.event.Trace.{Trace}
use Rattle.run_laws.specs.Flat.{Flat}
use Rattle.run_rules.specs.Waiting.{Each}
use Rattle.run_views.specs.Setting.{Setting, IsSetting}
use Rattle.event_run.specs.World.{event_run}
use Rattle.event_run.specs.Always.{HasNumbers, IsRun}
use Rattle.world_core.specs.Scene.{Member, Scene, world_of}
use Rattle.world_core.specs.Runs.{IsSceneOf}
use Rattle.replay.specs.Report.{traces_of}

-- each turn of each node is an iteration of its first live leg
abbrev pub AllPlain : Scene → Type 0
AllPlain s = Each (λ (m : Member). IsTrue m.plain) s.nodes

-- what no step changes: switch, images, the home of each request, and which nodes are plain
pub record Lasts (old new : Scene) : Type 0 where
  pub switch : new.switch ≡ old.switch
  pub images : new.images ≡ old.images
  pub homes : new.homes ≡ old.homes
  pub plain : map (λ (m : Member). m.plain) new.nodes ≡ map (λ (m : Member). m.plain) old.nodes

-- the events one after the other, and what each did where that is told
abbrev pub RunsEvents : (old new : Scene) → List Event → Bool → List Trace → Type 0
RunsEvents old new events told traces = (u : Setting) (start : Flat) → IsSetting u → HasNumbers u → IsSceneOf u old → IsRun u start (world_of old)
    → (world_of new ≡ event_run u (world_of old) events)
    × (traces ≡ (if told then traces_of u (world_of old) events else []))
    × IsSceneOf u new × IsRun u start (world_of new)
