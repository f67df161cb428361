-- The drain of a world that is in a run, whatever the run's setting.
use Rattle.std.specs.Prelude.{◌≡◌, IsTrue, map}
use Rattle.run_rules.specs.Waiting.{Each}
use Rattle.run_laws.specs.Flat.{Flat}
use Rattle.run_views.specs.Setting.{Setting, IsSetting}
use Rattle.event_run.specs.World.{WorldState}
use Rattle.event_run.specs.Always.{HasNumbers, IsRun}
use Rattle.drain_run.specs.Drain.{Drains}
use Rattle.world_core.specs.Scene.{Member, Scene, world_of, lasting_of}
use Rattle.world_core.specs.Runs.{IsSceneOf}

-- a moment of a run of this setting, which began with this flat memory
abbrev pub RunsBy : Setting → Flat → Scene → Type 0
RunsBy u start s = IsSetting u × HasNumbers u × IsSceneOf u s × IsRun u start (world_of s)

-- each turn of a node is an iteration of its first live leg
abbrev pub AllPlain : Scene → Type 0
AllPlain s = Each (λ (m : Member). IsTrue m.plain) s.nodes

-- there is such a run
abbrev pub CanRun : Scene → Type 0
CanRun s = (u : Setting) × (start : Flat) × RunsBy u start s

-- of whatever run the old scene is a moment, the new one is too
abbrev pub KeepsRuns : (old new : Scene) → Type 0
KeepsRuns old new = (u : Setting) (start : Flat) → RunsBy u start old → RunsBy u start new

-- of whatever run the old scene is a moment, its world became the new one so
abbrev pub Becomes : (Setting → Flat → WorldState → WorldState → Type 0) → (old new : Scene) → Type 0
Becomes how old new = (u : Setting) (start : Flat) → RunsBy u start old → how u start (world_of old) (world_of new)

-- the drain of the run's world
abbrev pub DrainSo : (old new : Scene) → Type 0
DrainSo old new =
    (u : Setting) (start : Flat) → IsSetting u → HasNumbers u → IsSceneOf u old → IsRun u start (world_of old)
    → Drains u (world_of old) (world_of new) × IsSceneOf u new

-- what no number of events changes
pub record Lasts (old new : Scene) : Type 0 where
  pub switch : new.switch ≡ old.switch
  pub images : new.images ≡ old.images
  pub homes : new.homes ≡ old.homes
  pub clients : map lasting_of new.clients ≡ map lasting_of old.clients
  pub plain : map (λ m. m.plain) new.nodes ≡ map (λ m. m.plain) old.nodes
