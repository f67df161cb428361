-- What holds of the world of a scenario before its first event.
use Rattle.std.specs.Prelude.{◌≡◌, [], List, length}
use Rattle.code_image.specs.declared.image.Image.{Image}
use Rattle.scenario_text.specs.declared.scenario.Scenario.{Scenario}
use Rattle.scenario_text.specs.Accepted.{IsRunnable}
use Rattle.scenario_run.specs.Setting.{setting_of}
use Rattle.scenario_run.specs.Start.{start_of}
use Rattle.world_core.specs.Scene.{Scene, world_of}
use Rattle.world_core.specs.Runs.{IsSceneOf}
use Rattle.scenario_parts.specs.Switch.{first_switch}
use Rattle.replay.specs.inner.Runs.{AllPlain}

-- it is the first world of the scenario and belongs to its setting, with these images, and nothing was sent
pub record IsMade (s : Scenario) (images : List Image) (w : Scene) : Type 0 where
  pub start : world_of w ≡ start_of s
  pub belongs : (h : IsRunnable s) → IsSceneOf (setting_of s h) w
  pub plain : AllPlain w
  pub switch : w.switch ≡ first_switch s
  pub copied : w.images ≡ images
  pub nodes : length w.nodes ≡ (s.plan).nodes
  pub homes : length w.homes ≡ length (s.plan).requests
  pub letters : w.letters ≡ []
