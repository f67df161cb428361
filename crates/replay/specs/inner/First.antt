-- The world of a scenario before its first event, of nodes that stand as its first nodes do.
use Rattle.std.specs.Prelude.{[], List, map}
use Rattle.code_image.specs.declared.image.Image.{Image}
use Rattle.scenario_text.specs.declared.scenario.Scenario.{Scenario}
use Rattle.world_core.specs.Scene.{Member, Scene}
use Rattle.scenario_parts.specs.Clients.{first_clients}
use Rattle.scenario_parts.specs.Switch.{first_switch}

abbrev pub first_scene : Scenario → List Image → List Member → Scene
first_scene s images nodes = record {
  switch = first_switch s;
  images = images;
  homes = map (λ q. q.client) (s.plan).requests;
  nodes = nodes;
  clients = first_clients s.plan images 0 (s.plan).clients;
  letters = [];
  order = [];
}
