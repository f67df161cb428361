-- Where a region of a plan lies in a scene.
use Rattle.std.specs.Prelude.{◌≡◌, ℕ, List, length, Some, slice_get}
use Rattle.run_rules.specs.declared.node.NodeRegion.{NodeRegion}
use Rattle.node_core.specs.Part.{place_by}
use Rattle.scenario_text.specs.declared.plan.PlanRegion.{PlanRegion}
use Rattle.world_core.specs.Scene.{Member, Scene}

-- the node of region i of a plan is there and has it, with as many bytes
pub record IsHeld (nodes : List Member) (i : ℕ) (r : PlanRegion) : Type 0 where
  pub member : Member
  pub stands : slice_get nodes r.node ≡ Some member
  pub place : ℕ
  pub region : NodeRegion
  pub at : place_by member.part i ≡ Some place
  pub there : slice_get member.part.node.regions place ≡ Some region
  pub long : length region.bytes ≡ length r.bytes

abbrev pub AreHeld : Scene → List PlanRegion → Type 0
AreHeld s regions = (i : ℕ) (r : PlanRegion) → slice_get regions i ≡ Some r → IsHeld s.nodes i r
