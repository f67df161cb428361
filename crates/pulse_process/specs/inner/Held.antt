-- Which regions of a plan a node has.
use Rattle.std.specs.Prelude.{◌≡◌, ℕ, suc, List, [], ◌∷◌, ◌++◌, length, Some, is_some, slice_get, if◌then◌else◌}
use Rattle.run_rules.specs.declared.node.NodeRegion.{NodeRegion}
use Rattle.run_rules.specs.Node.{spans_of}
use Rattle.run_views.specs.Nodes.{bytes_numbered}
use Rattle.node_core.specs.Part.{PartState, numbers_of, place_by}
use Rattle.report_text.specs.Report.{region_line}
use Rattle.scenario_text.specs.declared.plan.PlanRegion.{PlanRegion}

-- the node has region i of a plan, with as many bytes
pub record IsHeld (p : PartState) (i : ℕ) (r : PlanRegion) : Type 0 where
  pub place : ℕ
  pub region : NodeRegion
  pub at : place_by p i ≡ Some place
  pub there : slice_get p.node.regions place ≡ Some region
  pub long : length region.bytes ≡ length r.bytes

-- where the node has region i of a plan, it has its span
abbrev pub HasSpan : PartState → (i : ℕ) → PlanRegion → Type 0
HasSpan p i r = (place : ℕ) (region : NodeRegion) → place_by p i ≡ Some place → slice_get p.node.regions place ≡ Some region → region.span ≡ r.span

abbrev pub HaveSpans : PartState → List PlanRegion → Type 0
HaveSpans p regions = (i : ℕ) (r : PlanRegion) → slice_get regions i ≡ Some r → HasSpan p i r

-- the same regions, whatever their bytes are now
pub record SameRegions (old new : PartState) : Type 0 where
  pub numbers : numbers_of new.node.regions ≡ numbers_of old.node.regions
  pub spans : spans_of new.node.regions ≡ spans_of old.node.regions

-- the line of region i of a plan, where the node has it, and the lines of all from region i on
abbrev pub line_here : PartState → (i : ℕ) → PlanRegion → List ℕ
line_here p i r = if is_some (place_by p i) then region_line i (record { shown = r.shown; bytes = bytes_numbered p.node.regions i }) else []

abbrev pub lines_here : PartState → (i : ℕ) → List PlanRegion → List ℕ
lines_here p i [] = []
lines_here p i (r ∷ regions) = line_here p i r ++ lines_here p (suc i) regions
