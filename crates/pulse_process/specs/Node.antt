-- What a process that is a node leaves, and what it tells.
use Rattle.std.specs.Prelude.{◌≡◌, ℕ, suc, ◌+◌, ◌<◌, true, List, [], ◌∷◌, ◌++◌, codes, nat_eq, Option, if◌then◌else◌}
use Rattle.pulse_base.specs.Link.{Traffic}
use Rattle.code_image.specs.declared.image.Image.{Image}
use Rattle.run_rules.specs.declared.node.NodeRegion.{NodeRegion}
use Rattle.node_core.specs.Part.{PartState}
use Rattle.run_views.specs.Nodes.{bytes_numbered}
use Rattle.pulse_codegen.specs.Compiled.{CompilesAll}
use Rattle.report_text.specs.Report.{region_line}
use Rattle.scenario_text.specs.declared.plan.PlanRegion.{PlanRegion}
use Rattle.scenario_text.specs.declared.scenario.Scenario.{Scenario}
use Rattle.scenario_parts.specs.Parts.{first_part}
use Rattle.pulse_serve.specs.Runs.{Serves}
use Rattle.pulse_serve.specs.NodeRun.{node_loop}
use Rattle.pulse_process.specs.declared.told.Told.{Told}
use Rattle.pulse_process.specs.Bound.{BoundTo, end_of}

-- the lines of the regions of node n, from region i of a plan on, with the bytes that the node has
abbrev pub region_lines : (n : ℕ) → List NodeRegion → (i : ℕ) → List PlanRegion → List ℕ
region_lines n own i [] = []
region_lines n own i (r ∷ regions) =
    (if nat_eq r.node n then region_line i (record { shown = r.shown; bytes = bytes_numbered own i }) else []) ++ region_lines n own (suc i) regions

abbrev pub node_text : Scenario → (n : ℕ) → PartState → List ℕ
node_text s n part = region_lines n part.node.regions 0 (s.plan).regions ++ codes "end\n"

-- node n of the scenario served over the link so many turns at most, and is this part now
pub record IsNode (s : Scenario) (n turns : ℕ) (net now : Option Traffic) (told : Told) (part : PartState) : Type 0 where
  pub there : n < (s.plan).nodes
  pub images : List Image
  pub compiled : CompilesAll s.checked images
  pub serves : BoundTo ((s.plan).port + 1 + n) net now (λ rs ss. Serves (node_loop true (s.plan).port) turns (end_of told.finished) (first_part s images n) rs part ss)
  pub text : told.text ≡ node_text s n part
