-- What is to be believed of a world of a scenario's run, by the flat run of the same scenario, which has no nodes and no letters.
use Rattle.std.specs.Prelude.{◌≡◌, ℕ, ◌⊎◌, Option, Some, None, option_map, slice_get}
use Rattle.pulse_base.specs.declared.answer.Answer.{Answer}
use Rattle.pulse_base.specs.declared.answer.Answer.TheVariants.{Silent}
use Rattle.run_rules.specs.declared.client.Asking.TheVariants.{Answered}
use Rattle.scenario_text.specs.declared.plan.PlanRegion.{PlanRegion}
use Rattle.scenario_text.specs.declared.scenario.Scenario.{Scenario}
use Rattle.flat_run.specs.declared.state.FlatRegion.{FlatRegion}
use Rattle.flat_run.specs.Run.{Legal}
use Rattle.flat_run.specs.Due.{due}
use Rattle.run_views.specs.Nodes.{bytes_numbered}
use Rattle.event_run.specs.World.{WorldState}
use Rattle.scenario_flat.specs.Runs.{walks_of, limit_of, first_of, after}

-- the node is there, and has in region i the bytes of this region of the flat memory, which is there too
abbrev pub HoldsRegion : WorldState → (node i : ℕ) → Option FlatRegion → Type 0
HoldsRegion w node i (Some g) = option_map (λ n. bytes_numbered n.regions i) (slice_get w.nodes node) ≡ Some g.bytes
HoldsRegion w node i None = ⊥

-- The order of the world is legal, the nodes hold the flat memory after it, each region on the node that owns it, and each answer
-- is silent or due.
pub record IsExplained (s : Scenario) (w : WorldState) : Type 0 where
  pub legal : Legal (walks_of s) (limit_of s.plan) (first_of s) w.order
  pub memory : (i : ℕ) (r : PlanRegion) → slice_get (s.plan).regions i ≡ Some r → HoldsRegion w r.node i (slice_get (after s w.order).regions i)
  pub answers : (r : ℕ) (a : Answer) → slice_get w.asking r ≡ Some (Answered a)
      → (a ≡ Silent) ⊎ (due (walks_of s) (limit_of s.plan) (after s w.order) r ≡ Some a)
