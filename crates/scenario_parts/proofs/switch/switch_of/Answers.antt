use Rattle.std.proofs.Common.{map, ap, ◌∙◌}
use Rattle.scenario_text.specs.declared.plan.PlanRegion.{PlanRegion}
use Rattle.scenario_parts.proofs.Lists.{nodes_are, low_nodes}
use Rattle.scenario_parts.proofs.switch.switch_of.Goals as goal

pub make-requires-clause-nodes : goal.make-requires-clause-nodes
make-requires-clause-nodes c = nodes_are c.args.plan.now.regions c.in_ok-owners.owners (c.in_ok-owners.ensures ∙ ap (map (λ (r : PlanRegion). r.node)) c.as_slice-2.ensures) (low_nodes c.args.plan.now.nodes c.args.plan.now.regions c.requires.nodes.1 c.requires.regions.placed)
