use Rattle.std.proofs.Common.{nat_eq, sym, ap, ◌∙◌}
use Rattle.std.specs.Prelude.{position}
use Rattle.run_rules.specs.declared.node.NodeRegion.{NodeRegion}
use Rattle.node_core.specs.declared.held.Held.{Held}
use Rattle.node_core.specs.Part.{PartState, place_by}
use Rattle.node_core.specs.inner.View.{held_view}
use Rattle.node_core.proofs.Regions.{position-map}
use Rattle.node_core.proofs.node.Node.place_by.Goals as goal

pub returns : goal.returns
returns c =
    c.place_in.ensures ∙ ap (position (λ (r : Held). nat_eq r.number c.args.number)) c.as_slice.ensures.value
    ∙ sym (position-map (λ (r : NodeRegion). nat_eq r.number c.args.number) held_view c.self.inside.regions.items)
    ∙ ap (λ (p : PartState). place_by p c.args.number) c.self.view_is
