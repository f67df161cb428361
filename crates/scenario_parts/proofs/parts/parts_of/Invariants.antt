use Rattle.std.proofs.Common.{◌≡◌, ◌++◌, ◌-◌, map}
use Rattle.std.specs.Prelude.{All, IsTrue}
use Rattle.scenario_parts.specs.Parts.{first_parts}
use Rattle.scenario_parts.proofs.parts.parts_of.Given as goal

abbrev pub invariant-parts : goal.invariant-parts
invariant-parts g l = record {
  parts : map g.Y.Part.NodePart.state l.parts.items ++ first_parts (record { checked = l.built.checked; plan = l.plan }) l.built.images l.n (l.plan.nodes - l.n)
      ≡ first_parts (record { checked = l.built.checked; plan = l.plan }) l.built.images 0 l.plan.nodes;
  plain : All (λ p. IsTrue (g.Y.Part.NodePart.plain p)) l.parts.items;
  returned : g.Y.Yard.returned l.yard ≡ g.Y.Yard.returned l.fn.yard;
}
