use Rattle.std.proofs.Common.{◌∷◌, [], map, ap, ◌∙◌, subst, sym}
use Rattle.std.specs.Prelude.{All, IsTrue}
use Rattle.std.proofs.lemmas.List.{map-append}
use Rattle.std.proofs.lemmas.List.Elements.{All-append, All-cons, All-nil}
use Rattle.scenario_text.specs.declared.scenario.Scenario.{Scenario}
use Rattle.scenario_parts.proofs.Firsts.{one_part}
use Rattle.scenario_parts.proofs.parts.parts_of.Goals as goal

pub parts-preserved : goal.parts-preserved
parts-preserved g c =
    let s : Scenario = record { checked = c.args.built.now.checked; plan = c.args.plan.now } in
    let made = map g.Y.Part.NodePart.state c.parts.parts.items in
    record {
      parts = one_part s c.args.built.now.images c.parts.n c.args.plan.now.nodes made (map g.Y.Part.NodePart.state c.push.new.self.items) _ (g.Y.Part.NodePart.state c.in_ok-part.part) c.parts-test.true c.parts.invariant.parts
          (ap (map g.Y.Part.NodePart.state) c.in-Ok.ensures.items ∙ map-append g.Y.Part.NodePart.state c.parts.parts.items (c.in_ok-part.part ∷ []))
          c.in_ok-part.ensures.part;
      plain = subst (All (λ p. IsTrue (g.Y.Part.NodePart.plain p))) (sym c.in-Ok.ensures.items) (All-append (λ p. IsTrue (g.Y.Part.NodePart.plain p)) c.parts.parts.items (c.in_ok-part.part ∷ []) c.parts.invariant.plain (All-cons (λ p. IsTrue (g.Y.Part.NodePart.plain p)) c.in_ok-part.part [] c.in_ok-part.ensures.plain (All-nil (λ p. IsTrue (g.Y.Part.NodePart.plain p)))));
      returned = c.part_of.ensures.returned ∙ c.parts.invariant.returned;
    }
