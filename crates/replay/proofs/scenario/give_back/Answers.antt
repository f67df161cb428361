use Rattle.std.proofs.Common.{◌++◌, map, map-id, sym, ap, ◌∙◌, rules}
use Rattle.std.proofs.lemmas.Iterator.Consumers.{YieldsList-end}
use Rattle.std.proofs.lemmas.Iterator.Adapters.{YieldsList-from_vec}
use Rattle.std.specs.Option.{option_map}
use Rattle.replay.proofs.Whole.{gives_none, gives_more}
use Rattle.replay.proofs.scenario.give_back.Goals as goal

pub loop-part-init : goal.loop-part-init
loop-part-init g c = gives_none (g.Y.Yard.returned c.args.yard.now)

pub loop-part-preserved : goal.loop-part-preserved
loop-part-preserved g c = gives_more g.Y.Part.NodePart.state (g.Y.Yard.returned c.args.yard.now) _ _ c.loop-part.yielded c.in-Some.part c.loop-part.invariant c.in_ok-give_back.ensures.ok

pub returns : goal.returns
returns g c =
    let end = YieldsList-end (YieldsList-from_vec {s = c.into_iter-part-iterator.result} c.args.parts.items (search rules) (search rules)) c.loop-part.yielded c.loop-part.part-iterator c.loop-part.yielded_by c.next.result c.next.new.self c.in-None.is c.next.ensures.steps in
    c.loop-part.invariant ∙ ap (λ xs. option_map (λ before. before ++ map g.Y.Part.NodePart.state xs) (g.Y.Yard.returned c.args.yard.now)) (sym (map-id c.loop-part.yielded) ∙ end.0)
