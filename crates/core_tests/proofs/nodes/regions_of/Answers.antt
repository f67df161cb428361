use Rattle.std.proofs.Common.{◌≡◌, [], ◌∷◌, ◌++◌, sym, subst, ap, ◌∙◌}
use Rattle.node_core.specs.Part.{IsRegions}
use Rattle.core_tests.proofs.Pairs.{two_fit}
use Rattle.core_tests.proofs.nodes.regions_of.Goals as goal

pub returns : goal.returns
returns c =
    let pushed : c.push-2.new.self ≡ c.args.first ∷ c.args.second ∷ [] =
    c.in_ok-push-2.ensures.ok ∙ ap (λ rs. rs ++ c.args.second ∷ []) (c.in_ok-push.ensures.ok ∙ ap (λ rs. rs ++ c.args.first ∷ []) c.new-regions.ensures) in
    subst IsRegions (sym pushed)
    (two_fit c.args.first c.args.second c.requires.filled c.requires.order c.requires.some c.requires.end c.requires.total c.requires.numbers c.requires.first_bytes c.requires.second_bytes)
