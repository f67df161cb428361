use Rattle.std.proofs.Common.{◌∷◌, ◌++◌, [], ap, ◌∙◌}
use Rattle.scenario_parts.proofs.Firsts.{one_client}
use Rattle.scenario_parts.proofs.clients.clients_of.Goals as goal

pub clients-preserved : goal.clients-preserved
clients-preserved c = one_client c.args.plan.now c.args.built.now.images c.clients.client c.args.plan.now.clients c.clients.clients.items c.push.new.self.items _ c.clients-test.true c.clients.invariant
    (c.in-Ok.ensures.items ∙ ap (λ k. c.clients.clients.items ++ k ∷ []) c.in_ok-client_of.ensures)
