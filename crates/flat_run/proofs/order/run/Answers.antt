-- One step more of the order was taken.
use Rattle.std.proofs.Common.{◌≡◌, ◌&&◌, ◌<◌, length, take, get_or, sym, ap, ◌∙◌, add-one, rules}
use Rattle.flat_run.specs.Walk.{walks_of}
use Rattle.flat_run.specs.Run.{flat_run}
use Rattle.flat_run.specs.Step.{can_step, flat_step}
use Rattle.flat_run.proofs.RunLaws.{run_reaches, run_left, legal_left}
use Rattle.flat_run.proofs.order.run.Goals as goal

pub order-preserved : goal.order-preserved
order-preserved c =
    let walks = walks_of c.args.walks.now in
    let limit = c.args.limit in
    let order = c.args.order.now in
    let at = c.order.r-index in
    let i = c.order.invariant in
    let lt : at < length order = search rules in
    let stepped : c.step.new.state ≡ flat_step walks limit c.order.state (get_or order at 0) = search rules in
    let able : c.both-legal.result ≡ (c.order.legal && can_step walks limit c.order.state (get_or order at 0)) = search rules in
    record {
      reached = stepped ∙ ap (λ s. flat_step walks limit s (get_or order at 0)) i.reached ∙ sym (run_reaches walks limit c.args.state.now order at lt)
          ∙ ap (λ n. flat_run walks limit c.args.state.now (take n order)) (sym (add-one at));
      same = i.same ∙ rw stepped (run_left walks limit c.order.state order at lt);
      legality = i.legality ∙ rw (stepped, able) (legal_left walks limit c.order.state order at c.order.legal lt);
    }
