use Rattle.std.proofs.Common.{◌∷◌, ◌++◌, [], ap, ◌∙◌}
use Rattle.iter_check.specs.Layout.{size_of}
use Rattle.iter_check.specs.FaultList.{record_fields}
use Rattle.scenario_parts.proofs.Lists.{one_more, one_size}
use Rattle.scenario_parts.proofs.switch.sizes_of.Goals as goal

pub sizes-preserved : goal.sizes-preserved
sizes-preserved c =
    let more = c.in_ok-push.ensures.ok ∙ ap (λ v. c.sizes.sizes ++ v ∷ []) c.from.ensures in
    record {
      sizes = one_more (λ it. size_of (record_fields c.args.checked.now.records it)) c.args.checked.now.iters c.sizes.sizes c.push.new.self c.sizes.iter c.record_size.result c.record_size.ensures.value c.sizes.invariant.sizes more;
      bounds = one_size c.sizes.sizes c.push.new.self c.record_size.result c.sizes.invariant.bounds c.record_size.ensures.bounds more;
    }
