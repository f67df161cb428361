use Rattle.std.proofs.Common.{◌≡◌, ◌++◌, ◌∷◌, [], map, drop, sym, ap, subst, ◌∙◌}
use Rattle.pulse_base.specs.Link.{Answers, next_item}
use Rattle.pulse_net.specs.Links.{item_of, traffic_of}
use Rattle.pulse_net.proofs.Receipts.{receives}
use Rattle.pulse_net.proofs.mem_link.MemLinkLink.receive.Goals as goal

pub returns-in-Ok-clause-traffic : goal.returns-in-Ok-clause-traffic
returns-in-Ok-clause-traffic c =
    let f = c.self.inside in
    let answers = subst (λ n. Answers (next_item (map item_of (drop n f.items))) c.hand_out-got.new.buf c.hand_out-got.result) c.len-at.ensures c.hand_out-got.ensures.answers in
    receives f.items f.waits f.sent f.bound c.args.wait _ _ _ _ _
    (ap (λ x. x.traffic) (sym c.self.view_is))
    (c.succeed.ensures.traffic ∙ ap (λ l. traffic_of f.items l f.sent f.bound) c.in-Ok.ensures.ok)
    answers
    c.succeed.ensures.result
