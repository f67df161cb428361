use Rattle.std.proofs.Common.{sym, ap, ◌∙◌}
use Rattle.std.specs.FinMap as m
use Rattle.node_core.specs.Part.{PartState}
use Rattle.node_core.proofs.Ledgers.{kept_gets}
use Rattle.node_core.proofs.node.Node.kept.Goals as goal

pub returns : goal.returns
returns c = c.kept.ensures ∙ sym (kept_gets c.self.inside.ledger c.args.key) ∙ ap (λ (p : PartState). m.get p.node.kept c.args.key) c.self.view_is
