use Rattle.std.proofs.Common.{ap, sym, ◌∙◌, option_copied}
use Rattle.leg_ledger.specs.Legs.{reply_in}
use Rattle.leg_ledger.proofs.Replies.{keeps-insert}
use Rattle.leg_ledger.proofs.ledger.Ledger.enter.Goals as goal

pub returns-in-Ok-clause-keeps : goal.returns-in-Ok-clause-keeps
returns-in-Ok-clause-keeps c = rw c.in-Ok.ensures.ok (keeps-insert c.args.self.now c.args.key _ (ap reply_in (sym c.state.ensures ∙ ap option_copied c.in-None.is)))
