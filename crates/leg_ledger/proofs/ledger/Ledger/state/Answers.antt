use Rattle.std.proofs.Common.{sym, ◌∙◌}
use Rattle.leg_ledger.proofs.Keys.{get-entries}
use Rattle.leg_ledger.proofs.ledger.Ledger.state.Goals as goal

pub returns : goal.returns
returns c = rw (← c.self.view_is) (c.get.ensures.value ∙ sym (get-entries c.self.inside.legs.entries c.args.key))
