use Rattle.std.specs.FinMap as map
use Rattle.leg_ledger.proofs.Replies.{keeps-insert, running_has_no_reply}
use Rattle.leg_ledger.proofs.ledger.Ledger.finish.Goals as goal

pub returns-in-Some-Started-clause-keeps : goal.returns-in-Some-Started-clause-keeps
returns-in-Some-Started-clause-keeps c = rw c.change.ensures (keeps-insert c.args.self.now c.args.key _ (running_has_no_reply (map.get c.args.self.now c.args.key) c.requires))
