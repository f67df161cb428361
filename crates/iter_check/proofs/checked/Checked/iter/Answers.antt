use Rattle.iter_check.proofs.AcceptedLaws.{accepted_iter}
use Rattle.iter_check.proofs.checked.Checked.iter.Goals as goal

pub returns-clause-accepted : goal.returns-clause-accepted
returns-clause-accepted c = accepted_iter c.args.self.now c.args.at c.get.result.now (rw (← c.self.view_is) c.self.invariant) (rw (← c.self.view_is) c.get.ensures)
