use Rattle.client_core.proofs.Doing.{has_number}
use Rattle.client_core.proofs.client.Client.number.Goals as goal

pub returns-clause-has : goal.returns-clause-has
returns-clause-has c = has_number c.self.inside.terms c.self.inside.images c.self.inside.requests.entries c.args.self.now c.args.i c.index.result.now c.self.view_is c.index.ensures
