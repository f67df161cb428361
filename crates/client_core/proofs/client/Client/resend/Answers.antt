use Rattle.std.proofs.Common.{IfSome, sym, subst}
use Rattle.client_core.specs.Calls.{LegFits}
use Rattle.client_core.proofs.Places.{fits_at}
use Rattle.client_core.proofs.Doing.{resend_fits}
use Rattle.client_core.proofs.client.Client.resend.Goals as goal

pub returns-clause-sent : goal.returns-clause-sent
returns-clause-sent c =
    let fits = fits_at c.self.inside.terms c.self.inside.images c.self.inside.requests.entries c.place.result c.index.result.now c.self.invariant.each c.index.ensures in
    subst (λ o. IfSome o LegFits) (sym c.resend.ensures) (resend_fits c.self.inside.terms c.index.result.now.asking c.self.invariant.terms fits.1)
