use Rattle.std.proofs.Common.{subst}
use Rattle.client_core.specs.Requests.{ClientState}
use Rattle.client_core.specs.inner.View.{IsPlaceOf}
use Rattle.client_core.proofs.Places.{place_is}
use Rattle.client_core.proofs.client.Client.place_of.Goals as goal

pub returns : goal.returns
returns c =
    subst (λ (z : ClientState). IsPlaceOf z.requests c.args.r c.get_index_of.result) c.self.view_is
    (place_is c.self.inside.terms c.self.inside.images c.args.r c.self.inside.requests.entries c.get_index_of.result c.self.invariant.each c.get_index_of.ensures.index c.get_index_of.ensures.found c.get_index_of.ensures.value)
