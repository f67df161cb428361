use Rattle.std.proofs.Common.{ap}
use Rattle.run_rules.specs.Client as rule
use Rattle.client_core.specs.declared.request.Request.{Request}
use Rattle.client_core.specs.Requests.{ClientState}
use Rattle.client_core.proofs.Places.{fits_at, fits_set}
use Rattle.client_core.proofs.Doing.{does_is}
use Rattle.client_core.proofs.client.Client.tick.Goals as goal

pub tick-requires-clause-fits : goal.tick-requires-clause-fits
tick-requires-clause-fits c = (fits_at c.self.inside.terms c.self.inside.images c.self.inside.requests.entries c.place-place.result c.index_mut.result.now c.self.invariant.each c.index_mut.ensures.value).1

pub invariant_of-self : goal.invariant_of-self
invariant_of-self c = record {
  terms = c.self.invariant.terms;
  no_ask = c.self.invariant.no_ask;
  no_answer = c.self.invariant.no_answer;
  each = fits_set c.self.inside.terms c.self.inside.images c.self.inside.requests.entries c.place-place.result c.index_mut.result.now c.tick.new.self c.self.invariant.each c.index_mut.ensures.value (ap (λ (q : Request). q.plan) c.tick.ensures.rule.0) c.tick.ensures.fits;
}

pub returns-clause-rule : goal.returns-clause-rule
returns-clause-rule c =
    does_is c.self.inside.terms c.self.inside.images c.self.inside.requests.entries c.args.self.now c.place-place.result c.args.r c.index_mut.result.now c.tick.new.self (λ (k : ClientState) (q : Request). rule.tick k.terms q.asking) c.tick.result c.self.view_is
    c.index_mut.ensures.value c.tick.ensures.rule c.place-place.ensures
