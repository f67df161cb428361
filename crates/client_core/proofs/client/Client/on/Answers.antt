use Rattle.std.proofs.Common.{ap}
use Rattle.run_rules.specs.Client as rule
use Rattle.client_core.specs.declared.request.Request.{Request}
use Rattle.client_core.specs.Requests.{ClientState}
use Rattle.client_core.proofs.Places.{fits_at, fits_set}
use Rattle.client_core.proofs.Doing.{does_is, hears_is}
use Rattle.client_core.proofs.client.Client.on.Goals as goal

pub hear-requires-clause-fits : goal.hear-requires-clause-fits
hear-requires-clause-fits c = (fits_at c.self.inside.terms c.self.inside.images c.self.inside.requests.entries c.in-Some.place c.index_mut.result.now c.self.invariant.each c.index_mut.ensures.value).1

pub invariant_of-self : goal.invariant_of-self
invariant_of-self c = record {
  terms = c.self.invariant.terms;
  no_ask = c.self.invariant.no_ask;
  no_answer = c.self.invariant.no_answer;
  each = fits_set c.self.inside.terms c.self.inside.images c.self.inside.requests.entries c.in-Some.place c.index_mut.result.now c.hear.new.self c.self.invariant.each c.index_mut.ensures.value (ap (λ (q : Request). q.plan) c.hear.ensures.rule.0) c.hear.ensures.fits;
}

pub returns-in-Some-clause-rule : goal.returns-in-Some-clause-rule
returns-in-Some-clause-rule c =
    hears_is c.args.self.now _ c.args.back.now c.hear.result
    (does_is c.self.inside.terms c.self.inside.images c.self.inside.requests.entries c.args.self.now c.in-Some.place c.args.back.now.request c.index_mut.result.now c.hear.new.self (λ (k : ClientState) (q : Request). rule.hear k.terms c.args.back.now q.asking) c.hear.result c.self.view_is
    c.index_mut.ensures.value c.hear.ensures.rule c.in-Some.ensures)
