use Rattle.std.proofs.Common.{ap, subst}
use Rattle.run_rules.specs.Client as rule
use Rattle.client_core.specs.declared.request.Request.{Request}
use Rattle.client_core.specs.Calls.{asks}
use Rattle.client_core.specs.inner.Standing.{Goes}
use Rattle.client_core.proofs.Places.{fits_at, fits_set}
use Rattle.client_core.proofs.Doing.{does_is, program_there, program_args, program_begins}
use Rattle.client_core.proofs.client.Client.ask.Goals as goal

pub get-requires : goal.get-requires
get-requires c = program_there c.self.inside.terms c.self.inside.images c.self.inside.requests.entries c.place-place.result c.from-program.result c.index.result.now c.self.invariant.each c.index.ensures c.from-program.ensures

pub ask-requires-clause-args : goal.ask-requires-clause-args
ask-requires-clause-args c = program_args c.self.inside.terms c.self.inside.images c.self.inside.requests.entries c.place-place.result c.from-program.result c.index.result.now c.index_mut.result.now c.get.result.now c.self.invariant.each c.index.ensures c.index_mut.ensures.value c.from-program.ensures c.get.ensures

pub ask-requires-clause-fits : goal.ask-requires-clause-fits
ask-requires-clause-fits c = (fits_at c.self.inside.terms c.self.inside.images c.self.inside.requests.entries c.place-place.result c.index_mut.result.now c.self.invariant.each c.index_mut.ensures.value).1

pub invariant_of-self : goal.invariant_of-self
invariant_of-self c = record {
  terms = c.self.invariant.terms;
  no_ask = c.self.invariant.no_ask;
  no_answer = c.self.invariant.no_answer;
  each = fits_set c.self.inside.terms c.self.inside.images c.self.inside.requests.entries c.place-place.result c.index_mut.result.now c.ask.new.self c.self.invariant.each c.index_mut.ensures.value (ap (λ (q : Request). q.plan) c.ask.ensures.rule.0) c.ask.ensures.fits;
}

pub returns-clause-rule : goal.returns-clause-rule
returns-clause-rule c =
    let q = c.index_mut.result.now in
    let begun = program_begins c.self.inside.images c.self.inside.requests.entries c.place-place.result c.from-program.result c.index.result.now q c.get.result.now c.index.ensures c.index_mut.ensures.value c.from-program.ensures c.get.ensures in
    does_is c.self.inside.terms c.self.inside.images c.self.inside.requests.entries c.args.self.now c.place-place.result c.args.r q c.ask.new.self asks c.ask.result c.self.view_is
    c.index_mut.ensures.value (subst (λ b. Goes q c.ask.new.self (rule.ask c.self.inside.terms q.plan.number q.plan.iter b q.asking) c.ask.result) begun c.ask.ensures.rule) c.place-place.ensures
