use Rattle.std.proofs.Common.{◌≡◌, None, List, [], ◌∷◌, ◌++◌, map, map-id, nat_eq, refl, sym, ap, subst, ◌∙◌, rules}
use Rattle.std.specs.List.{AllByRecursion, IsDistinct}
use Rattle.std.specs.Map.{values_of, lookup}
use Rattle.std.specs.Vec.Iter.{into_iter_items}
use Rattle.std.proofs.lemmas.Iterator.Consumers.{YieldsList-end}
use Rattle.std.proofs.lemmas.Iterator.Adapters.{YieldsList-from_vec}
use Rattle.indexmap.proofs.CallerLemmas.{insert_entry-new}
use Rattle.run_rules.specs.declared.client.Terms.{Terms}
use Rattle.client_core.specs.declared.request.Request.{Request}
use Rattle.client_core.specs.Requests.{numbers}
use Rattle.client_core.specs.inner.Standing.{EntryFits}
use Rattle.client_core.specs.inner.View.{new_entry}
use Rattle.client_core.proofs.Making.{entries_fit, new_values, new_number, entries_push, shift}
use Rattle.client_core.proofs.client.Client.make.Goals as goal

pub loop-plan-preserved : goal.loop-plan-preserved
loop-plan-preserved c =
    let known = c.loop-plan.invariant in
    let done = c.loop-plan.yielded in
    let plan = c.in-Some.plan in
    let later = into_iter_items c.next.new.self in
    let all : done ++ plan ∷ later ≡ c.args.requests = ap (λ l. done ++ l) (sym c.in-Some.ensures.steps.0) ∙ known.1 in
    let new = new_number plan done later (subst (λ l. IsDistinct nat_eq (numbers l)) (sym all) c.requires.plans.differ) in
    let none = subst (λ es. lookup (nat_eq plan.number) es ≡ None) (sym known.0) new in (
      c.in-Ok.ensures.entries ∙ insert_entry-new nat_eq c.loop-plan.found plan.number (new_entry plan).1 none ∙ ap (λ es. es ++ new_entry plan ∷ []) known.0 ∙ sym (entries_push done plan),
      shift done plan later ∙ all,
    )

entries_are : (c : goal.After-drop-plan-iterator-2) → c.loop-plan.found.entries ≡ map new_entry c.args.requests
entries_are c =
    let end = YieldsList-end (YieldsList-from_vec {s = c.into_iter-plan-iterator.result} c.args.requests (search rules) (search rules)) c.loop-plan.yielded c.loop-plan.plan-iterator c.loop-plan.yielded_by c.next.result c.next.new.self c.in-None.is c.next.ensures.steps in
    c.loop-plan.invariant.0 ∙ ap (map new_entry) (sym (map-id c.loop-plan.yielded) ∙ end.0)

pub invariant_of-result : goal.invariant_of-result
invariant_of-result c =
    let t : Terms = record { client = c.args.client; budget = c.args.budget; rounds = c.args.rounds; tries = c.args.tries } in
    record {
      terms = record { budget = c.requires.budget; rounds = c.requires.rounds };
      no_ask = refl;
      no_answer = refl;
      each = subst (AllByRecursion (EntryFits t c.args.images)) (sym (entries_are c)) (entries_fit t c.args.images c.args.requests c.requires.plans.each);
    }

pub returns : goal.returns
returns c =
    let t : Terms = record { client = c.args.client; budget = c.args.budget; rounds = c.args.rounds; tries = c.args.tries } in
    ap (λ (l : List Request). record { terms = t; images = c.args.images; requests = l }) (ap values_of (entries_are c) ∙ new_values c.args.requests)
