use Rattle.std.proofs.Common.{◌≡◌, get_or, sym, ◌∙◌, subst}
use Rattle.node_core.specs.Part.{PartState, IsPart}
use Rattle.node_core.proofs.Turning.{iterated, iterated_fits, first_runs}
use Rattle.node_core.proofs.node.Node.iterate_first.Goals as goal

pub returns-clause-iterates : goal.returns-clause-iterates
returns-clause-iterates c =
    let first = subst (λ (p : PartState). c.index.result.now ≡ get_or p.node.live 0 c.index.result.now) c.self.view_is c.index.ensures in
    iterated c.args.self.now c.iterate_at-ended.new.self c.fate_of.result c.index.result.now c.in-Some.place c.iterate_at-ended.result (record { cur = c.index.result.now.leg.cur; pad = c.index.result.now.leg.pad }) c.iterate_at-ended.new.context c.requires first
    (sym c.place_of.ensures.place ∙ c.in-Some.is) c.iterate_at-ended.ensures.ran c.iterate_at-ended.ensures.others (c.fate_of.ensures _ _ _ c.iterate_at-ended.ensures.ran)

pub returns-clause-fits : goal.returns-clause-fits
returns-clause-fits c =
    let first = subst (λ (p : PartState). c.index.result.now ≡ get_or p.node.live 0 c.index.result.now) c.self.view_is c.index.ensures in
    let runs = first_runs c.args.self.now c.index.result.now (subst IsPart c.self.view_is c.self.invariant.part) c.requires first in
    iterated_fits c.args.self.now c.iterate_at-ended.new.self c.fate_of.result c.index.result.now c.in-Some.place c.iterate_at-ended.result (record { cur = c.index.result.now.leg.cur; pad = c.index.result.now.leg.pad }) c.iterate_at-ended.new.context c.requires first
    (sym c.place_of.ensures.place ∙ c.in-Some.is) runs c.iterate_at-ended.ensures.ran c.iterate_at-ended.ensures.pad c.iterate_at-ended.ensures.others (c.fate_of.ensures _ _ _ c.iterate_at-ended.ensures.ran)
