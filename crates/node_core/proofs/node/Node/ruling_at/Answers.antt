use Rattle.std.proofs.Common.{◌<◌, ◌≤◌, length, sym, ap, ◌∙◌, subst, refl, arith}
use Rattle.run_rules.specs.declared.node.Accepted.TheVariants.{Answer}
use Rattle.node_core.specs.Part.{PartState}
use Rattle.node_core.specs.inner.View.{held_view}
use Rattle.node_core.proofs.Regions.{held_seen}
use Rattle.node_core.proofs.Answers.{IsNew, barred, full, starts}
use Rattle.node_core.proofs.node.Node.ruling_at.Goals as goal

pub returns-then-not-region : goal.returns-then-not-region
returns-then-not-region c =
    let w : IsNew c.args.self.now.node c.args.leg.now c.args.place = record { known = c.requires.known; unkept = c.requires.unkept; idle = c.requires.idle; at = c.requires.place } in
    let here = held_seen c.self.inside c.args.self.now c.args.place c.in-Some.place c.index-region.result.now c.self.view_is c.requires.inside c.in-Some.is c.index-region.ensures in
    (barred c.args.self.now.node c.args.leg.now c.args.place c.in-Some.place (held_view c.index-region.result.now) w c.in-Some.is here c.if-not-region.true ∙ ap Answer (sym c.back_of.ensures), refl, λ e. cc)

pub returns-then-len-self : goal.returns-then-len-self
returns-then-len-self c =
    let w : IsNew c.args.self.now.node c.args.leg.now c.args.place = record { known = c.requires.known; unkept = c.requires.unkept; idle = c.requires.idle; at = c.requires.place } in
    let here = held_seen c.self.inside c.args.self.now c.args.place c.in-Some.place c.index-region.result.now c.self.view_is c.requires.inside c.in-Some.is c.index-region.ensures in
    (full c.args.self.now.node c.args.leg.now c.args.place c.in-Some.place (held_view c.index-region.result.now) w c.in-Some.is here c.if-not-region.false (subst (λ (p : PartState). p.node.slots ≤ length p.node.live) c.self.view_is (omega (arith, c.self.inside.live.ok, c.len.ensures, c.if-len-self.true))), refl, λ e. cc)

pub returns-else-len-self : goal.returns-else-len-self
returns-else-len-self c =
    let w : IsNew c.args.self.now.node c.args.leg.now c.args.place = record { known = c.requires.known; unkept = c.requires.unkept; idle = c.requires.idle; at = c.requires.place } in
    let here = held_seen c.self.inside c.args.self.now c.args.place c.in-Some.place c.index-region.result.now c.self.view_is c.requires.inside c.in-Some.is c.index-region.ensures in
    let s = starts c.args.self.now.node c.args.leg.now c.args.place c.in-Some.place (held_view c.index-region.result.now) w c.in-Some.is here c.if-not-region.false (subst (λ (p : PartState). length p.node.live < p.node.slots) c.self.view_is (omega (arith, c.self.inside.live.ok, c.len.ensures, c.if-len-self.false))) in
    (s.answer, s.number, s.may)
