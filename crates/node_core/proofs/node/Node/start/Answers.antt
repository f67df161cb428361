use Rattle.std.proofs.Common.{◌≡◌, None, sym, ap, ◌∙◌, subst, arith}
use Rattle.std.specs.FinMap as m
use Rattle.leg_ledger.specs.declared.leg.LegState.TheVariants.{Started}
use Rattle.run_rules.specs.Node.{key_of, place_of}
use Rattle.run_rules.specs.Accepting.{number_at, started}
use Rattle.node_core.specs.inner.Starts.{MayStart}
use Rattle.node_core.specs.Part.{PartState, IsPart}
use Rattle.node_core.specs.inner.View.{part_view, kept_of}
use Rattle.node_core.proofs.Ledgers.{kept_none}
use Rattle.node_core.proofs.Parts.{part_started}
use Rattle.node_core.proofs.Nodes.{started_view, started_running}
use Rattle.node_core.proofs.node.Node.start.Goals as goal

pub unreachable-requires-in-Kept : goal.unreachable-requires-in-Kept
unreachable-requires-in-Kept c =
    let none : m.get (part_view c.self.inside).node.kept (key_of c.args.leg.now) ≡ None = ap (λ (p : PartState). m.get p.node.kept (key_of c.args.leg.now)) c.self.view_is ∙ c.requires.may.unkept in
    kept_none c.self.inside.ledger c.key_of.result (ap (m.get (kept_of c.self.inside.ledger)) c.key_of.ensures ∙ none) c.in-Kept.ensures.enters.0

pub invariant_of-self : goal.invariant_of-self
invariant_of-self c =
    let may : MayStart (part_view c.self.inside).node c.args.leg.now = subst (λ (p : PartState). MayStart p.node c.args.leg.now) (sym c.self.view_is) c.requires.may in
    let number = subst (λ (p : PartState). number_at p.node (place_of p.node c.args.leg.now) ≡ c.args.region) (sym c.self.view_is) c.requires.region in
    let entered = c.in-Entered.ensures.enters.1 ∙ ap (λ k. m.insert c.self.inside.ledger k (Started c.args.region)) c.key_of.ensures in
    let new : m.get c.self.inside.ledger (key_of c.args.leg.now) ≡ None = ap (m.get c.self.inside.ledger) (sym c.key_of.ensures) ∙ c.in-Entered.ensures.enters.0 in
    record {
      part = subst IsPart (sym (started_view c.self.inside c.args.leg.now c.args.region c.enter.new.self c.push_back_reserved.new.self.items number new entered c.push_back_reserved.ensures.items))
          (part_started (part_view c.self.inside) c.args.leg.now c.self.invariant.part c.requires.left may);
      table = c.self.invariant.table;
      running = started_running c.self.inside.ledger c.enter.new.self c.self.inside.live.items c.push_back_reserved.new.self.items c.args.leg.now c.args.region c.self.invariant.running may.idle entered c.push_back_reserved.ensures.items;
      room = omega (arith, c.self.invariant.room, c.push_back_reserved.ensures.capacity);
    }

pub returns-in-Entered-clause-ok : goal.returns-in-Entered-clause-ok
returns-in-Entered-clause-ok c =
    let number = subst (λ (p : PartState). number_at p.node (place_of p.node c.args.leg.now) ≡ c.args.region) (sym c.self.view_is) c.requires.region in
    let entered = c.in-Entered.ensures.enters.1 ∙ ap (λ k. m.insert c.self.inside.ledger k (Started c.args.region)) c.key_of.ensures in
    let new : m.get c.self.inside.ledger (key_of c.args.leg.now) ≡ None = ap (m.get c.self.inside.ledger) (sym c.key_of.ensures) ∙ c.in-Entered.ensures.enters.0 in
    started_view c.self.inside c.args.leg.now c.args.region c.enter.new.self c.push_back_reserved.new.self.items number new entered c.push_back_reserved.ensures.items
    ∙ ap (λ (p : PartState). record p { node = started p.node c.args.leg.now }) c.self.view_is
