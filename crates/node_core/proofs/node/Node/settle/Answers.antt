use Rattle.std.proofs.Common.{◌≡◌, ◌∷◌, sym, ap, ◌∙◌, subst, arith}
use Rattle.std.specs.FinMap as m
use Rattle.leg_ledger.specs.Legs.{Legs, ended}
use Rattle.run_rules.specs.declared.node.Fate.{Fate}
use Rattle.run_rules.specs.declared.node.Fate.TheVariants as fate
use Rattle.run_rules.specs.Node.{Kept, key_of}
use Rattle.run_rules.specs.Waiting.{Apart}
use Rattle.node_core.specs.Part.{PartState, IsPart}
use Rattle.node_core.specs.inner.View.{part_view, kept_of, live_region}
use Rattle.node_core.specs.inner.Steps.{FitsAt, FateFits}
use Rattle.node_core.proofs.Ledgers.{kept_ended}
use Rattle.node_core.proofs.Parts.{part_stays, part_ends}
use Rattle.node_core.proofs.Nodes.{stays_running, ends_running, first_runs, ends_view, settles}
use Rattle.node_core.proofs.node.Node.settle.Goals as goal

pub invariant_of-self : goal.invariant_of-self
invariant_of-self c =
    let n = part_view c.self.inside in
    let e = c.in-Some.entry in
    let es = c.pop_front.new.self.items in
    let stands : c.self.inside.live.items ≡ c.in-Some.entry ∷ c.pop_front.new.self.items = c.in-Some.ensures.items in
    let fits : FateFits (part_view c.self.inside) c.args.fate = subst (λ (p : PartState). FateFits p c.args.fate) (sym c.self.view_is) c.requires in
    let at : FitsAt (part_view c.self.inside).node (c.in-Some.entry ∷ c.pop_front.new.self.items) (fate.Stays c.in-Stays.leg) =
    subst (λ z. FitsAt (part_view c.self.inside).node z (fate.Stays c.in-Stays.leg)) stands (subst (λ (f : Fate). FateFits (part_view c.self.inside) f) c.in-Stays.is fits) in
    record {
      part = subst IsPart (ap (λ z. record (part_view c.self.inside) { node = record (part_view c.self.inside).node { live = z } }) (sym c.push_back_reserved.ensures.items))
          (part_stays n e es c.in-Stays.leg c.self.invariant.part stands at.0 at.1);
      table = c.self.invariant.table;
      running = λ q. stays_running c.self.inside.ledger c.in-Some.entry c.pop_front.new.self.items c.in-Stays.leg (λ k. c.self.invariant.running k ∙ ap (λ z. live_region z k) stands) (subst Apart stands c.self.invariant.part.apart) at.0 q
          ∙ sym (ap (λ z. live_region z q) c.push_back_reserved.ensures.items);
      room = omega (arith, c.self.invariant.room, c.push_back_reserved.ensures.capacity, c.pop_front.ensures.capacity);
    }

pub invariant_of-self-in-Ends : goal.invariant_of-self-in-Ends
invariant_of-self-in-Ends c =
    let e = c.in-Some.entry in
    let es = c.pop_front.new.self.items in
    let stands : c.self.inside.live.items ≡ c.in-Some.entry ∷ c.pop_front.new.self.items = c.in-Some.ensures.items in
    let fits : FateFits (part_view c.self.inside) c.args.fate = subst (λ (p : PartState). FateFits p c.args.fate) (sym c.self.view_is) c.requires in
    let at : FitsAt (part_view c.self.inside).node (c.in-Some.entry ∷ c.pop_front.new.self.items) (fate.Ends c.in-Ends.back) =
    subst (λ z. FitsAt (part_view c.self.inside).node z (fate.Ends c.in-Ends.back)) stands (subst (λ (f : Fate). FateFits (part_view c.self.inside) f) c.in-Ends.is fits) in
    let legs : c.finish.new.self ≡ ended c.self.inside.ledger (key_of c.in-Some.entry.leg) c.in-Ends.back = c.finish.ensures.ends ∙ ap (λ k. ended c.self.inside.ledger k c.in-Ends.back) c.key_of.ensures in
    let runs = first_runs c.self.inside.ledger c.in-Some.entry c.pop_front.new.self.items (λ k. c.self.invariant.running k ∙ ap (λ z. live_region z k) stands) in
    let kept : m.insert (kept_of c.self.inside.ledger) (key_of c.in-Some.entry.leg) (record { back = c.in-Ends.back; region = c.in-Some.entry.region }) ≡ kept_of c.finish.new.self =
    sym (ap kept_of legs ∙ kept_ended c.self.inside.ledger (key_of c.in-Some.entry.leg) c.in-Ends.back c.in-Some.entry.region runs) in
    record {
      part = subst IsPart (ap (λ (z : Kept). record (part_view c.self.inside) { node = record (part_view c.self.inside).node { live = c.pop_front.new.self.items; kept = z } }) kept)
          (part_ends (part_view c.self.inside) e es c.in-Ends.back c.self.invariant.part stands at);
      table = c.self.invariant.table;
      running = λ q. ap (λ z. Rattle.leg_ledger.specs.Legs.running_region z q) legs
          ∙ ends_running c.self.inside.ledger c.in-Some.entry c.pop_front.new.self.items c.in-Ends.back (λ k. c.self.invariant.running k ∙ ap (λ z. live_region z k) stands) (subst Apart stands c.self.invariant.part.apart) q;
      room = omega (arith, c.self.invariant.room, c.pop_front.ensures.capacity);
    }

pub returns-in-Ends : goal.returns-in-Ends
returns-in-Ends c =
    let stands : c.self.inside.live.items ≡ c.in-Some.entry ∷ c.pop_front.new.self.items = c.in-Some.ensures.items in
    let legs : c.finish.new.self ≡ ended c.self.inside.ledger (key_of c.in-Some.entry.leg) c.in-Ends.back = c.finish.ensures.ends ∙ ap (λ k. ended c.self.inside.ledger k c.in-Ends.back) c.key_of.ensures in
    let runs = first_runs c.self.inside.ledger c.in-Some.entry c.pop_front.new.self.items (λ k. c.self.invariant.running k ∙ ap (λ z. live_region z k) stands) in
    let kept : kept_of c.finish.new.self ≡ m.insert (kept_of c.self.inside.ledger) (key_of c.in-Some.entry.leg) (record { back = c.in-Ends.back; region = c.in-Some.entry.region }) =
    ap kept_of legs ∙ kept_ended c.self.inside.ledger (key_of c.in-Some.entry.leg) c.in-Ends.back c.in-Some.entry.region runs in
    settles (part_view c.self.inside) c.args.self.now _ c.in-Some.entry c.pop_front.new.self.items c.args.fate (fate.Ends c.in-Ends.back) c.self.view_is stands c.in-Ends.is
    (ap (λ (z : Kept). record (part_view c.self.inside) { node = record (part_view c.self.inside).node { live = c.pop_front.new.self.items; kept = z } }) kept
    ∙ ends_view (part_view c.self.inside) c.in-Some.entry c.pop_front.new.self.items c.in-Ends.back stands)
