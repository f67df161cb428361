use Rattle.std.proofs.Common.{◌≡◌, ℕ, ◌+◌, ◌-◌, ◌≤◌, false, List, length, map, Some, refl, sym, ap, ◌∙◌, subst}
use Rattle.std.specs.Prelude.{slice_get}
use Rattle.run_rules.specs.Node.{spans_of, place_of}
use Rattle.run_rules.specs.Accepting.{is_foreign}
use Rattle.node_core.specs.Part.{PartState, IsPart}
use Rattle.node_core.specs.inner.View.{held_view, part_view}
use Rattle.node_core.proofs.Regions.{spans_kept}
use Rattle.node_core.proofs.Parts.{part_put}
use Rattle.node_core.proofs.Sites.{site_seen, base_in, program_in, put_seen, ran_seen, others_seen}
use Rattle.node_core.proofs.node.Node.iterate_at.Goals as goal

pub overflow_sub-at : goal.overflow_sub-at
overflow_sub-at c = base_in (part_view c.self.inside) c.args.leg.now c.args.place c.span_of-span.result
    (subst (λ (p : PartState). place_of p.node c.args.leg.now ≡ Some c.args.place) (sym c.self.view_is) c.requires.at)
    (ap (λ z. slice_get z c.args.place) (sym c.self.invariant.table) ∙ c.span_of-span.ensures)

pub get-image-requires : goal.get-image-requires
get-image-requires c = program_in (part_view c.self.inside) c.args.leg.now c.self.invariant.part (subst (λ (p : PartState). is_foreign p.node c.args.leg.now ≡ false) (sym c.self.view_is) c.requires.known)

pub iterate_in-requires-clause-inside : goal.iterate_in-requires-clause-inside
iterate_in-requires-clause-inside c =
    let here = site_seen c.self.inside c.args.self.now c.args.leg.now c.args.place c.span_of-span.result c.get-image.result.now c.index_mut.result.now c.self.invariant c.self.view_is c.requires.known c.requires.at c.span_of-span.ensures c.get-image.ensures c.index_mut.ensures.value in
    subst (λ z. c.args.leg.now.cur - c.span_of-span.result.base + c.get-image.result.now.record_size ≤ length z) (sym c.deref_mut.ensures.value) here.inside

pub iterate_in-requires-clause-pad : goal.iterate_in-requires-clause-pad
iterate_in-requires-clause-pad c =
    let here = site_seen c.self.inside c.args.self.now c.args.leg.now c.args.place c.span_of-span.result c.get-image.result.now c.index_mut.result.now c.self.invariant c.self.view_is c.requires.known c.requires.at c.span_of-span.ensures c.get-image.ensures c.index_mut.ensures.value in
    c.requires.pad ∙ here.pad

pub invariant_of-self : goal.invariant_of-self
invariant_of-self c =
    let here = site_seen c.self.inside c.args.self.now c.args.leg.now c.args.place c.span_of-span.result c.get-image.result.now c.index_mut.result.now c.self.invariant c.self.view_is c.requires.known c.requires.at c.span_of-span.ensures c.get-image.ensures c.index_mut.ensures.value in
    let seen = put_seen c.self.inside.regions.items c.args.place c.index_mut.result.now c.iterate_in.new.bytes (c.iterate_in.auto.bytes ∙ c.deref_mut.ensures.len) in
    let long : length c.iterate_in.new.bytes ≡ length c.index_mut.result.now.bytes.items = c.iterate_in.auto.bytes ∙ ap (λ (z : List ℕ). length z) c.deref_mut.ensures.value in
    record {
      part = subst IsPart (ap (λ z. record (part_view c.self.inside) { node = record (part_view c.self.inside).node { regions = z } }) (sym seen))
          (part_put (part_view c.self.inside) c.args.place (held_view c.index_mut.result.now) (record (held_view c.index_mut.result.now) { bytes = c.iterate_in.new.bytes }) c.self.invariant.part here.at refl refl long);
      table = c.self.invariant.table ∙ sym (ap spans_of seen ∙ spans_kept (map held_view c.self.inside.regions.items) c.args.place (held_view c.index_mut.result.now) (record (held_view c.index_mut.result.now) { bytes = c.iterate_in.new.bytes }) here.at refl);
      running = c.self.invariant.running;
      room = c.self.invariant.room;
    }

pub returns-clause-ran : goal.returns-clause-ran
returns-clause-ran c =
    let here = site_seen c.self.inside c.args.self.now c.args.leg.now c.args.place c.span_of-span.result c.get-image.result.now c.index_mut.result.now c.self.invariant c.self.view_is c.requires.known c.requires.at c.span_of-span.ensures c.get-image.ensures c.index_mut.ensures.value in
    let seen = put_seen c.self.inside.regions.items c.args.place c.index_mut.result.now c.iterate_in.new.bytes (c.iterate_in.auto.bytes ∙ c.deref_mut.ensures.len) in
    ran_seen (part_view c.self.inside) c.args.self.now _ c.args.leg.now c.args.place c.span_of-span.result c.get-image.result.now (held_view c.index_mut.result.now) c.deref_mut.result.now c.iterate_in.new.bytes c.iterate_in.result c.args.context.now c.iterate_in.new.context
    c.self.view_is here c.deref_mut.ensures.value c.iterate_in.ensures.ran (ap (λ z. record (part_view c.self.inside) { node = record (part_view c.self.inside).node { regions = z } }) seen)

pub returns-clause-others : goal.returns-clause-others
returns-clause-others c =
    let here = site_seen c.self.inside c.args.self.now c.args.leg.now c.args.place c.span_of-span.result c.get-image.result.now c.index_mut.result.now c.self.invariant c.self.view_is c.requires.known c.requires.at c.span_of-span.ensures c.get-image.ensures c.index_mut.ensures.value in
    let seen = put_seen c.self.inside.regions.items c.args.place c.index_mut.result.now c.iterate_in.new.bytes (c.iterate_in.auto.bytes ∙ c.deref_mut.ensures.len) in
    others_seen (part_view c.self.inside) c.args.self.now _ c.args.leg.now c.args.place c.span_of-span.result c.get-image.result.now (held_view c.index_mut.result.now) c.deref_mut.result.now c.iterate_in.new.bytes
    c.self.view_is here c.deref_mut.ensures.value c.iterate_in.ensures.others (ap (λ z. record (part_view c.self.inside) { node = record (part_view c.self.inside).node { regions = z } }) seen)
