use Rattle.std.proofs.Common.{◌≡◌, ◌-◌, true, false, Some, ap, sym, ◌∙◌, slice_index}
use Rattle.std.proofs.lemmas.Option.{slice_get_within}
use Rattle.range_table.specs.Memory.{holds, region_at}
use Rattle.range_table.proofs.Lookups.{Counts, holder, none_begins, last_misses, read_at, region_of-at, region_of-nowhere}
use Rattle.range_table.proofs.Orders.{rising_starts}
use Rattle.range_table.proofs.table.Table.find.Goals as goal

pub count_up_to-count-requires : goal.count_up_to-count-requires
count_up_to-count-requires c = rw c.as_slice.ensures.value (rising_starts _ _ _ _ c.self.invariant.order)

counted : (c : goal.Then-count-eq0) → Counts c.self.inside.list c.as_slice.result.now c.self.inside.order.places.items c.args.p c.args.size c.count_up_to-count.result
counted c = record {
  order = rw c.as_slice.ensures.value c.self.invariant.order;
  some = c.requires;
  bound = c.count_up_to-count.ensures.bound;
  low = c.count_up_to-count.ensures.low;
  high = c.count_up_to-count.ensures.high;
}

pub returns-then-count-eq0-clause-place : goal.returns-then-count-eq0-clause-place
returns-then-count-eq0-clause-place c =
    rw (← c.self.view_is) (sym (region_of-nowhere c.self.inside.list c.args.p c.args.size (none_begins _ _ _ _ _ _ (counted c) c.if-count-eq0.true)))

pub returns-then-count-eq0-clause-only : goal.returns-then-count-eq0-clause-only
returns-then-count-eq0-clause-only c =
    rw (← c.self.view_is) (λ i lt held. absurd (none_begins _ _ _ _ _ _ (counted c) c.if-count-eq0.true i lt held))

counted_then : (c : goal.Then-holds_span) → Counts c.self.inside.list c.as_slice.result.now c.deref.result.now c.args.p c.args.size c.count_up_to-count.result
counted_then c = record {
  order = rw (c.as_slice.ensures.value, c.deref.ensures.0) c.self.invariant.order;
  some = c.requires;
  bound = c.count_up_to-count.ensures.bound;
  low = c.count_up_to-count.ensures.low;
  high = c.count_up_to-count.ensures.high;
}

pub returns-then-holds_span-clause-place : goal.returns-then-holds_span-clause-place
returns-then-holds_span-clause-place c =
    let xs = c.self.inside.list in
    let j = slice_index c.deref.result.now (c.count_up_to-count.result - 1) in
    let here = read_at xs j c.args.p c.args.size c.get.result.now true c.get.ensures (sym c.if-holds_span.true ∙ c.holds_span.ensures) in
    rw (← c.self.view_is) (sym (region_of-at xs c.args.p c.args.size j (slice_get_within xs j _ c.get.ensures) here (λ i lt held. (holder _ _ _ _ _ _ (counted_then c) i lt held).1)))

pub returns-then-holds_span-clause-only : goal.returns-then-holds_span-clause-only
returns-then-holds_span-clause-only c =
    rw (← c.self.view_is) (λ i lt held. ap (λ k. Some k) (sym (holder _ _ _ _ _ _ (counted_then c) i lt held).1))

counted_else : (c : goal.Else-holds_span) → Counts c.self.inside.list c.as_slice.result.now c.deref.result.now c.args.p c.args.size c.count_up_to-count.result
counted_else c = record {
  order = rw (c.as_slice.ensures.value, c.deref.ensures.0) c.self.invariant.order;
  some = c.requires;
  bound = c.count_up_to-count.ensures.bound;
  low = c.count_up_to-count.ensures.low;
  high = c.count_up_to-count.ensures.high;
}

missed : (c : goal.Else-holds_span) → holds (region_at c.self.inside.list (slice_index c.deref.result.now (c.count_up_to-count.result - 1))) c.args.p c.args.size ≡ false
missed c = read_at c.self.inside.list _ c.args.p c.args.size c.get.result.now false c.get.ensures (sym c.if-holds_span.false ∙ c.holds_span.ensures)

pub returns-else-holds_span-clause-place : goal.returns-else-holds_span-clause-place
returns-else-holds_span-clause-place c =
    rw (← c.self.view_is) (sym (region_of-nowhere c.self.inside.list c.args.p c.args.size (last_misses _ _ _ _ _ _ (counted_else c) (missed c))))

pub returns-else-holds_span-clause-only : goal.returns-else-holds_span-clause-only
returns-else-holds_span-clause-only c =
    rw (← c.self.view_is) (λ i lt held. absurd (last_misses _ _ _ _ _ _ (counted_else c) (missed c) i lt held))
