use Rattle.std.proofs.Common.{sym, ap, ◌∙◌, subst}
use Rattle.run_rules.specs.Node.{spans_of}
use Rattle.node_core.specs.Part.{IsPart}
use Rattle.node_core.proofs.Making.{new_view, new_fits, new_running}
use Rattle.node_core.proofs.node.Node.make.Goals as goal

pub invariant_of-result : goal.invariant_of-result
invariant_of-result c = record {
  part = subst IsPart (sym (new_view c.args.regions c.args.images c.args.slots _ c.make.result c.in_ok-live.live.items c.in_ok-held_of-in-Ok.ensures c.make.ensures c.in_ok-live.ensures.items))
      (new_fits c.args.regions c.args.images c.args.slots c.requires.regions c.requires.some c.requires.slots);
  table = c.in-Ok.ensures.made.1 ∙ c.in_ok-spans.ensures ∙ ap spans_of (c.as_slice.ensures ∙ sym c.in_ok-held_of-in-Ok.ensures);
  running = new_running c.make.result c.in_ok-live.live.items c.make.ensures c.in_ok-live.ensures.items;
  room = c.in_ok-live.ensures.capacity;
}

pub returns : goal.returns
returns c = new_view c.args.regions c.args.images c.args.slots _ c.make.result c.in_ok-live.live.items c.in_ok-held_of-in-Ok.ensures c.make.ensures c.in_ok-live.ensures.items
