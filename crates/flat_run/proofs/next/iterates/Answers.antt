use Rattle.std.proofs.Common.{ap, ◌∙◌}
use Rattle.iter_check.specs.Layout.{size_of}
use Rattle.iter_check.specs.Iteration.{iteration}
use Rattle.flat_run.proofs.RegionLaws.{room_by, pad_by}
use Rattle.flat_run.proofs.next.iterates.Goals as goal

pub returns-clause-room : goal.returns-clause-room
returns-clause-room c =
    let t = c.args.next.now in
    let r = c.get-region.result.now in
    room_by c.in_ok-outcome.outcome c.args.state.now.regions t.region t.cur (size_of t.walk.fields.now) r t.walk.fields.now t.walk.iter.now t.cur c.bytes-pad.result.now r.span.write c.get-region.ensures
    (c.in_ok-outcome.ensures ∙ ap (λ bytes. iteration t.walk.fields.now t.walk.iter.now bytes t.cur c.bytes-pad.result.now r.span.write) c.record_bytes-bytes.ensures)

pub returns-clause-pad : goal.returns-clause-pad
returns-clause-pad c =
    let t = c.args.next.now in
    let r = c.get-region.result.now in
    pad_by c.in_ok-outcome.outcome t.walk.fields.now t.walk.iter.now c.record_bytes-bytes.result.now t.cur c.bytes-pad.result.now r.span.write
    (rw c.bytes-pad.ensures.bytes c.bytes-pad.ensures.some) (rw c.bytes-pad.ensures.bytes c.bytes-pad.ensures.fit) c.in_ok-outcome.ensures
