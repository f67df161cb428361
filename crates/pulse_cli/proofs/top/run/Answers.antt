use Rattle.std.proofs.Common.{refl, true, false}
use Rattle.pulse_cli.specs.Ending.{seen, FailsToWrite, WritesWhole}
use Rattle.pulse_cli.specs.Uses.{uses_kids, uses_net, uses_yard}
use Rattle.pulse_cli.specs.Sides.{sides}
use Rattle.pulse_cli.proofs.Outputs.{comes_failed, fails, outputs, unused, writes}
use Rattle.pulse_cli.proofs.top.run.Goals as goal

pub returns-in-Err-clause-comes : goal.returns-in-Err-clause-comes
returns-in-Err-clause-comes g c =
    let s = sides (g.Y.Yard.returned c.args.yard.now) (g.Y.Yard.returned c.answer.new.yard) (g.L.Link.traffic c.args.net.now) (g.L.Link.traffic c.answer.new.net) (g.L.Link.faults c.args.net.now) (g.L.Link.faults c.answer.new.net)
    (g.S.Spawner.family c.args.kids.now) (g.S.Spawner.family c.answer.new.kids) (g.S.Spawner.faults c.args.kids.now) (g.S.Spawner.faults c.answer.new.kids) in
    comes_failed _ c.in_ok-command.command (seen (g.R.Source.left c.args.input.now) (g.R.Source.faults c.args.input.now)) (seen (g.R.Source.left c.read_input.new.input) (g.R.Source.faults c.read_input.new.input))
    (seen (g.W.Sink.taken c.args.out.now) (g.W.Sink.faults c.args.out.now)) s c.in_ok-text.text c.as_slice.result.now c.in-Err.failure
    c.in_ok-command.ensures.command c.in_ok-text.ensures.reads c.as_slice.ensures c.in-Err.ensures.answered

pub returns-in-Err-write_all-clause-comes : goal.returns-in-Err-write_all-clause-comes
returns-in-Err-write_all-clause-comes g c =
    let s = sides (g.Y.Yard.returned c.args.yard.now) (g.Y.Yard.returned c.answer.new.yard) (g.L.Link.traffic c.args.net.now) (g.L.Link.traffic c.answer.new.net) (g.L.Link.faults c.args.net.now) (g.L.Link.faults c.answer.new.net)
    (g.S.Spawner.family c.args.kids.now) (g.S.Spawner.family c.answer.new.kids) (g.S.Spawner.faults c.args.kids.now) (g.S.Spawner.faults c.answer.new.kids) in (
      c.in-Ok.told.finished,
      outputs _ c.in_ok-command.command (g.R.Source.left c.args.input.now) (g.R.Source.left c.read_input.new.input) s c.in_ok-text.text c.as_slice.result.now c.in-Ok.told c.in-Ok.told.finished
          (FailsToWrite (seen (g.W.Sink.taken c.args.out.now) (g.W.Sink.faults c.args.out.now)) (seen (g.W.Sink.taken c.write_all.new.out) (g.W.Sink.faults c.write_all.new.out)))
          c.in_ok-command.ensures.command c.in_ok-text.ensures.reads c.as_slice.ensures c.in-Ok.ensures.answered refl
          (fails (g.W.Sink.taken c.args.out.now) (g.W.Sink.taken c.write_all.new.out) (g.W.Sink.faults c.args.out.now) (g.W.Sink.faults c.write_all.new.out)
          c.as_slice-2.result.now c.in-Ok.told.text c.in-Err-write_all.field-0 c.as_slice-2.ensures c.in-Err-write_all.ensures.cause c.in-Err-write_all.ensures.bytes),
    )

pub returns-then-told-clause-comes : goal.returns-then-told-clause-comes
returns-then-told-clause-comes g c =
    let s = sides (g.Y.Yard.returned c.args.yard.now) (g.Y.Yard.returned c.answer.new.yard) (g.L.Link.traffic c.args.net.now) (g.L.Link.traffic c.answer.new.net) (g.L.Link.faults c.args.net.now) (g.L.Link.faults c.answer.new.net)
    (g.S.Spawner.family c.args.kids.now) (g.S.Spawner.family c.answer.new.kids) (g.S.Spawner.faults c.args.kids.now) (g.S.Spawner.faults c.answer.new.kids) in
    outputs _ c.in_ok-command.command (g.R.Source.left c.args.input.now) (g.R.Source.left c.read_input.new.input) s c.in_ok-text.text c.as_slice.result.now c.in-Ok.told true
    (WritesWhole (seen (g.W.Sink.taken c.args.out.now) (g.W.Sink.faults c.args.out.now)) (seen (g.W.Sink.taken c.write_all.new.out) (g.W.Sink.faults c.write_all.new.out)))
    c.in_ok-command.ensures.command c.in_ok-text.ensures.reads c.as_slice.ensures c.in-Ok.ensures.answered c.if-told.true
    (writes (g.W.Sink.taken c.args.out.now) (g.W.Sink.taken c.write_all.new.out) (g.W.Sink.faults c.args.out.now) (g.W.Sink.faults c.write_all.new.out)
    c.as_slice-2.result.now c.in-Ok.told.text c.as_slice-2.ensures c.in-Ok-write_all.ensures.bytes)

pub returns-clause-comes : goal.returns-clause-comes
returns-clause-comes g c =
    let s = sides (g.Y.Yard.returned c.args.yard.now) (g.Y.Yard.returned c.answer.new.yard) (g.L.Link.traffic c.args.net.now) (g.L.Link.traffic c.answer.new.net) (g.L.Link.faults c.args.net.now) (g.L.Link.faults c.answer.new.net)
    (g.S.Spawner.family c.args.kids.now) (g.S.Spawner.family c.answer.new.kids) (g.S.Spawner.faults c.args.kids.now) (g.S.Spawner.faults c.answer.new.kids) in
    outputs _ c.in_ok-command.command (g.R.Source.left c.args.input.now) (g.R.Source.left c.read_input.new.input) s c.in_ok-text.text c.as_slice.result.now c.in-Ok.told false
    (WritesWhole (seen (g.W.Sink.taken c.args.out.now) (g.W.Sink.faults c.args.out.now)) (seen (g.W.Sink.taken c.write_all.new.out) (g.W.Sink.faults c.write_all.new.out)))
    c.in_ok-command.ensures.command c.in_ok-text.ensures.reads c.as_slice.ensures c.in-Ok.ensures.answered c.if-told.false
    (writes (g.W.Sink.taken c.args.out.now) (g.W.Sink.taken c.write_all.new.out) (g.W.Sink.faults c.args.out.now) (g.W.Sink.faults c.write_all.new.out)
    c.as_slice-2.result.now c.in-Ok.told.text c.as_slice-2.ensures c.in-Ok-write_all.ensures.bytes)

pub returns-in-Err-write_all-clause-yard : goal.returns-in-Err-write_all-clause-yard
returns-in-Err-write_all-clause-yard g c = unused uses_yard _ c.in_ok-command.command _ c.in_ok-command.ensures.command c.in-Ok.ensures.yard

pub returns-in-Err-write_all-clause-net : goal.returns-in-Err-write_all-clause-net
returns-in-Err-write_all-clause-net g c = unused uses_net _ c.in_ok-command.command _ c.in_ok-command.ensures.command c.in-Ok.ensures.net

pub returns-in-Err-write_all-clause-kids : goal.returns-in-Err-write_all-clause-kids
returns-in-Err-write_all-clause-kids g c = unused uses_kids _ c.in_ok-command.command _ c.in_ok-command.ensures.command c.in-Ok.ensures.kids

pub returns-then-told-clause-yard : goal.returns-then-told-clause-yard
returns-then-told-clause-yard g c = unused uses_yard _ c.in_ok-command.command _ c.in_ok-command.ensures.command c.in-Ok.ensures.yard

pub returns-then-told-clause-net : goal.returns-then-told-clause-net
returns-then-told-clause-net g c = unused uses_net _ c.in_ok-command.command _ c.in_ok-command.ensures.command c.in-Ok.ensures.net

pub returns-then-told-clause-kids : goal.returns-then-told-clause-kids
returns-then-told-clause-kids g c = unused uses_kids _ c.in_ok-command.command _ c.in_ok-command.ensures.command c.in-Ok.ensures.kids

pub returns-clause-yard : goal.returns-clause-yard
returns-clause-yard g c = unused uses_yard _ c.in_ok-command.command _ c.in_ok-command.ensures.command c.in-Ok.ensures.yard

pub returns-clause-net : goal.returns-clause-net
returns-clause-net g c = unused uses_net _ c.in_ok-command.command _ c.in_ok-command.ensures.command c.in-Ok.ensures.net

pub returns-clause-kids : goal.returns-clause-kids
returns-clause-kids g c = unused uses_kids _ c.in_ok-command.command _ c.in_ok-command.ensures.command c.in-Ok.ensures.kids
