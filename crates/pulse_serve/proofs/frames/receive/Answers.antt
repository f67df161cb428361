use Rattle.std.proofs.Common.{arith}
use Rattle.pulse_serve.proofs.Traffics.{came_gap, came_frame, came_noise}
use Rattle.pulse_serve.proofs.frames.receive.Goals as goal

pub returns-in-Ok-Nothing-clause-came : goal.returns-in-Ok-Nothing-clause-came
returns-in-Ok-Nothing-clause-came g c =
    came_gap (g.L.Link.traffic c.args.link.now) (g.L.Link.traffic c.receive.new.self) c.args.wait c.receive.new.buf c.in-Ok-Nothing.field-0 c.in-Ok-Nothing.ensures.traffic c.in-Ok-Nothing.field-0-is

pub returns-in-Ok-clause-came : goal.returns-in-Ok-clause-came
returns-in-Ok-clause-came g c =
    came_frame (g.L.Link.traffic c.args.link.now) (g.L.Link.traffic c.receive.new.self) c.args.wait c.receive.new.buf c.in-Ok-Frame.field-0 _ c.in-Ok-Frame.len c.in-Ok.frame
    c.in-Ok-Frame.ensures.traffic c.in-Ok-Frame.field-0-is (omega (arith, c.receive.auto.buf, c.requires)) c.in-Ok.ensures.frame

pub returns-in-Err-decode-clause-came : goal.returns-in-Err-decode-clause-came
returns-in-Err-decode-clause-came g c =
    came_noise (g.L.Link.traffic c.args.link.now) (g.L.Link.traffic c.receive.new.self) c.args.wait c.receive.new.buf c.in-Ok-Frame.field-0 _ c.in-Ok-Frame.len c.in-Err-decode.field-0
    c.in-Ok-Frame.ensures.traffic c.in-Ok-Frame.field-0-is (omega (arith, c.receive.auto.buf, c.requires)) c.in-Err-decode.ensures.only
