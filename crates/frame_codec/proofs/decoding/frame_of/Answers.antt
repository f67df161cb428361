use Rattle.std.proofs.Common.{arith}
use Rattle.frame_codec.proofs.Frames.{back_pad, back_made, stop_made}
use Rattle.frame_codec.proofs.decoding.frame_of.Goals as goal

pub of-requires-in-2-clause-fit : goal.of-requires-in-2-clause-fit
of-requires-in-2-clause-fit c = (back_pad c.args.header.now c.args.pad.now c.requires c.in-2.is).1

pub returns-in-2 : goal.returns-in-2
returns-in-2 c = back_made c.args.header.now c.args.pad.now c.of-in-2.result c.ending_of.result c.requires c.in-2.is c.of-in-2.ensures c.ending_of.ensures.number c.ending_of.ensures.fault

pub returns-in_default : goal.returns-in_default
returns-in_default c = stop_made c.args.header.now c.args.pad.now c.requires (λ e. omega arith) (λ e. omega arith)
