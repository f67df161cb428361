use Rattle.std.proofs.Common.{sym, ◌∙◌, inr, arith}
use Rattle.frame_codec.proofs.Frames.{spelled_passes, refused_first}
use Rattle.frame_codec.proofs.decoding.decode.Goals as goal

pub returns-in-Some-clause-only : goal.returns-in-Some-clause-only
returns-in-Some-clause-only c = λ frame spells.
    let passes = spelled_passes c.args.bytes.now c.read.result.0 c.read.result.1.now frame c.read.ensures spells in
    absurd (cc (passes, c.first_fault.ensures, c.in-Some.is))

pub returns-in-Some-clause-refused : goal.returns-in-Some-clause-refused
returns-in-Some-clause-refused c = inr (c.read.result.0, c.read.result.1.now, c.read.ensures, sym c.first_fault.ensures ∙ c.in-Some.is)

pub returns-in-Some-clause-first : goal.returns-in-Some-clause-first
returns-in-Some-clause-first c = λ bad refuses.
    let first = refused_first c.args.bytes.now c.read.result.0 c.read.result.1.now bad (omega arith) c.read.ensures refuses in
    cc (first, c.first_fault.ensures, c.in-Some.is)

pub returns-in-None-clause-first : goal.returns-in-None-clause-first
returns-in-None-clause-first c = λ bad refuses.
    let first = refused_first c.args.bytes.now c.read.result.0 c.read.result.1.now bad (omega arith) c.read.ensures refuses in
    absurd (cc (first, c.first_fault.ensures, c.in-None.is))
