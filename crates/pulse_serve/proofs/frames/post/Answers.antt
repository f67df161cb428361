use Rattle.std.proofs.Common.{sym, subst}
use Rattle.frame_codec.specs.Spelling.{Spells}
use Rattle.pulse_serve.proofs.Traffics.{posted}
use Rattle.pulse_serve.proofs.frames.post.Goals as goal

pub returns-clause-sent : goal.returns-clause-sent
returns-clause-sent g c = posted _ _ _ _ c.args.frame.now _ c.send.ensures.traffic (subst (λ l. Spells l c.args.frame.now) (sym c.as_slice.ensures.value) c.encode.ensures)
