use Rattle.std.proofs.Common.{append_assoc}
use Rattle.drill.proofs.summary.shape_line.Goals as goal

pub returns : goal.returns
returns c = simp append_assoc (rw (← c.word.ensures) c.format.ensures.ok)
