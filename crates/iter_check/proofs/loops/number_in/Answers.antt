use Rattle.std.proofs.Common.{sym, ◌∙◌, arith}
use Rattle.iter_check.specs.Layout.{text}
use Rattle.iter_check.proofs.IndexLaws.{number_step, number_done}
use Rattle.iter_check.proofs.loops.number_in.Goals as goal

pub around-preserved : goal.around-preserved
around-preserved c =
    c.around.invariant
    ∙ number_step (text c.args.name.now) c.args.loops.now c.args.turn.now c.around.i c.index-loops-i.result (omega arith) (omega arith) c.index-loops-i.is
    (cc (c.eq.ensures, c.if-eq.false, c.as_slice.ensures, c.as_slice-in-around.ensures.value))

pub returns-else-i-turn : goal.returns-else-i-turn
returns-else-i-turn c = sym (c.around.invariant ∙ number_done (text c.args.name.now) c.args.loops.now c.args.turn.now c.around.i (omega arith))
