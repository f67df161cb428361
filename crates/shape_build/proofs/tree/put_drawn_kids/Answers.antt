use Rattle.std.proofs.Common.{◌+◌, ◌++◌, sym, ap, ◌∙◌, arith}
use Rattle.shape_build.specs.Draws.{draw}
use Rattle.shape_build.specs.Text.{word}
use Rattle.shape_build.proofs.Below.{begins, goes_on}
use Rattle.shape_build.proofs.Drawing.{drawn_so_far, drawn_value, drawn_next}
use Rattle.shape_build.proofs.Filled.{filled_used, filled_unused}
use Rattle.shape_build.proofs.tree.put_drawn_kids.Goals as goal

pub kids-init : goal.kids-init
kids-init c = (begins _ _, drawn_so_far _ _ (omega arith))

pub kids-preserved : goal.kids-preserved
kids-preserved c =
    let d = drawn_value _ _ _ _ c.kids.invariant.1 c.draw.ensures.value in (
      goes_on _ _ _ _ _ c.kids.invariant.0 (c.in_ok-put_word.ensures ∙ ap (λ k. c.kids.text ++ k) (ap word d ∙ sym (filled_used c.args.count c.kids._j (λ j. draw c.args.draws.now.seed (c.args.draws.now.count + j)) c.kids-test.true))),
      drawn_next _ _ _ _ _ c.kids.invariant.1 c.draw.ensures.next (omega arith),
    )

pub zeros-preserved : goal.zeros-preserved
zeros-preserved c =
    (goes_on _ _ _ _ _ c.zeros.invariant.0 (c.in_ok-put_word-2.ensures ∙ ap (λ k. c.zeros.text ++ k) (sym (filled_unused c.args.count c.zeros._j (λ j. draw c.args.draws.now.seed (c.args.draws.now.count + j)) c.zeros.invariant.1))), omega arith)
