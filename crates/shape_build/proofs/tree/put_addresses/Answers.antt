use Rattle.shape_build.proofs.Below.{begins, goes_on}
use Rattle.std.proofs.Common.{◌++◌, ap, ◌∙◌}
use Rattle.shape_build.specs.Text.{word}
use Rattle.shape_build.proofs.tree.put_addresses.Goals as goal

pub kids-init : goal.kids-init
kids-init c = begins _ _

pub kids-preserved : goal.kids-preserved
kids-preserved c = goes_on _ _ _ _ _ c.kids.invariant (c.in_ok-put_word.ensures ∙ ap (λ k. c.kids.text ++ word k) c.used.ensures)
