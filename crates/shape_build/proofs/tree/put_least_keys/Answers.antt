use Rattle.shape_build.proofs.Below.{begins, goes_on}
use Rattle.std.proofs.Common.{◌++◌, ap, ◌∙◌}
use Rattle.shape_build.specs.Text.{word}
use Rattle.shape_build.proofs.tree.put_least_keys.Goals as goal

pub keys-init : goal.keys-init
keys-init c = begins _ _

pub keys-preserved : goal.keys-preserved
keys-preserved c = goes_on _ _ _ _ _ c.keys.invariant (c.in_ok-put_word.ensures ∙ ap (λ k. c.keys.text ++ word k) c.used.ensures)
