use Rattle.std.proofs.Common.{refl, ◌∙◌}
use Rattle.shape_build.specs.Text.{head_text}
use Rattle.shape_build.proofs.Below.{joined_six}
use Rattle.shape_build.proofs.text.put_head.Goals as goal

pub returns : goal.returns
unfolding head_text
returns c =
    joined_six _ _ _ _ _ _ _ _ _ _ _ _ _ c.in_ok-put.ensures c.in_ok-put-2.ensures c.in_ok-put-3.ensures c.in_ok-put_line.ensures c.in_ok-put_line-2.ensures c.in_ok-put-4.ensures ∙ refl
