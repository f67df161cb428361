use Rattle.std.proofs.Common.{refl, ◌∙◌}
use Rattle.shape_build.specs.Text.{region_head}
use Rattle.shape_build.proofs.Below.{joined_four}
use Rattle.shape_build.proofs.text.put_region_head.Goals as goal

pub returns : goal.returns
unfolding region_head
returns c =
    joined_four _ _ _ _ _ _ _ _ _ c.in_ok-put.ensures c.in_ok-put_line.ensures c.in_ok-put_line-2.ensures c.in_ok-put-2.ensures ∙ refl
