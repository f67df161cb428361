use Rattle.std.proofs.Common.{◌≡◌, ◌+◌, ◌++◌}
use Rattle.shape_build.specs.Text.{below, before_record}
use Rattle.shape_build.specs.Tree.{above, group_text}
use Rattle.shape_build.proofs.tree.put_groups.Given as goal

abbrev pub invariant-groups : goal.invariant-groups
invariant-groups l = l.text ≡ l.fn.text ++ below l.g (λ g. before_record l.cut ((above l.level).first + g) ++ group_text l.level g)
