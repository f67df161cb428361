use Rattle.std.proofs.Common.{◌-◌, ap, ◌∙◌}
use Rattle.shape_build.specs.Tree.{root}
use Rattle.shape_build.proofs.Rising.{root_at_none, root_at_one, root_above}
use Rattle.shape_build.proofs.tree.+root.Goals.{then-most-eq0-via-then-most-eq0, then-most-eq0-via-else-most-eq0+then-level-le1}
use Rattle.shape_build.proofs.tree.+root.Goals as goal

pub returns-then-most-eq0-clause-level : goal.returns-then-most-eq0-clause-level
returns-then-most-eq0-clause-level t c =
    elim c.then-most-eq0.branch [
      | then-most-eq0-via-then-most-eq0 w ↦ root_at_none _ _ w.if-most-eq0.true
      | then-most-eq0-via-else-most-eq0+then-level-le1 w ↦ root_at_one _ _ w.if-level-le1.true
    ]

pub returns-clause-level : goal.returns-clause-level
returns-clause-level t c =
    c.root.ensures.level ∙ ap (root (c.args.most - 1)) c.above.ensures.level ∙ root_above _ _ c.if-most-eq0.false c.if-level-le1.false
