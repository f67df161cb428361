use Rattle.std.proofs.Common.{ℕ, ◌≡◌, ◌-◌, List, [], ◌++◌, sym, ap, ◌∙◌, append-nil}
use Rattle.shape_build.specs.Tree.{group_rows, upper_rows}
use Rattle.shape_build.proofs.Below.{joined}
use Rattle.shape_build.proofs.Rising.{upper_at_none, upper_at_one, upper_above}
use Rattle.shape_build.proofs.tree.+put_upper.Goals.{then-most-eq0-via-then-most-eq0, then-most-eq0-via-else-most-eq0+then-level-le1}
use Rattle.shape_build.proofs.tree.+put_upper.Goals as goal

nothing : (old more : List ℕ) → more ≡ [] → old ≡ old ++ more
nothing old more e = rw e (sym (append-nil old))

pub returns-then-most-eq0 : goal.returns-then-most-eq0
returns-then-most-eq0 t c =
    elim c.then-most-eq0.branch [
      | then-most-eq0-via-then-most-eq0 w ↦ nothing _ _ (upper_at_none _ _ _ w.if-most-eq0.true)
      | then-most-eq0-via-else-most-eq0+then-level-le1 w ↦ nothing _ _ (upper_at_one _ _ _ w.if-level-le1.true)
    ]

pub returns : goal.returns
returns t c =
    joined _ _ _ _ _ c.in_ok-put_groups.ensures c.in_ok-put_upper.ensures
    ∙ ap (λ u. c.args.text.now ++ u)
    (ap (λ l. group_rows c.args.cut.now c.args.level.now ++ upper_rows (c.args.most - 1) c.args.cut.now l) c.above.ensures.level
    ∙ sym (upper_above _ _ _ c.if-most-eq0.false c.if-level-le1.false))
