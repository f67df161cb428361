use Rattle.std.proofs.Common.{sym, ap, ◌∙◌}
use Rattle.iter_syntax.specs.Tree.{sts}
use Rattle.iter_syntax.proofs.FoldLaws.{block_is}
use Rattle.iter_check.specs.First.Count.{count}
use Rattle.iter_check.proofs.nodes.+nodes.Goals as goal

pub count_block-returns-clause-same : goal.count_block-returns-clause-same
count_block-returns-clause-same t c =
    c.count_row.ensures.same ∙ ap (λ ss. count c.args.count (sts ss)) c.as_slice.ensures ∙ ap (count c.args.count) (sym (block_is c.args.body.now))
