use Rattle.std.proofs.Common.{ap, ◌∙◌, replicate}
use Rattle.iter_check.specs.Layout.{size_of}
use Rattle.iter_check.specs.Iteration.{with_arguments}
use Rattle.std.specs.Prelude.{[]}
use Rattle.flat_run.specs.Views.Interpreter.{outcome_of}
use Rattle.flat_run.proofs.StsLaws.{begun_by}
use Rattle.flat_run.proofs.iteration.begin.Goals as goal

pub returns : goal.returns
returns c =
    c.after_init.ensures
    ∙ begun_by c.args.it.now c.args.values.now c.as_slice.result.now c.as_slice-4.result.now c.new.result.items c.in_ok-pad.pad.items c.in_ok-names.names (outcome_of c.in_ok-ending.ending c.run_row.new.state) c.in_ok-ending.ensures c.as_slice.ensures c.as_slice-4.ensures c.new.ensures.items
    (c.in_ok-pad.ensures ∙ ap (λ fs. replicate (size_of fs) 0) c.as_slice-2.ensures)
    (c.in_ok-names.ensures ∙ ap (λ args. with_arguments args c.args.values.now []) c.as_slice-3.ensures)
