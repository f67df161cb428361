use Rattle.std.proofs.Common.{ap, arith}
use Rattle.drill.specs.Summary.{is_done, is_fault, is_spent, is_silent}
use Rattle.drill.proofs.Counting.{count_fits, tally_more}
use Rattle.drill.proofs.tally.Tally.of.Goals as goal

pub count-requires : goal.count-requires
count-requires c =
    let answers = c.args.answers.now in
    let i = c.answers.answer-index in
    record {
      done = count_fits is_done answers i c.answers.tally.done (omega arith) (ap (λ t. t.done) c.answers.invariant);
      faults = count_fits is_fault answers i c.answers.tally.faults (omega arith) (ap (λ t. t.faults) c.answers.invariant);
      spent = count_fits is_spent answers i c.answers.tally.spent (omega arith) (ap (λ t. t.spent) c.answers.invariant);
      silent = count_fits is_silent answers i c.answers.tally.silent (omega arith) (ap (λ t. t.silent) c.answers.invariant);
    }

pub answers-preserved : goal.answers-preserved
answers-preserved c =
    let more = tally_more c.args.answers.now c.answers.answer-index c.answer-item.result c.answers-test.true c.answer-item.is in
    cc
