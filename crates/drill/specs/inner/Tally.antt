-- The numbers of answers, counted together.
use Rattle.std.specs.Prelude.{◌+◌, cond, List}
use Rattle.pulse_base.specs.declared.answer.Answer.{Answer}
use Rattle.drill.specs.declared.tally.Tally.{Tally}
use Rattle.drill.specs.Summary.{is_done, is_fault, is_spent, is_silent, how_many}

abbrev pub tally_of : List Answer → Tally
tally_of answers = record {
  done = how_many is_done answers;
  faults = how_many is_fault answers;
  spent = how_many is_spent answers;
  silent = how_many is_silent answers;
}

-- one answer more
abbrev pub counted : Tally → Answer → Tally
counted tally answer = record {
  done = tally.done + cond (is_done answer) 1 0;
  faults = tally.faults + cond (is_fault answer) 1 0;
  spent = tally.spent + cond (is_spent answer) 1 0;
  silent = tally.silent + cond (is_silent answer) 1 0;
}
