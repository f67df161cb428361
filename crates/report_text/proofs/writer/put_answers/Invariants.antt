use Rattle.std.proofs.Common.{◌≡◌, ◌++◌, drop}
use Rattle.report_text.specs.Report.{each_line, answer_line}
use Rattle.report_text.proofs.writer.put_answers.Given as goal

abbrev pub invariant-answers : goal.invariant-answers
invariant-answers l = l.fn.text ++ each_line answer_line 0 l.answers ≡ l.text ++ each_line answer_line l.r (drop l.r l.answers)
