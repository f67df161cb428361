use Rattle.std.proofs.Common.{◌≡◌, ◌++◌, drop}
use Rattle.report_text.specs.Report.{order_text}
use Rattle.report_text.proofs.writer.put_turns.Given as goal

abbrev pub invariant-turns : goal.invariant-turns
invariant-turns l = l.fn.text ++ order_text l.order ≡ l.text ++ order_text (drop l.r-index l.order)
