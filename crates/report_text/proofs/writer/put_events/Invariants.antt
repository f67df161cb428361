use Rattle.std.proofs.Common.{◌≡◌, ◌++◌, drop}
use Rattle.report_text.specs.Report.{each_line, event_line}
use Rattle.report_text.proofs.writer.put_events.Given as goal

abbrev pub invariant-events : goal.invariant-events
invariant-events l = l.fn.text ++ each_line event_line 0 l.traces ≡ l.text ++ each_line event_line l.k (drop l.k l.traces)
