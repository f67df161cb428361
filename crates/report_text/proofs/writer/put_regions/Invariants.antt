use Rattle.std.proofs.Common.{◌≡◌, ◌++◌, drop}
use Rattle.report_text.specs.Report.{each_line, region_line}
use Rattle.report_text.proofs.writer.put_regions.Given as goal

abbrev pub invariant-regions : goal.invariant-regions
invariant-regions l = l.fn.text ++ each_line region_line 0 l.regions ≡ l.text ++ each_line region_line l.i (drop l.i l.regions)
