use Rattle.flat_walk.proofs.OneReport.{one_report}
use Rattle.flat_walk.proofs.laws.law_one_report.Goals as goal

pub returns : goal.returns
returns c = one_report
