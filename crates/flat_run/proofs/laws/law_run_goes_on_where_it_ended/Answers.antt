use Rattle.flat_run.proofs.RunLaws.{run_appends}
use Rattle.flat_run.proofs.laws.law_run_goes_on_where_it_ended.Goals as goal

pub returns : goal.returns
returns c = run_appends
