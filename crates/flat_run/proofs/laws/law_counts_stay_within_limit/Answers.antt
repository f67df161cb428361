use Rattle.flat_run.proofs.LimitLaws.{limits_stay}
use Rattle.flat_run.proofs.laws.law_counts_stay_within_limit.Goals as goal

pub returns : goal.returns
returns c = limits_stay
