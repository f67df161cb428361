use Rattle.flat_run.proofs.CountLaws.{counts_are}
use Rattle.flat_run.proofs.laws.law_counts_are_places.Goals as goal

pub returns : goal.returns
returns c = counts_are
