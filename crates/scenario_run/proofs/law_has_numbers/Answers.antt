use Rattle.scenario_run.proofs.Settings as laws
use Rattle.scenario_run.proofs.law_has_numbers.Goals as goal

pub returns : goal.returns
returns c = laws.has_numbers
