use Rattle.scenario_run.proofs.Worlds as laws
use Rattle.scenario_run.proofs.law_start_is.Goals as goal

pub returns : goal.returns
returns c = laws.start_is
