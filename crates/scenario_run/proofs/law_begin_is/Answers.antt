use Rattle.scenario_run.proofs.Codes as laws
use Rattle.scenario_run.proofs.law_begin_is.Goals as goal

pub returns : goal.returns
returns c = laws.begin_is
