use Rattle.scenario_run.proofs.Running as laws
use Rattle.scenario_run.proofs.law_turn_runs.Goals as goal

pub returns : goal.returns
returns c = laws.turn_runs
