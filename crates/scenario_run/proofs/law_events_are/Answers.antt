use Rattle.scenario_run.proofs.Happening as laws
use Rattle.scenario_run.proofs.law_events_are.Goals as goal

pub returns : goal.returns
returns c = laws.events_are
