use Rattle.scenario_run.proofs.Settings as laws
use Rattle.scenario_run.proofs.law_setting_is.Goals as goal

pub returns : goal.returns
returns c = laws.setting_is
