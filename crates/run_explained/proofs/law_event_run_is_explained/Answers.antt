use Rattle.run_explained.proofs.Explained as laws
use Rattle.run_explained.proofs.law_event_run_is_explained.Goals as goal

pub returns : goal.returns
returns c = laws.event_run_is_explained
