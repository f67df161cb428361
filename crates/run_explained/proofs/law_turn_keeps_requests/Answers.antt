use Rattle.run_explained.proofs.Requests as laws
use Rattle.run_explained.proofs.law_turn_keeps_requests.Goals as goal

pub returns : goal.returns
returns c = laws.turn_keeps_requests
