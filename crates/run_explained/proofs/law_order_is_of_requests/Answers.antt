use Rattle.run_explained.proofs.Named as laws
use Rattle.run_explained.proofs.law_order_is_of_requests.Goals as goal

pub returns : goal.returns
returns c = laws.order_is_of_requests
