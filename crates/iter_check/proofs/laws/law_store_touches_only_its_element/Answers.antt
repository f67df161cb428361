use Rattle.iter_check.proofs.StoreLaws.{stores_alone}
use Rattle.iter_check.proofs.laws.law_store_touches_only_its_element.Goals as goal

pub returns : goal.returns
returns c = stores_alone
