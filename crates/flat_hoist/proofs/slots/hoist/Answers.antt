use Rattle.flat_hoist.proofs.Whole.{stands_then}
use Rattle.flat_hoist.proofs.slots.hoist.Goals as goal

pub fields-preserved : goal.fields-preserved
fields-preserved c = stands_then c.args.flat c.fields.hoisted c.in_ok-hoisted.hoisted c.fields.invariant c.in_ok-hoisted.ensures
