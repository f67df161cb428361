use Rattle.std.proofs.Common.{◌≡◌, ◌++◌, map}
use Rattle.std.specs.Vec.Iter.{into_iter_items}
use Rattle.client_core.specs.inner.View.{new_entry}
use Rattle.client_core.proofs.client.Client.make.Given as goal

abbrev pub invariant-loop-plan : goal.invariant-loop-plan
invariant-loop-plan l = (l.found.entries ≡ map new_entry l.yielded) × (l.yielded ++ into_iter_items l.plan-iterator ≡ l.fn.requests)
