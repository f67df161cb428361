use Rattle.flat_hoist.specs.Hoisted.{StandsFor}
use Rattle.flat_hoist.proofs.slots.hoist.Given as goal

abbrev pub invariant-fields : goal.invariant-fields
invariant-fields l = StandsFor l.fn.flat l.hoisted
