use Rattle.std.proofs.Common.{◌≡◌, drop}
use Rattle.iter_check.specs.FaultList.{with_args}
use Rattle.iter_check.proofs.iterator.declare_args.Given as goal

abbrev pub invariant-listed : goal.invariant-listed
invariant-listed l = with_args l.args l.fn.scope.items ≡ with_args (drop l.arg-index l.args) l.scope.items
