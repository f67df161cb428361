use Rattle.std.proofs.Common.{◌≡◌, ◌-◌, [], length, drop}
use Rattle.iter_check.specs.Iteration.{with_arguments}
use Rattle.flat_run.proofs.iteration.arguments.Given as goal

abbrev pub invariant-each : goal.invariant-each
invariant-each l = with_arguments l.args l.values [] ≡ with_arguments (drop l.at l.args) (drop l.at l.values) l.names

abbrev pub decreases-each : goal.decreases-each
decreases-each l = length l.args - l.at
