use Rattle.std.proofs.Common.{◌≡◌, drop}
use Rattle.iter_check.specs.First.Least.{each}
use Rattle.iter_check.specs.First.Decl.{first_iter}
use Rattle.iter_check.proofs.checker.check_iters.Given as goal

abbrev pub invariant-walk : goal.invariant-walk
invariant-walk l = each (first_iter l.records) l.iters l.fn.best ≡ each (first_iter l.records) (drop l.it-index l.iters) l.best
