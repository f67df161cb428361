use Rattle.std.proofs.Common.{◌≡◌, drop}
use Rattle.iter_check.specs.First.Least.{each}
use Rattle.iter_check.specs.First.Decl.{first_iter_indices}
use Rattle.iter_check.proofs.checker.index_iters.Given as goal

abbrev pub invariant-walk : goal.invariant-walk
invariant-walk l = each (first_iter_indices l.records) l.iters l.fn.best ≡ each (first_iter_indices l.records) (drop l.it-index l.iters) l.best
