use Rattle.std.proofs.Common.{◌≡◌, drop}
use Rattle.iter_check.specs.First.Decl as fd
use Rattle.iter_check.proofs.checker.first_code.Given as goal

abbrev pub invariant-walk : goal.invariant-walk
invariant-walk l = fd.first_code l.iters ≡ fd.first_code (drop l.it-index l.iters)
