use Rattle.std.proofs.Common.{◌≡◌, drop}
use Rattle.iter_check.specs.First.Least.{each}
use Rattle.iter_check.specs.First.Decl.{first_record}
use Rattle.iter_check.proofs.checker.check_records.Given as goal

abbrev pub invariant-walk : goal.invariant-walk
invariant-walk l = each first_record l.records l.fn.best ≡ each first_record (drop l.decl-index l.records) l.best
