use Rattle.std.proofs.Common.{◌≡◌, ◌-◌, ◌≤◌, length, take, drop, []}
use Rattle.iter_check.specs.First.Decl.{first_twice}
use Rattle.iter_check.proofs.declared.check_names.Given as goal

abbrev pub invariant-items : goal.invariant-items
invariant-items g l = (first_twice g.T.Declared.word [] l.items l.fn.best ≡ first_twice g.T.Declared.word (take l.at l.items) (drop l.at l.items) l.best) × (l.at ≤ length l.items)

abbrev pub decreases-items : goal.decreases-items
decreases-items g l = length l.items - l.at
