use Rattle.std.proofs.Common.{◌≡◌, ◌+◌}
use Rattle.shape_build.proofs.draws.Draws.skip.Given as goal

abbrev pub invariant-draws : goal.invariant-draws
invariant-draws l = l.self ≡ record l.fn.self { count = l.fn.self.count + l._k }
