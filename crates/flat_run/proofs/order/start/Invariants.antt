use Rattle.std.proofs.Common.{◌≡◌, ◌++◌, drop, map}
use Rattle.flat_run.specs.Walk.{walks_of}
use Rattle.flat_run.specs.Request.{asked}
use Rattle.flat_run.proofs.order.start.Given as goal

abbrev pub invariant-walks : goal.invariant-walks
invariant-walks l = l.requests ++ map asked (walks_of (drop l.walk-index l.walks)) ≡ map asked (walks_of l.walks)
