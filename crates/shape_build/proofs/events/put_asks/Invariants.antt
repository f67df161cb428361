use Rattle.std.proofs.Common.{◌≡◌, ◌++◌}
use Rattle.std.specs.Prelude.{codes}
use Rattle.shape_build.specs.Text.{below}
use Rattle.shape_build.specs.Requests.{event_line}
use Rattle.shape_build.proofs.events.put_asks.Given as goal

abbrev pub invariant-asks : goal.invariant-asks
invariant-asks l = l.text ≡ l.fn.text ++ below l.r (event_line (codes "ask "))
