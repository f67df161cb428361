use Rattle.std.proofs.Common.{◌≡◌, ◌+◌, ◌*◌, ◌++◌}
use Rattle.shape_build.specs.Draws.{draw}
use Rattle.shape_build.specs.Text.{below}
use Rattle.shape_build.specs.Requests.{event_text}
use Rattle.shape_build.proofs.events.put_drawn_events.Given as goal

abbrev pub invariant-events : goal.invariant-events
invariant-events l =
    (l.text ≡ l.fn.text ++ below l.e (λ e. event_text l.requests e (draw l.fn.draws.seed (l.fn.draws.count + 2 * e)) (draw l.fn.draws.seed (l.fn.draws.count + 2 * e + 1))))
    × (l.draws ≡ record l.fn.draws { count = l.fn.draws.count + 2 * l.e })
