use Rattle.std.proofs.Common.{ℕ, ◌≡◌, ◌+◌, ◌*◌, List, ◌++◌, arith, rules}
use Rattle.shape_build.specs.Draws.{draw, Drawn}
use Rattle.shape_build.specs.Requests.{event_text}
use Rattle.shape_build.proofs.Below.{begins, goes_on}
use Rattle.shape_build.proofs.events.put_drawn_events.Goals as goal

same_event : (now next : List ℕ) (requests e a b seed first : ℕ) (was after : Drawn) →
    was ≡ record { seed = seed; count = first + 2 * e } → a ≡ draw was.seed was.count →
    after ≡ record was { count = was.count + 1 } → b ≡ draw after.seed after.count → next ≡ now ++ event_text requests e a b →
    next ≡ now ++ event_text requests e (draw seed (first + 2 * e)) (draw seed (first + 2 * e + 1))
same_event now next requests e a b seed first was after p q r s t = cc

two_draws : (seed first e : ℕ) (was after end : Drawn) → was ≡ record { seed = seed; count = first + 2 * e } →
    after ≡ record was { count = was.count + 1 } → end ≡ record after { count = after.count + 1 } →
    end ≡ record { seed = seed; count = first + 2 * (e + 1) }
two_draws seed first e was after end p q r =
    let k : first + 2 * e + 1 + 1 ≡ first + 2 * (e + 1) = omega arith in
    cc

pub events-init : goal.events-init
events-init c = (begins _ _, search rules)

pub events-preserved : goal.events-preserved
events-preserved c = (
  goes_on _ _ _ _ _ c.events.invariant.0 (same_event _ _ _ _ _ _ _ _ _ _ c.events.invariant.1 c.draw-a.ensures.value c.draw-a.ensures.next c.draw-b.ensures.value c.in_ok-put_event.ensures),
  two_draws _ _ _ _ _ _ c.events.invariant.1 c.draw-a.ensures.next c.draw-b.ensures.next,
)
