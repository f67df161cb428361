use Rattle.shape_build.proofs.Below.{begins, goes_on}
use Rattle.shape_build.proofs.events.put_asks.Goals as goal

pub asks-init : goal.asks-init
asks-init c = begins _ _

pub asks-preserved : goal.asks-preserved
asks-preserved c = goes_on _ _ _ _ _ c.asks.invariant c.in_ok-put_event_line.ensures
