use Rattle.std.proofs.Common.{sym, subst}
use Rattle.replay.specs.inner.Held.{AreHeld}
use Rattle.replay.proofs.telling.outcome_of.Goals as goal

pub regions_of-requires-clause-held : goal.regions_of-requires-clause-held
regions_of-requires-clause-held g c = subst (AreHeld c.args.world.now) (sym c.as_slice-2.ensures) c.requires.held
