use Rattle.std.proofs.Common.{subst}
use Rattle.world_core.specs.inner.Fits.{IsScene}
use Rattle.world_core.proofs.Runs.{here_of, result_so, result_plain, result_stays}
use Rattle.world_core.proofs.Resting.{result_rests}
use Rattle.world_core.proofs.world.World.event.Goals as goal

pub returns-clause-step : goal.returns-clause-step
returns-clause-step g c = result_so c.args.self.now c.happen.new.self c.args.event c.happen.result (subst IsScene c.self.view_is c.self.invariant.1) c.happen.ensures.happens c.happen.ensures.stays

pub returns-clause-plain : goal.returns-clause-plain
returns-clause-plain g c = result_plain c.args.self.now c.happen.new.self c.args.event c.happen.result (subst IsScene c.self.view_is c.self.invariant.1) c.happen.ensures.happens

pub happen-requires : goal.happen-requires
happen-requires g c = record { there = here_of c.args.self.now c.args.event c.requires.there }

pub returns-clause-stays : goal.returns-clause-stays
returns-clause-stays g c = result_stays c.args.self.now c.happen.new.self c.happen.result c.happen.ensures.stays c.happen.ensures.err

pub returns-clause-rest : goal.returns-clause-rest
returns-clause-rest g c = result_rests c.args.self.now c.happen.new.self c.args.event c.happen.result c.happen.ensures.happens
