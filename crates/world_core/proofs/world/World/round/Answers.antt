use Rattle.std.proofs.Common.{Some, sym, subst}
use Rattle.pulse_base.specs.declared.event.Event.TheVariants.{Deliver}
use Rattle.world_core.specs.inner.Drains.{StartedOn}
use Rattle.world_core.proofs.Drains.{before_keeps, before_lasts, event_keeps, happened, keeps_more, plain_lasts, round_alone, round_started, round_there, stays_lasts}
use Rattle.world_core.proofs.world.World.round.Goals as goal

pub returns-in_err-told-clause-keeps : goal.returns-in_err-told-clause-keeps
returns-in_err-told-clause-keeps g c = before_keeps c.args.self.now c.event.new.self c.in_err-told.ensures.err

pub returns-in_err-told-clause-stays : goal.returns-in_err-told-clause-stays
returns-in_err-told-clause-stays g c = before_lasts c.args.self.now c.event.new.self c.in_err-told.ensures.err

pub settle-requires-clause-here : goal.settle-requires-clause-here
settle-requires-clause-here g c = round_there c.args.self.now c.event.new.self c.last-number.result.0 c.from.result c.last-number.result.1 c.in_ok-told.told c.last-number.ensures.number c.last-number.ensures.goes c.requires.runs
    (stays_lasts c.args.self.now c.event.new.self c.in_ok-told.ensures.stays) (subst (λ k. StartedOn c.in_ok-told.told c.last-number.result.1 (Some k)) (sym c.from.ensures) c.in-Some.ensures)

pub settle-requires-clause-plain : goal.settle-requires-clause-plain
settle-requires-clause-plain g c = plain_lasts c.args.self.now c.event.new.self (stays_lasts c.args.self.now c.event.new.self c.in_ok-told.ensures.stays) c.requires.plain

pub returns-in_err-settle-in-Some-clause-keeps : goal.returns-in_err-settle-in-Some-clause-keeps
returns-in_err-settle-in-Some-clause-keeps g c = keeps_more c.args.self.now c.event.new.self c.settle.new.self
    (event_keeps c.args.self.now c.event.new.self (Deliver c.last-number.result.0) c.in_ok-told.told tt (happened c.args.self.now c.event.new.self (Deliver c.last-number.result.0) c.in_ok-told.told c.requires.plain c.in_ok-told.ensures.step c.in_ok-told.ensures.plain)) c.settle.ensures.keeps

pub returns-in_ok-settle-in-Some-clause-round : goal.returns-in_ok-settle-in-Some-clause-round
returns-in_ok-settle-in-Some-clause-round g c = round_started c.args.self.now c.event.new.self c.settle.new.self c.last-number.result.0 c.from.result c.last-number.result.1 c.in_ok-told.told
    c.last-number.ensures.number c.last-number.ensures.goes (happened c.args.self.now c.event.new.self (Deliver c.last-number.result.0) c.in_ok-told.told c.requires.plain c.in_ok-told.ensures.step c.in_ok-told.ensures.plain)
    (subst (λ k. StartedOn c.in_ok-told.told c.last-number.result.1 (Some k)) (sym c.from.ensures) c.in-Some.ensures) c.in_ok-settle-in-Some.ensures.settles

pub returns-in_ok-settle-in-Some-clause-keeps : goal.returns-in_ok-settle-in-Some-clause-keeps
returns-in_ok-settle-in-Some-clause-keeps g c = keeps_more c.args.self.now c.event.new.self c.settle.new.self
    (event_keeps c.args.self.now c.event.new.self (Deliver c.last-number.result.0) c.in_ok-told.told tt (happened c.args.self.now c.event.new.self (Deliver c.last-number.result.0) c.in_ok-told.told c.requires.plain c.in_ok-told.ensures.step c.in_ok-told.ensures.plain)) c.settle.ensures.keeps

pub returns-in-None-clause-round : goal.returns-in-None-clause-round
returns-in-None-clause-round g c = round_alone c.args.self.now c.event.new.self c.last-number.result.0 c.last-number.result.1 c.in_ok-told.told
    c.last-number.ensures.number c.last-number.ensures.goes (happened c.args.self.now c.event.new.self (Deliver c.last-number.result.0) c.in_ok-told.told c.requires.plain c.in_ok-told.ensures.step c.in_ok-told.ensures.plain) c.in-None.ensures

pub returns-in-None-clause-keeps : goal.returns-in-None-clause-keeps
returns-in-None-clause-keeps g c = event_keeps c.args.self.now c.event.new.self (Deliver c.last-number.result.0) c.in_ok-told.told tt (happened c.args.self.now c.event.new.self (Deliver c.last-number.result.0) c.in_ok-told.told c.requires.plain c.in_ok-told.ensures.step c.in_ok-told.ensures.plain)
