use Rattle.pulse_base.specs.declared.event.Event.TheVariants.{Turn}
use Rattle.world_core.proofs.Drains.{Happened, before_keeps, event_keeps, happened, keeps_more, lasts_before, lasts_event, more_turns, plain_lasts}
use Rattle.world_core.proofs.world.World.settle.Goals as goal

pub turns-preserved : goal.turns-preserved
turns-preserved g c =
    let e : Happened c.turns.self c.event.new.self (Turn c.args.n) c.in_ok-event.field-0 =
    happened c.turns.self c.event.new.self (Turn c.args.n) c.in_ok-event.field-0 (plain_lasts c.args.self.now c.turns.self c.turns.invariant.stays c.requires.plain) c.in_ok-event.ensures.step c.in_ok-event.ensures.plain in
    record {
      turns = more_turns c.args.n c.args.self.now c.turns.self c.event.new.self c.in_ok-event.field-0 c.turns.invariant.turns c.turns.invariant.keeps e;
      keeps = keeps_more c.args.self.now c.turns.self c.event.new.self c.turns.invariant.keeps (event_keeps c.turns.self c.event.new.self (Turn c.args.n) c.in_ok-event.field-0 tt e);
      stays = lasts_event c.args.self.now c.turns.self c.event.new.self c.turns.invariant.stays c.in_ok-event.ensures.stays;
    }

pub returns-in_err-event-clause-keeps : goal.returns-in_err-event-clause-keeps
returns-in_err-event-clause-keeps g c = keeps_more c.args.self.now c.turns.self c.event.new.self c.turns.invariant.keeps (before_keeps c.turns.self c.event.new.self c.in_err-event.ensures.err)

pub returns-in_err-event-clause-stays : goal.returns-in_err-event-clause-stays
returns-in_err-event-clause-stays g c = lasts_before c.args.self.now c.turns.self c.event.new.self c.turns.invariant.stays c.in_err-event.ensures.err
