use Rattle.std.proofs.Common.{take, sym, subst, arith, get_or}
use Rattle.std.proofs.lemmas.List.{take_more, take_all}
use Rattle.pulse_base.specs.declared.event.Event.TheVariants.{Ask}
use Rattle.replay.specs.inner.Runs.{RunsEvents}
use Rattle.replay.proofs.OneEvent.{is_there, one_event, still_plain, lasts_by, lasts_more, few_more}
use Rattle.replay.proofs.running.run_events.Goals as goal

pub event-requires : goal.event-requires
event-requires g c = record { there = is_there c.args.world.now c.events.world (get_or c.args.events.now c.events.event-index (Ask 0)) c.events.invariant.lasts (c.requires.there c.events.event-index (Ask 0) c.events-test.true) }

pub events-preserved : goal.events-preserved
events-preserved g c =
    let old = c.args.world.now in
    let now = c.events.world in
    let next = c.event.new.self in
    let e = get_or c.args.events.now c.events.event-index (Ask 0) in
    let kept = c.events.invariant in
    let stays = c.event.ensures.stays in
    record {
      runs = subst (λ es. RunsEvents old next es c.args.told c.tell.new.traces) (sym (take_more c.args.events.now c.events.event-index (Ask 0) c.events-test.true))
          (one_event c.args.told old now next (take c.events.event-index c.args.events.now) e c.in_ok-trace.trace c.events.traces c.tell.new.traces kept.runs
          (still_plain old now kept.lasts c.requires.plain) (is_there old now e kept.lasts (c.requires.there c.events.event-index (Ask 0) c.events-test.true)).0
          c.in_ok-trace.ensures.step c.in_ok-trace.ensures.plain c.in_ok-tell.ensures);
      lasts = lasts_more old now next kept.lasts (lasts_by now next stays);
      few = (let more = few_more now next stays in let few = kept.few in omega (arith, more, few));
    }

pub returns-clause-runs : goal.returns-clause-runs
returns-clause-runs g c = subst (λ es. RunsEvents c.args.world.now c.events.world es c.args.told c.events.traces) (take_all c.events.event-index c.args.events.now c.events-test.false) c.events.invariant.runs
