use Rattle.std.proofs.Common.{rules, ◌≡◌, ◌∙◌, true, sym}
use Rattle.world_core.proofs.Drains.{can_run, drained, keeps_more, lasts_more, plain_lasts, resend_keeps, resend_lasts, round_lowers, round_some, rounds_begin, rounds_more}
use Rattle.world_core.proofs.world.World.drain_request.Goals as goal

pub rounds-init : goal.rounds-init
rounds-init g c =
    let w : c.waits.result ≡ true = search rules in
    record {
      rounds = rounds_begin c.args.self.now c.resend.new.self c.args.r c.in_ok-resend.ensures.sends c.requires.idle (sym c.waits.ensures ∙ w);
      keeps = resend_keeps c.args.self.now c.resend.new.self c.args.r c.in_ok-resend.ensures.sends;
      stays = resend_lasts c.args.self.now c.resend.new.self c.args.r c.in_ok-resend.ensures.sends;
    }

pub round-requires-clause-some : goal.round-requires-clause-some
round-requires-clause-some g c = round_some c.args.self.now c.rounds.self c.args.r c.requires.runs c.rounds.invariant.rounds (sym c.waits-in-rounds.ensures ∙ c.rounds-test.true)

pub round-requires-clause-plain : goal.round-requires-clause-plain
round-requires-clause-plain g c = plain_lasts c.args.self.now c.rounds.self c.rounds.invariant.stays c.requires.plain

pub round-requires-clause-runs : goal.round-requires-clause-runs
round-requires-clause-runs g c = can_run c.args.self.now c.rounds.self c.requires.runs c.rounds.invariant.keeps

pub rounds-smaller : goal.rounds-smaller
rounds-smaller g c = round_lowers c.args.self.now c.rounds.self c.round.new.self c.args.r c.requires.runs c.rounds.invariant.rounds c.rounds.invariant.keeps
    (sym c.waits-in-rounds.ensures ∙ c.rounds-test.true) c.in_ok-round.ensures.round c.round.ensures.keeps

pub rounds-preserved : goal.rounds-preserved
rounds-preserved g c = record {
  rounds = rounds_more c.args.self.now c.rounds.self c.round.new.self c.args.r c.rounds.invariant.rounds c.rounds.invariant.keeps (sym c.waits-in-rounds.ensures ∙ c.rounds-test.true) c.in_ok-round.ensures.round;
  keeps = keeps_more c.args.self.now c.rounds.self c.round.new.self c.rounds.invariant.keeps c.round.ensures.keeps;
  stays = lasts_more c.args.self.now c.rounds.self c.round.new.self c.rounds.invariant.stays c.round.ensures.stays;
}

pub returns-in_err-round-clause-keeps : goal.returns-in_err-round-clause-keeps
returns-in_err-round-clause-keeps g c = keeps_more c.args.self.now c.rounds.self c.round.new.self c.rounds.invariant.keeps c.round.ensures.keeps

pub returns-clause-drains : goal.returns-clause-drains
returns-clause-drains g c =
    let w : c.waits.result ≡ true = search rules in
    drained c.args.self.now c.rounds.self c.args.r (sym c.waits.ensures ∙ w) c.rounds.invariant.rounds (sym c.waits-in-rounds.ensures ∙ c.rounds-test.false)
