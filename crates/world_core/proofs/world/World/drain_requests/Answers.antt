use Rattle.std.proofs.Common.{rules, ◌≡◌, length, subst}
use Rattle.drain_run.specs.Drain.{RequestsDrain}
use Rattle.world_core.specs.Scene.{world_of}
use Rattle.world_core.proofs.Drains.{can_run, keeps_more, lasts_more, more_requests, plain_lasts, request_idle}
use Rattle.world_core.proofs.world.World.drain_requests.Goals as goal

pub drain_request-requires-clause-plain : goal.drain_request-requires-clause-plain
drain_request-requires-clause-plain g c = plain_lasts c.args.self.now c.requests.self c.requests.invariant.stays c.requires.plain

pub drain_request-requires-clause-runs : goal.drain_request-requires-clause-runs
drain_request-requires-clause-runs g c = can_run c.args.self.now c.requests.self c.requires.runs c.requests.invariant.keeps

pub returns-in_err-drain_request-clause-keeps : goal.returns-in_err-drain_request-clause-keeps
returns-in_err-drain_request-clause-keeps g c = keeps_more c.args.self.now c.requests.self c.drain_request.new.self c.requests.invariant.keeps c.drain_request.ensures.keeps

pub requests-preserved : goal.requests-preserved
requests-preserved g c = record {
  drains = more_requests c.requests.r c.args.self.now c.requests.self c.drain_request.new.self c.requests.invariant.drains c.requests.invariant.keeps c.in_ok-drain_request.ensures.drains;
  keeps = keeps_more c.args.self.now c.requests.self c.drain_request.new.self c.requests.invariant.keeps c.drain_request.ensures.keeps;
  stays = lasts_more c.args.self.now c.requests.self c.drain_request.new.self c.requests.invariant.stays c.drain_request.ensures.stays;
  idle = request_idle c.requests.self c.drain_request.new.self c.requests.r (can_run c.args.self.now c.requests.self c.requires.runs c.requests.invariant.keeps) c.in_ok-drain_request.ensures.drains c.requests.invariant.idle;
}

pub returns-clause-drains : goal.returns-clause-drains
returns-clause-drains g c u start r =
    let all : c.requests.r ≡ length c.args.self.now.homes = search rules in
    subst (λ j. RequestsDrain u j (world_of c.args.self.now) (world_of c.requests.self)) all (c.requests.invariant.drains u start r)
