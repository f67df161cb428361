use Rattle.world_core.proofs.Drains.{all_nodes, can_run, drain_so, keeps_more, lasts_more, plain_lasts}
use Rattle.world_core.proofs.world.World.drain.Goals as goal

pub returns-in_err-settle_nodes-clause-plain : goal.returns-in_err-settle_nodes-clause-plain
returns-in_err-settle_nodes-clause-plain g c = plain_lasts c.args.self.now c.settle_nodes.new.self c.settle_nodes.ensures.stays c.requires.plain

pub drain_requests-requires-clause-plain : goal.drain_requests-requires-clause-plain
drain_requests-requires-clause-plain g c = plain_lasts c.args.self.now c.settle_nodes.new.self c.settle_nodes.ensures.stays c.requires.plain

pub drain_requests-requires-clause-runs : goal.drain_requests-requires-clause-runs
drain_requests-requires-clause-runs g c = can_run c.args.self.now c.settle_nodes.new.self c.requires.runs c.settle_nodes.ensures.keeps

pub drain_requests-requires-clause-idle : goal.drain_requests-requires-clause-idle
drain_requests-requires-clause-idle g c = all_nodes c.args.self.now c.settle_nodes.new.self c.requires.runs c.in_ok-settle_nodes.ensures.settles

pub returns-in_err-drain_requests-clause-keeps : goal.returns-in_err-drain_requests-clause-keeps
returns-in_err-drain_requests-clause-keeps g c = keeps_more c.args.self.now c.settle_nodes.new.self c.drain_requests.new.self c.settle_nodes.ensures.keeps c.drain_requests.ensures.keeps

pub returns-in_err-drain_requests-clause-plain : goal.returns-in_err-drain_requests-clause-plain
returns-in_err-drain_requests-clause-plain g c =
    plain_lasts c.args.self.now c.drain_requests.new.self (lasts_more c.args.self.now c.settle_nodes.new.self c.drain_requests.new.self c.settle_nodes.ensures.stays c.drain_requests.ensures.stays) c.requires.plain

pub returns-clause-drains : goal.returns-clause-drains
returns-clause-drains g c = drain_so c.args.self.now c.settle_nodes.new.self c.drain_requests.new.self
    c.in_ok-settle_nodes.ensures.settles c.settle_nodes.ensures.keeps c.settle_nodes.ensures.stays c.in_ok-drain_requests.ensures.drains c.drain_requests.ensures.keeps

pub returns-clause-keeps : goal.returns-clause-keeps
returns-clause-keeps g c = keeps_more c.args.self.now c.settle_nodes.new.self c.drain_requests.new.self c.settle_nodes.ensures.keeps c.drain_requests.ensures.keeps

pub returns-clause-plain : goal.returns-clause-plain
returns-clause-plain g c =
    plain_lasts c.args.self.now c.drain_requests.new.self (lasts_more c.args.self.now c.settle_nodes.new.self c.drain_requests.new.self c.settle_nodes.ensures.stays c.drain_requests.ensures.stays) c.requires.plain
