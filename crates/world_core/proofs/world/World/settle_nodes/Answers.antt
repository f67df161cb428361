use Rattle.world_core.proofs.Drains.{keeps_more, lasts_more, more_nodes, plain_lasts}
use Rattle.world_core.proofs.world.World.settle_nodes.Goals as goal

pub settle-requires-clause-plain : goal.settle-requires-clause-plain
settle-requires-clause-plain g c = plain_lasts c.args.self.now c.nodes.self c.nodes.invariant.stays c.requires.plain

pub returns-in_err-settle-clause-keeps : goal.returns-in_err-settle-clause-keeps
returns-in_err-settle-clause-keeps g c = keeps_more c.args.self.now c.nodes.self c.settle.new.self c.nodes.invariant.keeps c.settle.ensures.keeps

pub nodes-preserved : goal.nodes-preserved
nodes-preserved g c = record {
  settles = more_nodes c.nodes.n c.args.self.now c.nodes.self c.settle.new.self c.nodes.invariant.settles c.nodes.invariant.keeps c.in_ok-settle.ensures.settles;
  keeps = keeps_more c.args.self.now c.nodes.self c.settle.new.self c.nodes.invariant.keeps c.settle.ensures.keeps;
  stays = lasts_more c.args.self.now c.nodes.self c.settle.new.self c.nodes.invariant.stays c.settle.ensures.stays;
}
