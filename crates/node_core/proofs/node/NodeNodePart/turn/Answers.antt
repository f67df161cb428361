use Rattle.std.proofs.Common.{subst}
use Rattle.node_core.specs.Part.{IsPart}
use Rattle.node_core.proofs.Rests.{rest_falls}
use Rattle.node_core.proofs.node.NodeNodePart.turn.Goals as goal

pub returns-clause-rest : goal.returns-clause-rest
returns-clause-rest c n = rest_falls c.turn_first-turned.result c.args.self.now c.turn_first-turned.new.self (subst IsPart c.self.view_is c.self.invariant.part) c.turn_first-turned.ensures.turned c.turn_first-turned.ensures.first n
