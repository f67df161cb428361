use Rattle.std.proofs.Common.{map}
use Rattle.scenario_parts.specs.Yards.{GivesBack}
use Rattle.replay.proofs.scenario.give_back.Given as goal

abbrev pub invariant-loop-part : goal.invariant-loop-part
invariant-loop-part g l = GivesBack (g.Y.Yard.returned l.fn.yard) (g.Y.Yard.returned l.yard) (map g.Y.Part.NodePart.state l.yielded)
