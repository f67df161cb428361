use Rattle.std.proofs.Common.{◌-◌, length}
use Rattle.iter_syntax.specs.Steps.Reading.{HasRead}
use Rattle.iter_syntax.proofs.tokens.read_tokens.Given as goal

abbrev pub invariant-loop-at : goal.invariant-loop-at
invariant-loop-at l = HasRead l.text l.found l.at

abbrev pub decreases-loop-at : goal.decreases-loop-at
decreases-loop-at l = length l.text - l.at
