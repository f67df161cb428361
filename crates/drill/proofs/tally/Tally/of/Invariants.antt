use Rattle.std.proofs.Common.{◌≡◌, take}
use Rattle.drill.specs.inner.Tally.{tally_of}
use Rattle.drill.proofs.tally.Tally.of.Given as goal

abbrev pub invariant-answers : goal.invariant-answers
invariant-answers l = l.tally ≡ tally_of (take l.answer-index l.answers)
