use Rattle.std.proofs.Common.{◌≡◌, ◌+◌, false, drop}
use Rattle.iter_syntax.specs.Steps.Reading.{gap_len}
use Rattle.iter_syntax.proofs.tokens.gap.gap_len.Given as goal

abbrev pub invariant-loop-at : goal.invariant-loop-at
invariant-loop-at l = gap_len false l.text ≡ l.at + gap_len l.in_comment (drop l.at l.text)
