use Rattle.std.proofs.Common.{◌≡◌, ◌+◌, drop}
use Rattle.std.specs.List.{prefix_len}
use Rattle.iter_syntax.specs.Bytes.{in_run}
use Rattle.iter_syntax.proofs.tokens.front.run_len.Given as goal

abbrev pub invariant-loop-at : goal.invariant-loop-at
invariant-loop-at l = prefix_len in_run l.text ≡ l.at + prefix_len in_run (drop l.at l.text)
