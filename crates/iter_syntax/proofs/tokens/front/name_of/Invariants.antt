use Rattle.std.proofs.Common.{◌≡◌, take}
use Rattle.iter_syntax.proofs.tokens.front.name_of.Given as goal

abbrev pub invariant-loop-byte : goal.invariant-loop-byte
invariant-loop-byte l = l.name.items ≡ take l.byte-index l.word
