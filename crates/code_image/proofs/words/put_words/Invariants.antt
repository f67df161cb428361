use Rattle.std.proofs.Common.{◌≡◌, ◌++◌, take, drop}
use Rattle.std.specs.Prelude.{All}
use Rattle.code_image.specs.Spelling.{words, OperandsFit}
use Rattle.code_image.proofs.words.put_words.Given as goal

abbrev pub invariant-words : goal.invariant-words
invariant-words l = (l.fn.bytes ++ words l.code ≡ l.bytes ++ words (drop l.i-index l.code)) × All OperandsFit (take l.i-index l.code)
