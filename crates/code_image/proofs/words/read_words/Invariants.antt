use Rattle.std.proofs.Common.{◌≡◌, ◌*◌, length, take}
use Rattle.code_image.specs.Checks.{IsWords}
use Rattle.code_image.proofs.words.read_words.Given as goal

abbrev pub invariant-words : goal.invariant-words
invariant-words l = IsWords l.code (take (8 * l.k) l.bytes) × (length l.code ≡ l.k)
