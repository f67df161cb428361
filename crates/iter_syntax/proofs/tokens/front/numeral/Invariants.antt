use Rattle.std.proofs.Common.{◌≡◌, drop}
use Rattle.iter_syntax.specs.Steps.Reading.{numeral_from}
use Rattle.iter_syntax.proofs.tokens.front.numeral.Given as goal

abbrev pub invariant-loop-digit : goal.invariant-loop-digit
invariant-loop-digit l = numeral_from l.radix 0 l.digits ≡ numeral_from l.radix l.value (drop l.digit-index l.digits)
