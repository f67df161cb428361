-- No rule is broken at a place that the loop has passed.
use Rattle.code_verify.specs.Rules.{IsUnbrokenBelow}
use Rattle.code_verify.proofs.verifier.verify.Given as goal

abbrev pub invariant-places : goal.invariant-places
invariant-places l = IsUnbrokenBelow l.place l.sizes l.code
