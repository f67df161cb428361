use Rattle.std.proofs.Common.{◌≡◌, length}
use Rattle.pulse_codegen.specs.Compiled.{CompilesFirst}
use Rattle.pulse_codegen.proofs.built.build.Given as goal

abbrev pub invariant-iters : goal.invariant-iters
invariant-iters l = CompilesFirst l.checked l.images × (length l.images ≡ l.iter)
