use Rattle.std.proofs.Common.{◌≡◌, [], drop}
use Rattle.iter_unroll.specs.unrolling.Whole.{arguments}
use Rattle.iter_unroll.specs.unrolling.Views.{env_of}
use Rattle.iter_unroll.proofs.whole.with_arguments.Given as goal

pub record Args (a : Type 0) (b : Type 0) : Type 0 where
  pub env : a
  pub lets : b

abbrev pub invariant-each : goal.invariant-each
invariant-each l = Args (arguments 0 l.args [] ≡ arguments l.i (drop l.i l.args) (env_of l.scope.entries.items)) (l.scope.lets ≡ 0)
