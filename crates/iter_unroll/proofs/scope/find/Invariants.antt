use Rattle.std.proofs.Common.{◌≡◌, ◌≤◌, length, take}
use Rattle.iter_check.specs.Layout.{text}
use Rattle.iter_unroll.specs.unrolling.Scope.{lookup}
use Rattle.iter_unroll.specs.unrolling.Views.{env_of}
use Rattle.iter_unroll.proofs.scope.find.Given as goal

pub record Passed (a : Type 0) (b : Type 0) : Type 0 where
  pub inside : a
  pub same : b

abbrev pub invariant-entries : goal.invariant-entries
invariant-entries l = Passed (l.at ≤ length l.entries) (lookup (text l.word) (env_of l.entries) ≡ lookup (text l.word) (env_of (take l.at l.entries)))

abbrev pub decreases-entries : goal.decreases-entries
decreases-entries l = l.at
