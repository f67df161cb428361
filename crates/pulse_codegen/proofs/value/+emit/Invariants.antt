-- The recursion goes down the expression: what calls on the same one comes above what it calls.
use Rattle.std.proofs.Common.{◌+◌, ◌*◌}
use Rattle.iter_unroll.specs.Tree.{fx}
use Rattle.iter_unroll.specs.Limits.{fx_nodes}
use Rattle.pulse_codegen.proofs.value.+emit.Given as goal

abbrev pub decreases-emit_value : goal.decreases-emit_value
decreases-emit_value l = 5 * fx_nodes (fx l.e.now)

abbrev pub decreases-emit_operand : goal.decreases-emit_operand
decreases-emit_operand l = 5 * fx_nodes (fx l.e.now) + 1

abbrev pub decreases-emit_test : goal.decreases-emit_test
decreases-emit_test l = 5 * fx_nodes (fx l.e.now) + 2

abbrev pub decreases-emit_branch : goal.decreases-emit_branch
decreases-emit_branch l = 5 * fx_nodes (fx l.e.now) + 3

abbrev pub decreases-emit_two : goal.decreases-emit_two
decreases-emit_two l = 5 * (fx_nodes (fx l.left.now) + fx_nodes (fx l.right.now)) + 2

abbrev pub decreases-emit_computed : goal.decreases-emit_computed
decreases-emit_computed l = 5 * (fx_nodes (fx l.left.now) + fx_nodes (fx l.right.now)) + 4

abbrev pub decreases-emit_compared : goal.decreases-emit_compared
decreases-emit_compared l = 5 * (fx_nodes (fx l.left.now) + fx_nodes (fx l.right.now)) + 4

abbrev pub decreases-emit_joined : goal.decreases-emit_joined
decreases-emit_joined l = 5 * (fx_nodes (fx l.left.now) + fx_nodes (fx l.right.now)) + 4

abbrev pub decreases-branch_joined : goal.decreases-branch_joined
decreases-branch_joined l = 5 * (fx_nodes (fx l.left.now) + fx_nodes (fx l.right.now)) + 4
