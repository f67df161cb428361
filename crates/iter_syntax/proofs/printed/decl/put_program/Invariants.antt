use Rattle.std.proofs.Common.{◌≡◌, ◌+◌, length, flat_map}
use Rattle.iter_syntax.specs.Printed.{program_kinds, decl_kinds, in_order}
use Rattle.iter_syntax.specs.Steps.Printing.{add_all}
use Rattle.iter_syntax.proofs.printed.decl.put_program.Given as goal

-- what is left, in order, adds to the text what the whole program adds to the first one
abbrev pub invariant-row : goal.invariant-row
invariant-row l = add_all (program_kinds l.fn.program) l.fn.text ≡ add_all (flat_map decl_kinds (in_order l.records l.iters)) l.text

abbrev pub decreases-row : goal.decreases-row
decreases-row l = length l.records + length l.iters
