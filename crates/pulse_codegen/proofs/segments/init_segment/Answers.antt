use Rattle.std.proofs.Common.{sym, subst}
use Rattle.iter_unroll.specs.Limits.{init_reach}
use Rattle.iter_unroll.specs.Tree.{fsts}
use Rattle.pulse_codegen.specs.Shallow.{IsShallow}
use Rattle.pulse_codegen.proofs.Whole.{keeps_shallow}
use Rattle.pulse_codegen.proofs.segments.init_segment.Goals as goal

pub emit_statements-requires-clause-shallow : goal.emit_statements-requires-clause-shallow
emit_statements-requires-clause-shallow c =
    subst (λ l. IsShallow (fsts l)) (sym c.as_slice.ensures) (keeps_shallow (init_reach c.args.flat.now) (fsts c.args.flat.now.init_part) c.requires.keeps)
