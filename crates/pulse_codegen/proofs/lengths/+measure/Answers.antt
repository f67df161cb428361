-- The sum of `at` is one instruction, as any other sum.
use Rattle.std.proofs.Common.{sym, subst}
use Rattle.iter_syntax.specs.declared.tree.BinaryOp.TheVariants as op
use Rattle.iter_unroll.specs.Tree.{fx}
use Rattle.flat_code.specs.Code.{code_of}
use Rattle.pulse_codegen.specs.Measures.{Measures}
use Rattle.pulse_codegen.proofs.Folds.{fx_at}
use Rattle.pulse_codegen.proofs.lengths.+measure.Goals as goal

pub returns-in-At-clause-lengths : goal.returns-in-At-clause-lengths
returns-in-At-clause-lengths t c =
    let h = c.way_lengths-in-At.ensures.lengths op.Add (code_of (fx c.get-in-At.result.now)) (code_of (fx c.get-in-At-2.result.now)) c.measure-in-At.ensures.lengths c.measure-in-At-2.ensures.lengths in
    subst (λ e. Measures c.way_lengths-in-At.result (code_of e)) (sym (fx_at c.args.e.now _ _ c.get-in-At.result.now c.get-in-At-2.result.now c.in-At.is c.get-in-At.ensures c.get-in-At-2.ensures)) h
