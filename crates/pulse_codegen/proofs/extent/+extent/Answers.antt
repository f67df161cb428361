-- The extent of an `if` is that of its parts.
use Rattle.std.proofs.Common.{◌∙◌, ap, arith}
use Rattle.iter_unroll.specs.Flat.{end}
use Rattle.iter_unroll.specs.Limits.{fs_nodes}
use Rattle.flat_code.specs.Statements.{leaves, sts_len}
use Rattle.pulse_codegen.proofs.Folds.{fst_if}
use Rattle.pulse_codegen.proofs.extent.+extent.Goals as goal

pub stmt_extent-if_extent-requires : goal.stmt_extent-if_extent-requires
stmt_extent-if_extent-requires t c =
    let e = ap fs_nodes (fst_if c.args.stmt.now c.in-If.test _ _ c.as_slice.result.now c.as_slice-in-If.result.now c.in-If.is c.as_slice.ensures c.as_slice-in-If.ensures end) in
    (omega (arith, e), omega (arith, e, c.requires.few))

pub stmt_extent-returns-in-If-clause-extends : goal.stmt_extent-returns-in-If-clause-extends
stmt_extent-returns-in-If-clause-extends t c =
    let is = fst_if c.args.stmt.now c.in-If.test _ _ c.as_slice.result.now c.as_slice-in-If.result.now c.in-If.is c.as_slice.ensures c.as_slice-in-If.ensures in
    record {
      len = λ rest. ap sts_len (is rest) ∙ c.if_extent.ensures.extends.len rest;
      leaves = λ rest. ap leaves (is rest) ∙ c.if_extent.ensures.extends.leaves rest;
    }

pub stmt_extent-returns-in-If-clause-few : goal.stmt_extent-returns-in-If-clause-few
stmt_extent-returns-in-If-clause-few t c =
    let e = ap fs_nodes (fst_if c.args.stmt.now c.in-If.test _ _ c.as_slice.result.now c.as_slice-in-If.result.now c.in-If.is c.as_slice.ensures c.as_slice-in-If.ensures end) in
    omega (arith, e, c.if_extent.ensures.few)
