use Rattle.std.proofs.Common.{ap, refl, arith}
use Rattle.flat_hoist.specs.hoisting.Reads.{all_reads}
use Rattle.flat_hoist.proofs.Rows.{if_is, if_nodes}
use Rattle.flat_hoist.proofs.count.+count.Goals as goal

pub count_stmt-count_row-first-requires : goal.count_stmt-count_row-first-requires
count_stmt-count_row-first-requires t c =
    let n = if_nodes c.args.s.now c.in-If.test c.in-If.yes c.in-If.no c.as_slice.result.now c.in-If.no c.in-If.is c.as_slice.ensures refl in
    (omega (arith, n), omega (arith, n, c.requires.few))

pub count_stmt-count_row-other-requires : goal.count_stmt-count_row-other-requires
count_stmt-count_row-other-requires t c =
    let n = if_nodes c.args.s.now c.in-If.test c.in-If.yes c.in-If.no c.in-If.yes c.as_slice-in-If.result.now c.in-If.is refl c.as_slice-in-If.ensures in
    (omega (arith, n), omega (arith, n, c.requires.few))

pub count_stmt-with-requires-clause-few : goal.count_stmt-with-requires-clause-few
count_stmt-with-requires-clause-few t c =
    let n = if_nodes c.args.s.now c.in-If.test c.in-If.yes c.in-If.no c.as_slice.result.now c.as_slice-in-If.result.now c.in-If.is c.as_slice.ensures c.as_slice-in-If.ensures in
    omega (arith, n, c.requires.few, c.count_expr-in-If.ensures.nodes, c.count_row-first.ensures.nodes)

pub count_stmt-with-requires-in-If-clause-few : goal.count_stmt-with-requires-in-If-clause-few
count_stmt-with-requires-in-If-clause-few t c =
    let n = if_nodes c.args.s.now c.in-If.test c.in-If.yes c.in-If.no c.as_slice.result.now c.as_slice-in-If.result.now c.in-If.is c.as_slice.ensures c.as_slice-in-If.ensures in
    omega (arith, n, c.requires.few, c.with.ensures.nodes, c.count_expr-in-If.ensures.nodes, c.count_row-first.ensures.nodes, c.count_row-other.ensures.nodes)

pub count_stmt-under-requires-in-If-clause-few : goal.count_stmt-under-requires-in-If-clause-few
count_stmt-under-requires-in-If-clause-few t c =
    let n = if_nodes c.args.s.now c.in-If.test c.in-If.yes c.in-If.no c.as_slice.result.now c.as_slice-in-If.result.now c.in-If.is c.as_slice.ensures c.as_slice-in-If.ensures in
    omega (arith, n, c.requires.few, c.with.ensures.nodes, c.with-in-If.ensures.nodes, c.count_expr-in-If.ensures.nodes, c.count_row-first.ensures.nodes, c.count_row-other.ensures.nodes)

pub count_stmt-returns-in-If-clause-nodes : goal.count_stmt-returns-in-If-clause-nodes
count_stmt-returns-in-If-clause-nodes t c =
    let n = if_nodes c.args.s.now c.in-If.test c.in-If.yes c.in-If.no c.as_slice.result.now c.as_slice-in-If.result.now c.in-If.is c.as_slice.ensures c.as_slice-in-If.ensures in
    omega (arith, n, c.under-in-If.ensures.nodes, c.with.ensures.nodes, c.with-in-If.ensures.nodes, c.count_expr-in-If.ensures.nodes, c.count_row-first.ensures.nodes, c.count_row-other.ensures.nodes)

pub count_stmt-returns-in-If-clause-reads : goal.count_stmt-returns-in-If-clause-reads
count_stmt-returns-in-If-clause-reads t c = λ rest.
    let n = ap (all_reads c.args.field) (if_is c.args.s.now c.in-If.test c.in-If.yes c.in-If.no c.as_slice.result.now c.as_slice-in-If.result.now c.in-If.is c.as_slice.ensures c.as_slice-in-If.ensures rest) in
    omega (arith, n, c.under-in-If.ensures.reads, c.with.ensures.reads, c.with-in-If.ensures.reads, c.count_expr-in-If.ensures.reads, c.count_row-first.ensures.reads, c.count_row-other.ensures.reads)
