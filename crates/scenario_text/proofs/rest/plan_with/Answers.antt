use Rattle.std.proofs.Common.{arith}
use Rattle.toml.specs.View.{table_view}
use Rattle.scenario_text.proofs.Ranges.{TopRanges, top_ranges}
use Rattle.scenario_text.proofs.rest.plan_with.Goals as goal

pub overflow_cast-result : goal.overflow_cast-result
overflow_cast-result c =
    let ranges : TopRanges (table_view c.args.table.now) = top_ranges (table_view c.args.table.now) c.requires in
    omega (arith, c.number_at.ensures, ranges.nodes)

pub overflow_cast-result-2 : goal.overflow_cast-result-2
overflow_cast-result-2 c =
    let ranges : TopRanges (table_view c.args.table.now) = top_ranges (table_view c.args.table.now) c.requires in
    omega (arith, c.number_at-2.ensures, ranges.slots)

pub overflow_cast-result-3 : goal.overflow_cast-result-3
overflow_cast-result-3 c =
    let ranges : TopRanges (table_view c.args.table.now) = top_ranges (table_view c.args.table.now) c.requires in
    omega (arith, c.number_at-3.ensures, ranges.budget)

pub overflow_cast-result-4 : goal.overflow_cast-result-4
overflow_cast-result-4 c =
    let ranges : TopRanges (table_view c.args.table.now) = top_ranges (table_view c.args.table.now) c.requires in
    omega (arith, c.number_at-4.ensures, ranges.rounds)

pub overflow_cast-result-5 : goal.overflow_cast-result-5
overflow_cast-result-5 c =
    let ranges : TopRanges (table_view c.args.table.now) = top_ranges (table_view c.args.table.now) c.requires in
    omega (arith, c.number_at-5.ensures, ranges.tries)

pub overflow_cast-result-6 : goal.overflow_cast-result-6
overflow_cast-result-6 c =
    let ranges : TopRanges (table_view c.args.table.now) = top_ranges (table_view c.args.table.now) c.requires in
    omega (arith, c.number_at-6.ensures, ranges.clients)

pub overflow_cast-result-7 : goal.overflow_cast-result-7
overflow_cast-result-7 c =
    let ranges : TopRanges (table_view c.args.table.now) = top_ranges (table_view c.args.table.now) c.requires in
    omega (arith, c.number_at-7.ensures, ranges.port)
