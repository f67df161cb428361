use Rattle.std.proofs.Common.{arith}
use Rattle.toml.specs.View.{table_view}
use Rattle.scenario_text.proofs.Ranges.{TopRanges, top_ranges}
use Rattle.scenario_text.proofs.form.read_form.Goals as goal

pub read_regions-requires-clause-nodes : goal.read_regions-requires-clause-nodes
read_regions-requires-clause-nodes c =
    let ranges : TopRanges (table_view c.args.table.now) = top_ranges (table_view c.args.table.now) c.in_ok-check_top_keys.ensures.0 in
    omega (arith, c.number_at-nodes.ensures, ranges.nodes)
