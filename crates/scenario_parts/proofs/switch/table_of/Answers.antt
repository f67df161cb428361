use Rattle.scenario_parts.proofs.Lists.{made}
use Rattle.scenario_parts.proofs.switch.table_of.Goals as goal

pub unreachable-requires : goal.unreachable-requires
unreachable-requires c = made c.new.result c.in-Err.field-0 c.spans.spans c.args.regions.now c.spans.region-index c.spans-test.false c.requires c.spans.invariant c.new.ensures.tables.1 c.in-Err.is
