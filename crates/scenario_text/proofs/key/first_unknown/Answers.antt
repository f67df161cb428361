use Rattle.std.proofs.Common.{rules}
use Rattle.scenario_text.specs.Steps.{keys_of}
use Rattle.scenario_text.proofs.FirstUnknown.{unknown_members}
use Rattle.scenario_text.proofs.key.first_unknown.Goals as goal

pub names-init : goal.names-init
names-init c = search (rules, unknown_members (keys_of c.args.keys.now) c.args.table.now.entries c.keys-name-items.ensures.ordered)
