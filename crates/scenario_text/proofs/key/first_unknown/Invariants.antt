use Rattle.std.proofs.Common.{◌≡◌}
use Rattle.toml.specs.View.{table_view}
use Rattle.scenario_text.specs.Keys.{first_unknown}
use Rattle.scenario_text.specs.Steps.{keys_of}
use Rattle.scenario_text.proofs.FirstUnknown.{unknown_of}
use Rattle.scenario_text.proofs.key.first_unknown.Given as goal

abbrev pub invariant-names : goal.invariant-names
invariant-names l = unknown_of (keys_of l.keys) l.name-iterator ≡ first_unknown (keys_of l.keys) (table_view l.table)
