use Rattle.std.proofs.Common.{◌≡◌, ◌-◌, drop, length}
use Rattle.toml.specs.View.{table_view}
use Rattle.scenario_text.specs.Keys.{first_missing}
use Rattle.scenario_text.specs.Steps.{keys_of}
use Rattle.scenario_text.proofs.key.first_missing.Given as goal

abbrev pub invariant-keys : goal.invariant-keys
invariant-keys l = first_missing (keys_of l.keys) (table_view l.table) ≡ first_missing (keys_of (drop l.at l.keys)) (table_view l.table)

abbrev pub decreases-keys : goal.decreases-keys
decreases-keys l = length l.keys - l.at
