use Rattle.std.proofs.Common.{◌≡◌, ◌-◌, drop, length}
use Rattle.scenario_text.specs.Keys.{is_named}
use Rattle.scenario_text.specs.Steps.{keys_of}
use Rattle.scenario_text.proofs.key.is_named.Given as goal

abbrev pub invariant-keys : goal.invariant-keys
invariant-keys l = is_named (keys_of l.keys) l.name ≡ is_named (keys_of (drop l.at l.keys)) l.name

abbrev pub decreases-keys : goal.decreases-keys
decreases-keys l = length l.keys - l.at
