use Rattle.std.proofs.Common.{◌≡◌, ◌-◌, drop, length}
use Rattle.toml.specs.View.{items_view}
use Rattle.scenario_text.specs.Kinds.{all_items, is_entry}
use Rattle.scenario_text.proofs.value.are_entries.Given as goal

abbrev pub invariant-entries : goal.invariant-entries
invariant-entries l = all_items (is_entry l.entry) (items_view l.values) ≡ all_items (is_entry l.entry) (items_view (drop l.at l.values))

abbrev pub decreases-entries : goal.decreases-entries
decreases-entries l = length l.values - l.at
