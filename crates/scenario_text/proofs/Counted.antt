-- How many items a list has.
use Rattle.std.proofs.Common.{◌≡◌, List, [], ◌∷◌, suc, length, refl, ap}
use Rattle.toml.specs.declared.value.Value.{Value}
use Rattle.toml.specs.View.{items_view}
use Rattle.scenario_text.specs.Form.{count}

pub count_items : (values : List Value) → length values ≡ count (items_view values)
count_items [] = refl
count_items (v ∷ values) = ap suc (count_items values)
