-- The names in scope, as a list of names with their values.
use Rattle.std.specs.Prelude.{ℕ, suc, List, [], ◌∷◌, map, bytes_eq, if◌then◌else◌}
use Rattle.iter_check.specs.declared.names.Name.{Name}
use Rattle.iter_check.specs.declared.names.Names.TheInside.{Inside}

abbrev pub pair_of : Name → List ℕ × ℕ
pair_of n = (n.text, n.value)

abbrev pub names_view : Inside → List (List ℕ × ℕ)
names_view n = map pair_of n.names.items

-- the place of the first of a name, or the number of names
abbrev pub place_in : List ℕ → List Name → ℕ
place_in name [] = 0
place_in name (n ∷ names) = if bytes_eq n.text name then 0 else suc (place_in name names)
