-- What the value at a key has to be.
use Rattle.std.specs.Prelude.{ℕ, ℤ, pos, negsuc, Bool, true, false, ◌&&◌, nat_le, Option, Some, None, is_some}
use Rattle.toml.specs.Data.{Data, Items, no_items, item, as_str, as_bool, as_integer, as_array, as_table}
use Rattle.scenario_text.specs.declared.kind.Kind.{Kind}
use Rattle.scenario_text.specs.declared.kind.Kind.TheVariants.{Text, Truth, Whole, List}
use Rattle.scenario_text.specs.declared.kind.Entry.{Entry}
use Rattle.scenario_text.specs.declared.kind.Entry.TheVariants as entry
use Rattle.scenario_text.specs.Numbers.{argument_of}

-- a TOML integer from `low` to `high`
abbrev pub is_between : ℕ → ℕ → Option ℤ → Bool
is_between low high (Some (pos n)) = nat_le low n && nat_le n high
is_between low high (Some (negsuc n)) = false
is_between low high None = false

-- an entry of a list is a text, a table, or an argument of a request
abbrev pub is_entry : Entry → Data → Bool
is_entry entry.Text d = is_some (as_str d)
is_entry entry.Table d = is_some (as_table d)
is_entry entry.Argument d = is_some (argument_of d)

-- every item passes
abbrev pub all_items : (Data → Bool) → Items → Bool
all_items passes no_items = true
all_items passes (item d ds) = passes d && all_items passes ds

abbrev pub is_list_of : Entry → Option Items → Bool
is_list_of e None = false
is_list_of e (Some ds) = all_items (is_entry e) ds

-- the value is of the kind
abbrev pub is_of : Kind → Data → Bool
is_of Text d = is_some (as_str d)
is_of Truth d = is_some (as_bool d)
is_of (Whole low high) d = is_between low high (as_integer d)
is_of (List e) d = is_list_of e (as_array d)
