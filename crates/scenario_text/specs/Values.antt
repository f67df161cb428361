-- The values at the keys of a document's tables, with their defaults.
use Rattle.std.specs.Prelude.{ℕ, ◌+◌, Bool, false, List, [], ◌++◌, length, replicate, Result, Ok, Err, option_map, option_and_then, unwrap_or, nat_abs, nat_le, codes, is_some}
use Rattle.hex.specs.Hex.{decode_of}
use Rattle.hex.specs.declared.error.FromHexError.{FromHexError}
use Rattle.toml.specs.Data.{Items, no_items, Members, as_str, as_bool, as_integer, as_array, get_member}

-- the value at a key, or the default where it is absent; of another kind it is the default too
abbrev pub text_at : List ℕ → Members → List ℕ
text_at name ms = unwrap_or (option_and_then as_str (get_member name ms)) []

abbrev pub number_at : List ℕ → ℕ → Members → ℕ
number_at name default ms = unwrap_or (option_map nat_abs (option_and_then as_integer (get_member name ms))) default

abbrev pub truth_at : List ℕ → Bool → Members → Bool
truth_at name default ms = unwrap_or (option_and_then as_bool (get_member name ms)) default

abbrev pub items_at : List ℕ → Members → Items
items_at name ms = unwrap_or (option_and_then as_array (get_member name ms)) no_items

-- the keys of the document
abbrev pub program_of : Members → List ℕ
program_of ms = text_at (codes "program") ms

abbrev pub nodes_of : Members → ℕ
nodes_of ms = number_at (codes "nodes") 1 ms

abbrev pub slots_of : Members → ℕ
slots_of ms = number_at (codes "slots") 8 ms

abbrev pub budget_of : Members → ℕ
budget_of ms = number_at (codes "budget") 64 ms

abbrev pub rounds_of : Members → ℕ
rounds_of ms = number_at (codes "rounds") 16 ms

abbrev pub tries_of : Members → ℕ
tries_of ms = number_at (codes "tries") 16 ms

abbrev pub clients_of : Members → ℕ
clients_of ms = number_at (codes "clients") 1 ms

abbrev pub port_of : Members → ℕ
port_of ms = number_at (codes "port") 47000 ms

abbrev pub trace_of : Members → Bool
trace_of ms = truth_at (codes "trace") false ms

abbrev pub lists_events : Members → Bool
lists_events ms = is_some (get_member (codes "events") ms)

abbrev pub events_of : Members → Items
events_of ms = items_at (codes "events") ms

abbrev pub regions_of : Members → Items
regions_of ms = items_at (codes "region") ms

abbrev pub requests_of : Members → Items
requests_of ms = items_at (codes "request") ms

-- the keys of a region: its bytes are those of `hex`, and `zeros` after them
abbrev pub base_of : Members → ℕ
base_of ms = number_at (codes "base") 0 ms

abbrev pub node_of : Members → ℕ
node_of ms = number_at (codes "node") 0 ms

abbrev pub region_hex : Members → Result (List ℕ) FromHexError
region_hex ms = decode_of (text_at (codes "hex") ms)

abbrev pub or_nothing : Result (List ℕ) FromHexError → List ℕ
or_nothing (Ok bytes) = bytes
or_nothing (Err e) = []

abbrev pub region_zeros : Members → ℕ
region_zeros ms = number_at (codes "zeros") 0 ms

abbrev pub region_bytes : Members → List ℕ
region_bytes ms = or_nothing (region_hex ms) ++ replicate (region_zeros ms) 0

abbrev pub region_size : Members → ℕ
region_size ms = length (or_nothing (region_hex ms)) + region_zeros ms

-- shown in full: as `show` says, or else exactly where it has at most 4,096 bytes
abbrev pub region_shown : Members → Bool
region_shown ms = truth_at (codes "show") (nat_le (region_size ms) 4096) ms

-- the keys of a request
abbrev pub iter_name_of : Members → List ℕ
iter_name_of ms = text_at (codes "iter") ms

abbrev pub args_of : Members → Items
args_of ms = items_at (codes "args") ms

abbrev pub client_of : Members → ℕ
client_of ms = number_at (codes "client") 0 ms
