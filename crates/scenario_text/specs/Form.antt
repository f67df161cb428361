-- The checks of a document that need no program, in their order.
use Rattle.std.specs.Prelude.{ℕ, suc, ◌+◌, ◌*◌, Bool, ◌&&◌, List, [], ◌∷◌, ◌++◌, length, Result, Ok, Err, Option, Some, None, option_and_then, nat_le, codes, decimal, if◌then◌else◌}
use Rattle.std.specs.Option.{option_or}
use Rattle.hex.specs.declared.error.FromHexError.{FromHexError}
use Rattle.toml.specs.Data.{Items, no_items, item, Members, as_table}
use Rattle.scenario_text.specs.declared.fault.DocFault.{DocFault}
use Rattle.scenario_text.specs.declared.fault.DocFault.TheVariants as fault
use Rattle.scenario_text.specs.Keys.{keys_fault, top_keys, region_keys, request_keys}
use Rattle.scenario_text.specs.Values.{program_of, nodes_of, budget_of, rounds_of, clients_of, events_of, regions_of, requests_of, region_hex, region_size}

-- the first fault that is there
abbrev pub first_there : List (Option DocFault) → Option DocFault
first_there [] = None
first_there (Some f ∷ more) = Some f
first_there (None ∷ more) = first_there more

-- the first fault of a list's tables, from an index on
abbrev pub each : (ℕ → Members → Option DocFault) → ℕ → Items → Option DocFault
each check i no_items = None
each check i (item d ds) = option_or (option_and_then (check i) (as_table d)) (each check (i + 1) ds)

abbrev pub count : Items → ℕ
count no_items = 0
count (item d ds) = suc (count ds)

abbrev pub limit : List ℕ → Bool → Option DocFault
limit name is_kept = if is_kept then None else Some (fault.Limit name)

abbrev pub is_within : ℕ → ℕ → ℕ → Bool
is_within low high n = nat_le low n && nat_le n high

-- `region.I.` or `request.I.`
abbrev pub prefix_of : List ℕ → ℕ → List ℕ
prefix_of word i = word ++ codes "." ++ decimal i ++ codes "."

-- `hex` has an odd number of characters, or one that is no hexadecimal digit
abbrev pub hex_fault : ℕ → Result (List ℕ) FromHexError → Option DocFault
hex_fault i (Ok bytes) = None
hex_fault i (Err e) = Some (fault.Hex i)

-- the fault of a region of a document with so many nodes
abbrev pub region_fault : ℕ → ℕ → Members → Option DocFault
region_fault nodes i ms = option_or (keys_fault (prefix_of (codes "region") i) (region_keys nodes) ms) (hex_fault i (region_hex ms))

-- how many bytes all regions have
abbrev pub size_of : Option Members → ℕ
size_of None = 0
size_of (Some ms) = region_size ms

abbrev pub sizes : Items → ℕ
sizes no_items = 0
sizes (item d ds) = size_of (as_table d) + sizes ds

-- the fault of the keys of a request of a document with so many clients
abbrev pub request_fault : ℕ → ℕ → Members → Option DocFault
request_fault clients i ms = keys_fault (prefix_of (codes "request") i) (request_keys clients) ms

-- the limits of the program's text and of the lists
abbrev pub lists_fault : Members → Option DocFault
lists_fault ms = first_there (
    limit (codes "program") (nat_le (length (program_of ms)) 65536)
    ∷ limit (codes "region") (is_within 1 64 (count (regions_of ms)))
    ∷ limit (codes "request") (is_within 1 1000 (count (requests_of ms)))
    ∷ limit (codes "events") (nat_le (count (events_of ms)) 100000)
    ∷ [])

-- the regions in order, and then their bytes together, in a document with so many nodes
abbrev pub regions_fault : ℕ → Items → Option DocFault
regions_fault nodes regions = first_there (
    each (region_fault nodes) 0 regions
    ∷ limit (codes "bytes") (nat_le (sizes regions) 16777216)
    ∷ [])

-- the most iterations that all requests may make
abbrev pub work_of : Members → ℕ
work_of ms = rounds_of ms * budget_of ms * count (requests_of ms)

-- the checks, of which the first that fails decides
abbrev pub form_fault : Members → Option DocFault
form_fault ms = first_there (
    keys_fault [] top_keys ms
    ∷ lists_fault ms
    ∷ regions_fault (nodes_of ms) (regions_of ms)
    ∷ each (request_fault (clients_of ms)) 0 (requests_of ms)
    ∷ limit (codes "work") (nat_le (work_of ms) 1048576)
    ∷ [])
