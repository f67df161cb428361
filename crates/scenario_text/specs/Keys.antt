-- The keys of a document's tables, and the fault of a table by them.
use Rattle.std.specs.Prelude.{ℕ, ◌-◌, Bool, true, false, not, ◌&&◌, List, [], ◌∷◌, ◌++◌, Option, Some, None, is_some, is_none, option_map, find, filter, codes, bytes_eq, if◌then◌else◌}
use Rattle.std.specs.Option.{option_or}
use Rattle.std.specs.Ordering.{nat_cmp, is_lt}
use Rattle.std.specs.Cmp.Lexicographic.{slice_cmp}
use Rattle.toml.specs.Data.{Data, Members, no_members, member, get_member}
use Rattle.scenario_text.specs.declared.kind.Kind.{Kind}
use Rattle.scenario_text.specs.declared.kind.Kind.TheVariants.{Text, Truth, Whole, List as ListOf}
use Rattle.scenario_text.specs.declared.kind.Entry.TheVariants as entry
use Rattle.scenario_text.specs.declared.fault.DocFault.{DocFault}
use Rattle.scenario_text.specs.declared.fault.DocFault.TheVariants as fault
use Rattle.scenario_text.specs.Kinds.{is_of}

-- a key of a table: its name, what its value has to be, and whether it has to be there
pub record Key : Type 0 where
  pub name : List ℕ
  pub kind : Kind
  pub needed : Bool

abbrev pub needed : List ℕ → Kind → Key
needed name kind = record { name = name; kind = kind; needed = true }

abbrev pub optional : List ℕ → Kind → Key
optional name kind = record { name = name; kind = kind; needed = false }

-- the keys of a document
abbrev pub top_keys : List Key
top_keys =
    needed (codes "program") Text
    ∷ optional (codes "nodes") (Whole 1 64)
    ∷ optional (codes "slots") (Whole 1 64)
    ∷ optional (codes "budget") (Whole 1 65535)
    ∷ optional (codes "rounds") (Whole 1 1000)
    ∷ optional (codes "tries") (Whole 0 1000)
    ∷ optional (codes "clients") (Whole 1 16)
    ∷ optional (codes "port") (Whole 1024 65000)
    ∷ optional (codes "trace") Truth
    ∷ optional (codes "events") (ListOf entry.Text)
    ∷ needed (codes "region") (ListOf entry.Table)
    ∷ needed (codes "request") (ListOf entry.Table)
    ∷ []

-- the keys of a region of a document with so many nodes
abbrev pub region_keys : ℕ → List Key
region_keys nodes =
    needed (codes "base") (Whole 0 281474976710655)
    ∷ optional (codes "node") (Whole 0 (nodes - 1))
    ∷ optional (codes "read") Truth
    ∷ optional (codes "write") Truth
    ∷ optional (codes "hex") Text
    ∷ optional (codes "zeros") (Whole 0 16777216)
    ∷ optional (codes "show") Truth
    ∷ []

-- the keys of a request of a document with so many clients
abbrev pub request_keys : ℕ → List Key
request_keys clients =
    needed (codes "iter") Text
    ∷ optional (codes "args") (ListOf entry.Argument)
    ∷ optional (codes "client") (Whole 0 (clients - 1))
    ∷ []

-- the names of a table's members
abbrev pub names_of : Members → List (List ℕ)
names_of no_members = []
names_of (member name d ms) = name ∷ names_of ms

abbrev pub is_named : List Key → List ℕ → Bool
is_named keys name = is_some (find (λ k. bytes_eq name k.name) keys)

-- the lesser of a name and another, if there is one, in byte order
abbrev pub lesser : List ℕ → Option (List ℕ) → List ℕ
lesser name None = name
lesser name (Some other) = if is_lt (slice_cmp nat_cmp name other) then name else other

-- the first of some names in byte order
abbrev pub first_in_order : List (List ℕ) → Option (List ℕ)
first_in_order [] = None
first_in_order (name ∷ names) = Some (lesser name (first_in_order names))

-- the first member in byte order that is none of the keys
abbrev pub first_unknown : List Key → Members → Option (List ℕ)
first_unknown keys ms = first_in_order (filter (λ name. not (is_named keys name)) (names_of ms))

-- a needed key that is absent
abbrev pub is_missing : Members → Key → Bool
is_missing ms k = k.needed && is_none (get_member k.name ms)

abbrev pub first_missing : List Key → Members → Option (List ℕ)
first_missing keys ms = option_map (λ k. k.name) (find (is_missing ms) keys)

-- a value that is there and is not of its kind
abbrev pub is_bad : Kind → Option Data → Bool
is_bad kind None = false
is_bad kind (Some d) = not (is_of kind d)

abbrev pub first_bad : List Key → Members → Option (List ℕ)
first_bad keys ms = option_map (λ k. k.name) (find (λ k. is_bad k.kind (get_member k.name ms)) keys)

-- the fault of a table: its first unknown key, or else its first needed key that is absent, or else its first bad value;
-- a prefix stands before each name
abbrev pub keys_fault : List ℕ → List Key → Members → Option DocFault
keys_fault prefix keys ms =
    option_or (option_map (λ name. fault.Key (prefix ++ name)) (first_unknown keys ms))
    (option_or (option_map (λ name. fault.Missing (prefix ++ name)) (first_missing keys ms))
    (option_map (λ name. fault.Value (prefix ++ name)) (first_bad keys ms)))
