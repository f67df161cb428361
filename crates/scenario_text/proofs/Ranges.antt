-- What a table without fault says of its numbers: each is in the range of its key.
use Rattle.std.proofs.Common.{◌≡◌, ◌≤◌, ◌-◌, ◌++◌, ℕ, Bool, true, false, pos, negsuc, List, [], ◌∷◌, Option, Some, None, option_map, arith, refl}
use Rattle.std.proofs.lemmas.Bool.Decides.{nat_tests}
use Rattle.std.specs.Prelude.{unwrap_or, if◌then◌else◌, find, codes, option_and_then, nat_abs}
use Rattle.std.specs.Option.{option_or}
use Rattle.toml.specs.Data.{Data, integer, string, float, boolean, datetime, array, table, as_integer, Members, get_member}
use Rattle.scenario_text.specs.declared.kind.Kind.TheVariants.{Whole}
use Rattle.scenario_text.specs.declared.fault.DocFault.TheVariants as fault
use Rattle.scenario_text.specs.Keys.{Key, is_bad, first_bad, first_missing, first_unknown, keys_fault, top_keys, region_keys, request_keys}
use Rattle.scenario_text.specs.Values.{nodes_of, slots_of, budget_of, rounds_of, tries_of, clients_of, port_of, node_of, client_of, region_zeros}

abbrev pub number_in : Option Data → ℕ → ℕ
number_in o default = unwrap_or (option_map nat_abs (option_and_then as_integer o)) default

pub in_range : (low high default : ℕ) (o : Option Data) → is_bad (Whole low high) o ≡ false → low ≤ default → default ≤ high → (low ≤ number_in o default) × (number_in o default ≤ high)
in_range low high default None h a b = (a, b)
in_range low high default (Some (integer (pos n))) h a b = grind (arith, nat_tests, h)
in_range low high default (Some (integer (negsuc n))) h a b = cc
in_range low high default (Some (string s)) h a b = cc
in_range low high default (Some (float s)) h a b = cc
in_range low high default (Some (boolean s)) h a b = cc
in_range low high default (Some (datetime s)) h a b = cc
in_range low high default (Some (array s)) h a b = cc
in_range low high default (Some (table s)) h a b = cc

-- no value at the keys is bad
abbrev pub Fine : List Key → Members → Type 0
Fine [] ms = Unit {0}
Fine (k ∷ ks) ms = (is_bad k.kind (get_member k.name ms) ≡ false) × Fine ks ms

step : (b : Bool) (k : Key) (rest : Option Key) → option_map (λ k. k.name) (if b then Some k else rest) ≡ None → (b ≡ false) × (option_map (λ k. k.name) rest ≡ None)
step true k rest h = cc
step false k rest h = (refl, h)

fine : (ks : List Key) (ms : Members) → first_bad ks ms ≡ None → Fine ks ms
fine [] ms h = tt
fine (k ∷ ks) ms h =
    let (here, more) = step (is_bad k.kind (get_member k.name ms)) k (find (λ k. is_bad k.kind (get_member k.name ms)) ks) h in
    (here, fine ks ms more)

pub none_or : {A : Type 0} (o p : Option A) → option_or o p ≡ None → (o ≡ None) × (p ≡ None)
none_or (Some x) p h = cc
none_or None p h = (refl, h)

none_map : {A B : Type 0} (f : A → B) (o : Option A) → option_map f o ≡ None → o ≡ None
none_map f (Some x) h = cc
none_map f None h = refl

-- a table without fault has no bad value
pub no_bad : (prefix : List ℕ) (ks : List Key) (ms : Members) → keys_fault prefix ks ms ≡ None → Fine ks ms
no_bad prefix ks ms h =
    let missing = λ (name : List ℕ). fault.Missing (prefix ++ name) in
    let value = λ (name : List ℕ). fault.Value (prefix ++ name) in
    let (unknown, more) = none_or (option_map (λ (name : List ℕ). fault.Key (prefix ++ name)) (first_unknown ks ms)) (option_or (option_map missing (first_missing ks ms)) (option_map value (first_bad ks ms))) h in
    let (absent, bad) = none_or (option_map missing (first_missing ks ms)) (option_map value (first_bad ks ms)) more in
    fine ks ms (none_map value (first_bad ks ms) bad)

-- the numbers of a document whose own keys have no fault
pub record TopRanges (ms : Members) : Type 0 where
  pub nodes : (1 ≤ nodes_of ms) × (nodes_of ms ≤ 64)
  pub slots : (1 ≤ slots_of ms) × (slots_of ms ≤ 64)
  pub budget : (1 ≤ budget_of ms) × (budget_of ms ≤ 65535)
  pub rounds : (1 ≤ rounds_of ms) × (rounds_of ms ≤ 1000)
  pub tries : (0 ≤ tries_of ms) × (tries_of ms ≤ 1000)
  pub clients : (1 ≤ clients_of ms) × (clients_of ms ≤ 16)
  pub port : (1024 ≤ port_of ms) × (port_of ms ≤ 65000)

pub top_ranges : (ms : Members) → keys_fault [] top_keys ms ≡ None → TopRanges ms
top_ranges ms h =
    let f = no_bad [] top_keys ms h in
    record {
      nodes = in_range 1 64 1 (get_member (codes "nodes") ms) f.1.0 (omega arith) (omega arith);
      slots = in_range 1 64 8 (get_member (codes "slots") ms) f.1.1.0 (omega arith) (omega arith);
      budget = in_range 1 65535 64 (get_member (codes "budget") ms) f.1.1.1.0 (omega arith) (omega arith);
      rounds = in_range 1 1000 16 (get_member (codes "rounds") ms) f.1.1.1.1.0 (omega arith) (omega arith);
      tries = in_range 0 1000 16 (get_member (codes "tries") ms) f.1.1.1.1.1.0 (omega arith) (omega arith);
      clients = in_range 1 16 1 (get_member (codes "clients") ms) f.1.1.1.1.1.1.0 (omega arith) (omega arith);
      port = in_range 1024 65000 47000 (get_member (codes "port") ms) f.1.1.1.1.1.1.1.0 (omega arith) (omega arith);
    }

-- the node of a region without fault, and how many zeros stand behind its bytes
pub node_in_range : (prefix : List ℕ) (nodes : ℕ) (ms : Members) → keys_fault prefix (region_keys nodes) ms ≡ None → node_of ms ≤ nodes - 1
node_in_range prefix nodes ms h =
    let f = no_bad prefix (region_keys nodes) ms h in
    (in_range 0 (nodes - 1) 0 (get_member (codes "node") ms) f.1.0 (omega arith) (omega arith)).1

pub zeros_in_range : (prefix : List ℕ) (nodes : ℕ) (ms : Members) → keys_fault prefix (region_keys nodes) ms ≡ None → region_zeros ms ≤ 16777216
zeros_in_range prefix nodes ms h =
    let f = no_bad prefix (region_keys nodes) ms h in
    (in_range 0 16777216 0 (get_member (codes "zeros") ms) f.1.1.1.1.1.0 (omega arith) (omega arith)).1

-- the client of a request without fault
pub client_in_range : (prefix : List ℕ) (clients : ℕ) (ms : Members) → keys_fault prefix (request_keys clients) ms ≡ None → client_of ms ≤ clients - 1
client_in_range prefix clients ms h =
    let f = no_bad prefix (request_keys clients) ms h in
    (in_range 0 (clients - 1) 0 (get_member (codes "client") ms) f.1.1.0 (omega arith) (omega arith)).1
