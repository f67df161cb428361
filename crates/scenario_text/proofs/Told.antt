-- Which faults the checks of a document never give.
use Rattle.std.proofs.Common.{◌≡◌, ◌≤◌, ◌<◌, ◌+◌, ◌^◌, ℕ, Bool, true, false, nat_lt, nat_le, nat_eq, List, [], ◌∷◌, ◌++◌, length, take, Option, Some, None, option_map, arith, refl, subst, if◌then◌else◌}
use Rattle.std.proofs.lemmas.Bool.Decides.{nat_tests}
use Rattle.std.specs.Prelude.{◌≢◌, codes, option_and_then, position, slice_get, Result, Ok, Err}
use Rattle.std.specs.List.{cons_option, enumerate_from, filter_map}
use Rattle.std.specs.Option.{option_or}
use Rattle.hex.specs.declared.error.FromHexError.{FromHexError}
use Rattle.toml.specs.Data.{Items, no_items, item, Members, as_str, as_table}
use Rattle.iter_syntax.specs.declared.tree.Program.{Program}
use Rattle.iter_syntax.specs.declared.fault.SyntaxFault.{SyntaxFault}
use Rattle.iter_syntax.specs.declared.fault.SyntaxFault.TheVariants as syntax
use Rattle.iter_check.specs.declared.kind.Fault.{Fault}
use Rattle.iter_check.specs.FaultList.{fault_list}
use Rattle.pulse_base.specs.declared.event.Event.{Event}
use Rattle.range_table.specs.declared.region.RegionSpan.{RegionSpan}
use Rattle.range_table.specs.declared.fault.TableFault.{TableFault}
use Rattle.range_table.specs.declared.fault.TableFault.TheVariants as table
use Rattle.range_table.specs.Memory.{end_of}
use Rattle.range_table.specs.Table.{region_fault as table_region_fault, region_faults, share_a_byte}
use Rattle.scenario_text.specs.declared.fault.DocFault.{DocFault}
use Rattle.scenario_text.specs.declared.fault.DocFault.TheVariants as fault
use Rattle.scenario_text.specs.Events.{event_of, events_fault, no_event}
use Rattle.scenario_text.specs.Form.{first_there, each, limit, is_within, count, prefix_of, hex_fault, region_fault, request_fault, regions_fault, lists_fault, form_fault, sizes, work_of}
use Rattle.scenario_text.specs.Keys.{Key, first_unknown, first_missing, first_bad, keys_fault, top_keys, region_keys, request_keys}
use Rattle.scenario_text.specs.OfProgram.{arg_count, args_fault, check_fault, iter_fault, iter_index, place_of, program_fault, rest_fault, spans_fault}
use Rattle.scenario_text.specs.Regions.{spans}
use Rattle.scenario_text.specs.Scenario.{HasCause, IsFaultOf, of_form, of_text, of_program}
use Rattle.scenario_text.specs.Values.{args_of, clients_of, events_of, iter_name_of, nodes_of, program_of, region_hex, regions_of, requests_of}
use Rattle.scenario_text.proofs.Runnable.{few_spans, form_facts}

-- neither that the text or its program's text is none, nor want of memory, nor a table of too many regions
abbrev pub IsTold : DocFault → Type 0
IsTold fault.Toml = ⊥
IsTold fault.Memory = ⊥
IsTold (fault.Program f) = ⊥
IsTold (fault.Region i table.TooMany) = ⊥
IsTold f = Unit {0}

-- if there is a fault, it is told
abbrev pub Tells : Option DocFault → Type 0
Tells None = Unit {0}
Tells (Some f) = IsTold f

tells_or : (o p : Option DocFault) → Tells o → Tells p → Tells (option_or o p)
tells_or None p ho hp = hp
tells_or (Some f) p ho hp = ho

tells_map : {A : Type 0} (f : A → DocFault) → ((x : A) → IsTold (f x)) → (o : Option A) → Tells (option_map f o)
tells_map f h None = tt
tells_map f h (Some x) = h x

pub tells_first : (o : Option DocFault) (more : List (Option DocFault)) → Tells o → Tells (first_there more) → Tells (first_there (o ∷ more))
tells_first None more ho hm = hm
tells_first (Some f) more ho hm = ho

tells_keys : (prefix : List ℕ) (ks : List Key) (ms : Members) → Tells (keys_fault prefix ks ms)
tells_keys prefix ks ms =
    let key = option_map (λ (name : List ℕ). fault.Key (prefix ++ name)) (first_unknown ks ms) in
    let missing = option_map (λ (name : List ℕ). fault.Missing (prefix ++ name)) (first_missing ks ms) in
    let value = option_map (λ (name : List ℕ). fault.Value (prefix ++ name)) (first_bad ks ms) in
    tells_or key (option_or missing value) (tells_map (λ (name : List ℕ). fault.Key (prefix ++ name)) (λ name. tt) (first_unknown ks ms))
    (tells_or missing value (tells_map (λ (name : List ℕ). fault.Missing (prefix ++ name)) (λ name. tt) (first_missing ks ms))
    (tells_map (λ (name : List ℕ). fault.Value (prefix ++ name)) (λ name. tt) (first_bad ks ms)))

tells_limit : (name : List ℕ) (is_kept : Bool) → Tells (limit name is_kept)
tells_limit name true = tt
tells_limit name false = tt

tells_hex : (i : ℕ) (r : Result (List ℕ) FromHexError) → Tells (hex_fault i r)
tells_hex i (Ok bytes) = tt
tells_hex i (Err e) = tt

module _ (check : ℕ → Members → Option DocFault) (tells : (i : ℕ) (ms : Members) → Tells (check i ms)) where
  tells_at : (i : ℕ) (o : Option Members) → Tells (option_and_then (check i) o)
  tells_at i None = tt
  tells_at i (Some ms) = tells i ms

  pub tells_each : (i : ℕ) (ds : Items) → Tells (each check i ds)
  tells_each i no_items = tt
  tells_each i (item d ds) = tells_or (option_and_then (check i) (as_table d)) (each check (i + 1) ds) (tells_at i (as_table d)) (tells_each (i + 1) ds)

-- the checks that need no program
tells_region : (nodes i : ℕ) (ms : Members) → Tells (region_fault nodes i ms)
tells_region nodes i ms =
    tells_or (keys_fault (prefix_of (codes "region") i) (region_keys nodes) ms) (hex_fault i (region_hex ms))
    (tells_keys (prefix_of (codes "region") i) (region_keys nodes) ms) (tells_hex i (region_hex ms))

tells_limits : (name : List ℕ) (is_kept : Bool) (more : List (Option DocFault)) → Tells (first_there more) → Tells (first_there (limit name is_kept ∷ more))
tells_limits name is_kept more h = tells_first (limit name is_kept) more (tells_limit name is_kept) h

tells_lists : (ms : Members) → Tells (lists_fault ms)
tells_lists ms =
    let program = limit (codes "program") (nat_le (length (program_of ms)) 65536) in
    let regions = limit (codes "region") (is_within 1 64 (count (regions_of ms))) in
    let requests = limit (codes "request") (is_within 1 1000 (count (requests_of ms))) in
    let events = limit (codes "events") (nat_le (count (events_of ms)) 100000) in
    tells_limits (codes "program") (nat_le (length (program_of ms)) 65536) (regions ∷ requests ∷ events ∷ [])
    (tells_limits (codes "region") (is_within 1 64 (count (regions_of ms))) (requests ∷ events ∷ [])
    (tells_limits (codes "request") (is_within 1 1000 (count (requests_of ms))) (events ∷ [])
    (tells_limits (codes "events") (nat_le (count (events_of ms)) 100000) [] tt)))

tells_regions : (nodes : ℕ) (regions : Items) → Tells (regions_fault nodes regions)
tells_regions nodes regions =
    let bytes = limit (codes "bytes") (nat_le (sizes regions) 16777216) in
    tells_first (each (region_fault nodes) 0 regions) (bytes ∷ []) (tells_each (region_fault nodes) (tells_region nodes) 0 regions)
    (tells_limits (codes "bytes") (nat_le (sizes regions) 16777216) [] tt)

tells_form : (ms : Members) → Tells (form_fault ms)
tells_form ms =
    let lists = lists_fault ms in
    let regions = regions_fault (nodes_of ms) (regions_of ms) in
    let requests = each (request_fault (clients_of ms)) 0 (requests_of ms) in
    let work = limit (codes "work") (nat_le (work_of ms) 1048576) in
    tells_first (keys_fault [] top_keys ms) (lists ∷ regions ∷ requests ∷ work ∷ []) (tells_keys [] top_keys ms)
    (tells_first lists (regions ∷ requests ∷ work ∷ []) (tells_lists ms)
    (tells_first regions (requests ∷ work ∷ []) (tells_regions (nodes_of ms) (regions_of ms))
    (tells_first requests (work ∷ [])
    (tells_each (request_fault (clients_of ms)) (λ i m. tells_keys (prefix_of (codes "request") i) (request_keys (clients_of ms)) m) 0 (requests_of ms))
    (tells_limits (codes "work") (nat_le (work_of ms) 1048576) [] tt))))

-- the checks of a program
abbrev pub region_told : TableFault → DocFault
region_told f = fault.Region (place_of f) f

tells_overlap : (n : ℕ) (o : Option ℕ) → Tells (option_map region_told (option_map (λ j. table.Overlap j n) o))
tells_overlap n None = tt
tells_overlap n (Some j) = tt

tells_range : (b : Bool) (n : ℕ) (o : Option ℕ) → Tells (option_map region_told (if b then Some (table.Range n) else option_map (λ j. table.Overlap j n) o))
tells_range true n o = tt
tells_range false n o = tells_overlap n o

tells_empty : (a b : Bool) (n : ℕ) (o : Option ℕ) → Tells (option_map region_told (if a then Some (table.Empty n) else (if b then Some (table.Range n) else option_map (λ j. table.Overlap j n) o)))
tells_empty true b n o = tt
tells_empty false b n o = tells_range b n o

tells_one : (earlier : List RegionSpan) (r : RegionSpan) → Tells (option_map region_told (table_region_fault earlier r))
tells_one earlier r = tells_empty (nat_eq r.len 0) (nat_lt (2 ^ 48) (end_of r)) (length earlier) (position (λ s. share_a_byte r s) earlier)

tells_cons : (o : Option TableFault) (fs : List TableFault) → Tells (option_map region_told o) → Tells (option_map region_told (slice_get fs 0)) → Tells (option_map region_told (slice_get (cons_option o fs) 0))
tells_cons None fs h more = more
tells_cons (Some f) fs h more = h

tells_all : (xs : List RegionSpan) (ys : List (ℕ × RegionSpan)) → Tells (option_map region_told (slice_get (filter_map (λ y. table_region_fault (take y.0 xs) y.1) ys) 0))
tells_all xs [] = tt
tells_all xs (y ∷ ys) =
    tells_cons (table_region_fault (take y.0 xs) y.1) (filter_map (λ y. table_region_fault (take y.0 xs) y.1) ys)
    (tells_one (take y.0 xs) y.1) (tells_all xs ys)

tells_table : (b : Bool) (xs : List RegionSpan) → nat_lt 64 (length xs) ≡ b → length xs ≤ 64 → Tells (option_map region_told (if b then Some table.TooMany else slice_get (region_faults xs) 0))
tells_table true xs e few =
    let many : 64 < length xs = grind (arith, nat_tests, e) in
    absurd (omega arith)
tells_table false xs e few = tells_all xs (enumerate_from 0 xs)

tells_spans : (xs : List RegionSpan) → length xs ≤ 64 → Tells (spans_fault xs)
tells_spans xs few = tells_table (nat_lt 64 (length xs)) xs refl few

tells_program : (fs : List Fault) → Tells (option_map check_fault (slice_get fs 0))
tells_program [] = tt
tells_program (f ∷ fs) = tt

tells_same : (b : Bool) (i : ℕ) → Tells (if b then None else Some (fault.Args i))
tells_same true i = tt
tells_same false i = tt

tells_args : (i n : ℕ) (o : Option ℕ) → Tells (args_fault i n o)
tells_args i n None = tt
tells_args i n (Some w) = tells_same (nat_eq n w) i

tells_event : (i : ℕ) (o : Option Event) → Tells (no_event i o)
tells_event i None = tt
tells_event i (Some e) = tt

tells_events : (requests nodes i : ℕ) (ds : Items) → Tells (events_fault requests nodes i ds)
tells_events requests nodes i no_items = tt
tells_events requests nodes i (item d ds) =
    tells_or (no_event i (option_and_then (event_of requests nodes) (as_str d))) (events_fault requests nodes (i + 1) ds)
    (tells_event i (option_and_then (event_of requests nodes) (as_str d))) (tells_events requests nodes (i + 1) ds)

tells_rest : (p : Program) (ms : Members) → length (spans (regions_of ms)) ≤ 64 → Tells (rest_fault p ms)
tells_rest p ms few =
    let table = spans_fault (spans (regions_of ms)) in
    let iters = each (iter_fault p) 0 (requests_of ms) in
    let events = events_fault (count (requests_of ms)) (nodes_of ms) 0 (events_of ms) in
    tells_first (program_fault p) (table ∷ iters ∷ events ∷ []) (tells_program (fault_list p))
    (tells_first table (iters ∷ events ∷ []) (tells_spans (spans (regions_of ms)) few)
    (tells_first iters (events ∷ [])
    (tells_each (iter_fault p) (λ i m. tells_args i (count (args_of m)) (option_and_then (arg_count p) (iter_index p (iter_name_of m)))) 0 (requests_of ms))
    (tells_first events [] (tells_events (count (requests_of ms)) (nodes_of ms) 0 (events_of ms)) tt)))

-- a document's first failing check has its cause, and is not that the text is no document
pub record IsCaused (f : DocFault) : Type 0 where
  pub cause : HasCause f
  pub table : f ≢ fault.Toml

told_cause : (f : DocFault) → IsTold f → IsCaused f
told_cause fault.Toml h = absurd h
told_cause fault.Memory h = absurd h
told_cause (fault.Program f) h = absurd h
told_cause (fault.Region i table.TooMany) h = absurd h
told_cause f h = record { cause = tt; table = λ e. cc }

syntax_cause : (f : SyntaxFault) → f ≢ syntax.Memory → IsCaused (fault.Program f)
syntax_cause syntax.Memory h = absurd (h refl)
syntax_cause f h = record { cause = tt; table = λ e. cc }

told_at : (o : Option DocFault) (f : DocFault) → Tells o → o ≡ Some f → IsTold f
told_at None f h e = cc
told_at (Some g) f h e = let same : g ≡ f = cc in subst IsTold same h

pub caused : (ms : Members) (f : DocFault) → IsFaultOf ms f → IsCaused f
caused ms _ (of_form f h) = told_cause f (told_at (form_fault ms) f (tells_form ms) h)
caused ms _ (of_text f form h other) = syntax_cause f other
caused ms _ (of_program p f form is_program h) =
    told_cause f (told_at (rest_fault p ms) f (tells_rest p ms (few_spans ms (form_facts ms form))) h)
