-- A document of which no check fails is runnable.
use Rattle.std.proofs.Common.{◌≡◌, ◌≤◌, ◌<◌, ◌+◌, ◌*◌, ℕ, suc, Bool, true, false, not, nat_lt, nat_le, nat_eq, List, [], ◌∷◌, length, replicate, map, Option, Some, None, option_map, arith, refl, ap, sym, subst, ◌∙◌, length-append, if◌then◌else◌}
use Rattle.std.proofs.lemmas.Bool.{leb-true}
use Rattle.std.proofs.lemmas.Bool.Decides.{nat_tests}
use Rattle.std.proofs.lemmas.List.{length-replicate}
use Rattle.std.proofs.lemmas.List.Elements.{All-nil, All-cons}
use Rattle.std.proofs.lemmas.List.Sums.{sum_by-cons}
use Rattle.std.proofs.lemmas.Option.{slice_get_within}
use Rattle.std.specs.Prelude.{All, codes, option_and_then, slice_get, sum_by, unwrap_or}
use Rattle.std.specs.Option.{option_or}
use Rattle.toml.specs.Data.{Data, string, integer, float, boolean, datetime, array, table, Items, no_items, item, Members, as_array, as_str, as_table, get_member}
use Rattle.iter_syntax.specs.declared.tree.Iter.{Iter}
use Rattle.iter_syntax.specs.declared.tree.Program.{Program}
use Rattle.iter_check.specs.FaultList.{fault_list}
use Rattle.pulse_base.specs.declared.event.Event.{Event}
use Rattle.pulse_base.specs.declared.event.Event.TheVariants.{Ask, Tick, Deliver, Turn}
use Rattle.range_table.specs.Table.{IsTable}
use Rattle.scenario_text.specs.declared.fault.DocFault.{DocFault}
use Rattle.scenario_text.specs.declared.kind.Entry.{Entry}
use Rattle.scenario_text.specs.declared.kind.Entry.TheVariants as entry
use Rattle.scenario_text.specs.declared.kind.Kind.TheVariants.{List as ListOf}
use Rattle.scenario_text.specs.declared.plan.PlanRegion.{PlanRegion}
use Rattle.scenario_text.specs.Accepted.{IsEventOf, AreRegions, AreRequests, IsRunnable}
use Rattle.scenario_text.specs.Events.{event_of, events_fault, number_after}
use Rattle.scenario_text.specs.Form.{count, each, form_fault, hex_fault, limit, lists_fault, prefix_of, region_fault, regions_fault, request_fault, size_of, sizes, work_of}
use Rattle.scenario_text.specs.Keys.{is_bad, keys_fault, region_keys, request_keys, top_keys}
use Rattle.scenario_text.specs.Kinds.{all_items, is_entry}
use Rattle.scenario_text.specs.Numbers.{argument_of, below}
use Rattle.scenario_text.specs.OfProgram.{arg_count, args_fault, iter_fault, iter_index, program_fault, rest_fault, spans_fault}
use Rattle.scenario_text.specs.Plan.{plan_args, plan_of, plan_request, plan_requests}
use Rattle.scenario_text.specs.Regions.{gather, plan_events, plan_region, plan_regions, spans, with_first}
use Rattle.scenario_text.specs.Steps.{AreSmallClients, IsSmallClient}
use Rattle.scenario_text.specs.Values.{args_of, budget_of, clients_of, events_of, iter_name_of, node_of, nodes_of, or_nothing, region_hex, region_size, region_zeros, regions_of, requests_of, rounds_of}
use Rattle.scenario_text.proofs.Gathered.{all_given, given, length_gathered, length_given, number_given}
use Rattle.scenario_text.proofs.Limits.{ListLimits, kept, list_limits, none_there}
use Rattle.scenario_text.proofs.Ranges.{TopRanges, client_in_range, no_bad, node_in_range, none_or, top_ranges}

-- lists whose kind was checked
not_false : (b : Bool) → not b ≡ false → b ≡ true
not_false true h = refl
not_false false h = cc

entries : (e : Entry) (o : Option Data) → is_bad (ListOf e) o ≡ false → all_items (is_entry e) (unwrap_or (option_and_then as_array o) no_items) ≡ true
entries e None h = refl
entries e (Some (array ds)) h = not_false (all_items (is_entry e) ds) h
entries e (Some (string s)) h = cc
entries e (Some (integer z)) h = cc
entries e (Some (float x)) h = cc
entries e (Some (boolean b)) h = cc
entries e (Some (datetime d)) h = cc
entries e (Some (table ms)) h = cc

-- what the checks that need no program leave
pub record FormFacts (ms : Members) : Type 0 where
  pub keys : keys_fault [] top_keys ms ≡ None
  pub top : TopRanges ms
  pub lists : ListLimits ms
  pub region_tables : all_items (is_entry entry.Table) (regions_of ms) ≡ true
  pub request_tables : all_items (is_entry entry.Table) (requests_of ms) ≡ true
  pub regions : each (region_fault (nodes_of ms)) 0 (regions_of ms) ≡ None
  pub bytes : sizes (regions_of ms) ≤ 16777216
  pub requests : each (request_fault (clients_of ms)) 0 (requests_of ms) ≡ None
  pub work : work_of ms ≤ 1048576

pub form_facts : (ms : Members) → form_fault ms ≡ None → FormFacts ms
form_facts ms h =
    let keys = keys_fault [] top_keys ms in
    let lists = lists_fault ms in
    let regions = regions_fault (nodes_of ms) (regions_of ms) in
    let requests = each (request_fault (clients_of ms)) 0 (requests_of ms) in
    let work = limit (codes "work") (nat_le (work_of ms) 1048576) in
    let each_region = each (region_fault (nodes_of ms)) 0 (regions_of ms) in
    let bytes = limit (codes "bytes") (nat_le (sizes (regions_of ms)) 16777216) in
    let (k, h1) = none_there keys (lists ∷ regions ∷ requests ∷ work ∷ []) h in
    let (l, h2) = none_there lists (regions ∷ requests ∷ work ∷ []) h1 in
    let (r, h3) = none_there regions (requests ∷ work ∷ []) h2 in
    let (q, h4) = none_there requests (work ∷ []) h3 in
    let (w, h5) = none_there work [] h4 in
    let (r1, r2) = none_there each_region (bytes ∷ []) r in
    let (b, r3) = none_there bytes [] r2 in
    let fine = no_bad [] top_keys ms k in
    record {
      keys = k;
      top = top_ranges ms k;
      lists = list_limits ms l;
      region_tables = entries entry.Table (get_member (codes "region") ms) fine.1.1.1.1.1.1.1.1.1.1.0;
      request_tables = entries entry.Table (get_member (codes "request") ms) fine.1.1.1.1.1.1.1.1.1.1.1.0;
      regions = r1;
      bytes = leb-true _ _ (kept (codes "bytes") (nat_le (sizes (regions_of ms)) 16777216) b);
      requests = q;
      work = leb-true _ _ (kept (codes "work") (nat_le (work_of ms) 1048576) w);
    }

-- regions
placed : (nodes : ℕ) → 1 ≤ nodes → (i : ℕ) (ms : Members) → region_fault nodes i ms ≡ None → node_of ms < nodes
placed nodes some i ms h =
    let (keys, hex) = none_or (keys_fault (prefix_of (codes "region") i) (region_keys nodes) ms) (hex_fault i (region_hex ms)) h in
    let low = node_in_range (prefix_of (codes "region") i) nodes ms keys in
    omega arith

filled : (ms : Members) → length (plan_region ms).bytes ≡ region_size ms
filled ms =
    length-append (or_nothing (region_hex ms)) (replicate (region_zeros ms) 0)
    ∙ ap (λ n. length (or_nothing (region_hex ms)) + n) (length-replicate (region_zeros ms) 0)

sum_first : (i : ℕ) (o : Option Members) (rs : List PlanRegion) → sum_by (λ r. length r.bytes) (with_first (option_map plan_region o) rs) ≡ size_of o + sum_by (λ r. length r.bytes) rs
sum_first i None rs = omega arith
sum_first i (Some ms) rs =
    sum_by-cons (λ (r : PlanRegion). length r.bytes) (plan_region ms) rs ∙ ap (λ n. n + sum_by (λ (r : PlanRegion). length r.bytes) rs) (filled ms)

sum_sizes : (i : ℕ) (ds : Items) → sum_by (λ r. length r.bytes) (given (λ k. plan_region) i ds) ≡ sizes ds
sum_sizes i no_items = refl
sum_sizes i (item d ds) = sum_first i (as_table d) (given (λ k. plan_region) (i + 1) ds) ∙ ap (λ n. size_of (as_table d) + n) (sum_sizes (i + 1) ds)

are_regions : (ms : Members) → FormFacts ms → IsTable (spans (regions_of ms)) → AreRegions (nodes_of ms) (plan_regions (regions_of ms))
are_regions ms f t =
    let nodes = nodes_of ms in
    let check = region_fault nodes in
    let give = λ (k : ℕ). plan_region in
    record {
      some = subst (λ (n : ℕ). 1 ≤ n) (sym (length_given give 0 (regions_of ms) f.region_tables)) f.lists.regions.0;
      table = t;
      placed = all_given check check give (λ r. r.node < nodes) (λ i m h h2. placed nodes f.top.nodes.0 i m h) 0 (regions_of ms) f.regions f.regions;
      filled = all_given check check give (λ r. length r.bytes ≡ (r.span).len) (λ i m h h2. filled m) 0 (regions_of ms) f.regions f.regions;
      bytes = subst (λ (n : ℕ). n ≤ 16777216) (sym (sum_sizes 0 (regions_of ms))) f.bytes;
    }

same_length : (rs : List PlanRegion) → length (map (λ r. r.span) rs) ≡ length rs
same_length [] = refl
same_length (r ∷ rs) = ap suc (same_length rs)

pub few_spans : (ms : Members) → FormFacts ms → length (spans (regions_of ms)) ≤ 64
few_spans ms f =
    subst (λ (n : ℕ). n ≤ 64) (sym (same_length (plan_regions (regions_of ms)) ∙ length_given (λ (k : ℕ). plan_region) 0 (regions_of ms) f.region_tables)) f.lists.regions.1

-- requests
small_first : (clients i : ℕ) (o : Option Members) → clients ≤ 16 → option_and_then (request_fault clients i) o ≡ None → IsSmallClient o
small_first clients i None few h = tt
small_first clients i (Some ms) few h = let low = client_in_range (prefix_of (codes "request") i) clients ms h in omega arith

pub small_clients : (clients i : ℕ) (ds : Items) → clients ≤ 16 → each (request_fault clients) i ds ≡ None → AreSmallClients ds
small_clients clients i no_items few h = tt
small_clients clients i (item d ds) few h =
    let (here, more) = none_or (option_and_then (request_fault clients i) (as_table d)) (each (request_fault clients) (i + 1) ds) h in
    (small_first clients i (as_table d) few here, small_clients clients (i + 1) ds few more)

same_number : (b : Bool) (f : DocFault) (n w : ℕ) → nat_eq n w ≡ b → (if b then None else Some f) ≡ None → w ≡ n
same_number true f n w e h = grind (arith, nat_tests, e)
same_number false f n w e h = cc

found_args : (i n : ℕ) (o : Option ℕ) → args_fault i n o ≡ None → o ≡ Some n
found_args i n None h = cc
found_args i n (Some w) h = ap Some (same_number (nat_eq n w) (Rattle.scenario_text.specs.declared.fault.DocFault.TheVariants.Args i) n w refl h)

found_iter : (p : Program) (i n : ℕ) (o : Option ℕ) → args_fault i n (option_and_then (arg_count p) o) ≡ None → arg_count p (unwrap_or o 0) ≡ Some n
found_iter p i n None h = cc
found_iter p i n (Some k) h = found_args i n (arg_count p k) h

within_iters : (p : Program) (k n : ℕ) (o : Option Iter) → slice_get p.iters k ≡ o → option_map (λ it. length it.args) o ≡ Some n → k < length p.iters
within_iters p k n None at h = cc
within_iters p k n (Some it) at h = slice_get_within p.iters k it at

all_args : (i : ℕ) (clients : ℕ) (ms : Members) → request_fault clients i ms ≡ None → length (plan_args (args_of ms)) ≡ count (args_of ms)
all_args i clients ms h =
    let fine = no_bad (prefix_of (codes "request") i) (request_keys clients) ms h in
    length_gathered (is_entry entry.Argument) (λ k d. argument_of d) (λ k d passes. passes) 0 (args_of ms) (entries entry.Argument (get_member (codes "args") ms) fine.1.0)

are_requests : (p : Program) (ms : Members) → FormFacts ms → each (iter_fault p) 0 (requests_of ms) ≡ None → AreRequests (record { checked = p; plan = plan_of p ms }) (plan_requests p (requests_of ms))
are_requests p ms f h =
    let check = request_fault (clients_of ms) in
    let give = plan_request p in
    let len = length_given give 0 (requests_of ms) f.request_tables in
    record {
      some = subst (λ (n : ℕ). 1 ≤ n) (sym len) f.lists.requests.0;
      few = subst (λ (n : ℕ). n ≤ 1000) (sym len) f.lists.requests.1;
      numbered = λ k r at. number_given give (λ r. r.number) (λ i m. refl) 0 (requests_of ms) f.request_tables k r at ∙ omega arith;
      asked = all_given check (iter_fault p) give (λ r. r.client < clients_of ms)
          (λ i m keys iter. let low = client_in_range (prefix_of (codes "request") i) (clients_of ms) m keys in let some = f.top.clients.0 in omega arith) 0 (requests_of ms) f.requests h;
      iters = all_given check (iter_fault p) give (λ r. r.iter < length p.iters)
          (λ i m keys iter. within_iters p (unwrap_or (iter_index p (iter_name_of m)) 0) (count (args_of m)) (slice_get p.iters (unwrap_or (iter_index p (iter_name_of m)) 0)) refl (found_iter p i (count (args_of m)) (iter_index p (iter_name_of m)) iter)) 0 (requests_of ms) f.requests h;
      args = all_given check (iter_fault p) give (λ r. arg_count p r.iter ≡ Some (length r.args.items))
          (λ i m keys iter. found_iter p i (count (args_of m)) (iter_index p (iter_name_of m)) iter ∙ ap Some (sym (all_args i (clients_of ms) m keys))) 0 (requests_of ms) f.requests h;
    }

-- events
module _ {A : Type 0} (give : ℕ → Data → Option A) (P : A → Type 0) (holds : (i : ℕ) (d : Data) (x : A) → give i d ≡ Some x → P x) where
  all_with : (o : Option A) (xs : List A) → ((x : A) → o ≡ Some x → P x) → All P xs → All P (with_first o xs)
  all_with None xs here more = more
  all_with (Some x) xs here more = All-cons P x xs (here x refl) more

  all_made : (i : ℕ) (ds : Items) → All P (gather give i ds)
  all_made i no_items = All-nil P
  all_made i (item d ds) = all_with (give i d) (gather give (i + 1) ds) (holds i d) (all_made (i + 1) ds)

  length_with : (o : Option A) (xs : List A) (n : ℕ) → length xs ≤ n → length (with_first o xs) ≤ 1 + n
  length_with None xs n h = omega arith
  length_with (Some x) xs n h = omega arith

  length_made : (i : ℕ) (ds : Items) → length (gather give i ds) ≤ count ds
  length_made i no_items = omega arith
  length_made i (item d ds) = let more = length_with (give i d) (gather give (i + 1) ds) (count ds) (length_made (i + 1) ds) in omega arith

module _ (P : Event → Type 0) where
  or_holds : (o p : Option Event) → ((x : Event) → o ≡ Some x → P x) → ((x : Event) → p ≡ Some x → P x) → (x : Event) → option_or o p ≡ Some x → P x
  or_holds None p ho hp x h = hp x h
  or_holds (Some y) p ho hp x h = ho x h

  below_holds : (limit n : ℕ) (make : ℕ → Event) (b : Bool) → nat_lt n limit ≡ b → ((k : ℕ) → k < limit → P (make k)) → (x : Event) → option_map make (if b then Some n else None) ≡ Some x → P x
  below_holds limit n make true e holds x h =
      let lt : n < limit = grind (arith, nat_tests, e) in
      let same : make n ≡ x = cc in
      subst P same (holds n lt)
  below_holds limit n make false e holds x h = cc

  limit_holds : (limit : ℕ) (make : ℕ → Event) (o : Option ℕ) → ((k : ℕ) → k < limit → P (make k)) → (x : Event) → option_map make (option_and_then (below limit) o) ≡ Some x → P x
  limit_holds limit make None holds x h = cc
  limit_holds limit make (Some n) holds x h = below_holds limit n make (nat_lt n limit) refl holds x h

  any_holds : (make : ℕ → Event) (o : Option ℕ) → ((k : ℕ) → P (make k)) → (x : Event) → option_map make o ≡ Some x → P x
  any_holds make None holds x h = cc
  any_holds make (Some n) holds x h = let same : make n ≡ x = cc in subst P same (holds n)

event_in_range : (requests nodes : ℕ) (s : List ℕ) (e : Event) → event_of requests nodes s ≡ Some e → IsEventOf requests nodes e
event_in_range requests nodes s =
    let P = IsEventOf requests nodes in
    let ask = option_map Ask (option_and_then (below requests) (number_after (codes "ask ") s)) in
    let tick = option_map Tick (option_and_then (below requests) (number_after (codes "tick ") s)) in
    let deliver = option_map Deliver (number_after (codes "deliver ") s) in
    let turn = option_map Turn (option_and_then (below nodes) (number_after (codes "turn ") s)) in
    or_holds P ask (option_or tick (option_or deliver turn)) (limit_holds P requests Ask (number_after (codes "ask ") s) (λ k h. h))
    (or_holds P tick (option_or deliver turn) (limit_holds P requests Tick (number_after (codes "tick ") s) (λ k h. h))
    (or_holds P deliver turn (any_holds P Deliver (number_after (codes "deliver ") s) (λ k. tt))
    (limit_holds P nodes Turn (number_after (codes "turn ") s) (λ k h. h))))

text_in_range : (requests nodes : ℕ) (o : Option (List ℕ)) (e : Event) → option_and_then (event_of requests nodes) o ≡ Some e → IsEventOf requests nodes e
text_in_range requests nodes None e h = cc
text_in_range requests nodes (Some s) e h = event_in_range requests nodes s e h

-- a program's checks leave that no request's iterator or number of arguments is wrong
pub rest_iters : (p : Program) (ms : Members) → rest_fault p ms ≡ None → each (iter_fault p) 0 (requests_of ms) ≡ None
rest_iters p ms h =
    let table = spans_fault (spans (regions_of ms)) in
    let iters = each (iter_fault p) 0 (requests_of ms) in
    let events = events_fault (count (requests_of ms)) (nodes_of ms) 0 (events_of ms) in
    let (a, h1) = none_there (program_fault p) (table ∷ iters ∷ events ∷ []) h in
    let (b, h2) = none_there table (iters ∷ events ∷ []) h1 in
    (none_there iters (events ∷ []) h2).0

pub runnable : (p : Program) (ms : Members) → form_fault ms ≡ None → each (iter_fault p) 0 (requests_of ms) ≡ None → fault_list p ≡ [] → IsTable (spans (regions_of ms)) → IsRunnable (record { checked = p; plan = plan_of p ms })
runnable p ms form iters accepted is_table =
    let f = form_facts ms form in
    let n = count (requests_of ms) in
    let len = length_given (plan_request p) 0 (requests_of ms) f.request_tables in
    let give = λ (i : ℕ) (d : Data). option_and_then (event_of n (nodes_of ms)) (as_str d) in
    let in_range = λ (i : ℕ) (d : Data) (e : Event) (h : give i d ≡ Some e). text_in_range n (nodes_of ms) (as_str d) e h in
    record {
      accepted = accepted;
      nodes = f.top.nodes;
      slots = f.top.slots;
      budget = f.top.budget.0;
      rounds = f.top.rounds;
      tries = f.top.tries.1;
      clients = f.top.clients;
      port = f.top.port;
      regions = are_regions ms f is_table;
      requests = are_requests p ms f iters;
      work = subst (λ (k : ℕ). rounds_of ms * budget_of ms * k ≤ 1048576) (sym len) f.work;
      few_events =
          let few = length_made give (IsEventOf n (nodes_of ms)) in_range 0 (events_of ms) in
          let most = f.lists.events in
          omega arith;
      events = subst (λ (k : ℕ). All (IsEventOf k (nodes_of ms)) (plan_events n (nodes_of ms) (events_of ms))) (sym len)
          (all_made give (IsEventOf n (nodes_of ms)) in_range 0 (events_of ms));
    }
