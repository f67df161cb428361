-- What a document within its limits has.
use Rattle.std.proofs.Common.{◌≡◌, ◌≤◌, ℕ, Bool, true, false, nat_le, List, [], ◌∷◌, length, Option, Some, None, refl}
use Rattle.std.proofs.lemmas.Bool.{and_parts, leb-true}
use Rattle.std.specs.Prelude.{codes}
use Rattle.toml.specs.Data.{Members}
use Rattle.scenario_text.specs.declared.fault.DocFault.{DocFault}
use Rattle.scenario_text.specs.Form.{first_there, limit, is_within, count, lists_fault}
use Rattle.scenario_text.specs.Values.{program_of, regions_of, requests_of, events_of}

-- none of some checks fails: neither the first nor a later one
pub none_there : (o : Option DocFault) (more : List (Option DocFault)) → first_there (o ∷ more) ≡ None → (o ≡ None) × (first_there more ≡ None)
none_there (Some f) more h = cc
none_there None more h = (refl, h)

pub kept : (name : List ℕ) (is_kept : Bool) → limit name is_kept ≡ None → is_kept ≡ true
kept name true h = refl
kept name false h = cc

pub record ListLimits (ms : Members) : Type 0 where
  pub program : length (program_of ms) ≤ 65536
  pub regions : (1 ≤ count (regions_of ms)) × (count (regions_of ms) ≤ 64)
  pub requests : (1 ≤ count (requests_of ms)) × (count (requests_of ms) ≤ 1000)
  pub events : count (events_of ms) ≤ 100000

within : (low high n : ℕ) → is_within low high n ≡ true → (low ≤ n) × (n ≤ high)
within low high n h =
    let parts = and_parts (nat_le low n) (nat_le n high) h in
    (leb-true _ _ parts.0, leb-true _ _ parts.1)

pub list_limits : (ms : Members) → lists_fault ms ≡ None → ListLimits ms
list_limits ms h =
    let program = limit (codes "program") (nat_le (length (program_of ms)) 65536) in
    let regions = limit (codes "region") (is_within 1 64 (count (regions_of ms))) in
    let requests = limit (codes "request") (is_within 1 1000 (count (requests_of ms))) in
    let events = limit (codes "events") (nat_le (count (events_of ms)) 100000) in
    let (p, h1) = none_there program (regions ∷ requests ∷ events ∷ []) h in
    let (r, h2) = none_there regions (requests ∷ events ∷ []) h1 in
    let (q, h3) = none_there requests (events ∷ []) h2 in
    let (e, h4) = none_there events [] h3 in
    record {
      program = leb-true _ _ (kept (codes "program") (nat_le (length (program_of ms)) 65536) p);
      regions = within 1 64 (count (regions_of ms)) (kept (codes "region") (is_within 1 64 (count (regions_of ms))) r);
      requests = within 1 1000 (count (requests_of ms)) (kept (codes "request") (is_within 1 1000 (count (requests_of ms))) q);
      events = leb-true _ _ (kept (codes "events") (nat_le (count (events_of ms)) 100000) e);
    }
