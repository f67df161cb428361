-- A region of a plan that a node has: its place, and its bytes.
use Rattle.std.proofs.Common.{◌≡◌, ℕ, zero, suc, ◌+◌, ◌<◌, ◌≤◌, Bool, true, false, List, [], ◌∷◌, ◌++◌, length, take, drop, nat_eq, Option, Some, None, refl, sym, ap, ◌∙◌, arith, append-nil, if◌then◌else◌}
use Rattle.std.specs.Prelude.{slice_index_or, slice_get, IsSome}
use Rattle.std.proofs.lemmas.List.{take_all, drop_all}
use Rattle.std.proofs.lemmas.List.Quantifiers.{position-Some}
use Rattle.std.proofs.lemmas.Option.{get_or_from_slice_get, slice_get-get_or}
use Rattle.range_table.specs.declared.region.RegionSpan.{RegionSpan}
use Rattle.report_text.specs.declared.outcome.OutRegion.{OutRegion}
use Rattle.run_rules.specs.declared.node.NodeRegion.{NodeRegion}
use Rattle.run_views.specs.Nodes.{bytes_numbered}
use Rattle.run_views.proofs.Shares.{no_region}
use Rattle.node_core.specs.Part.{PartState, IsPart, IsHere, HoldsRange, IsRange, place_by}
use Rattle.node_core.proofs.Regions.{bytes_fit}
use Rattle.scenario_text.specs.declared.plan.PlanRegion.{PlanRegion}
use Rattle.pulse_process.specs.inner.Held.{IsHeld, HasSpan}

abbrev at : List NodeRegion → ℕ → NodeRegion
at regions k = slice_index_or regions k no_region

abbrev pub numbered : ℕ → NodeRegion → Bool
numbered i g = nat_eq g.number i

some_is : (o : Option ℕ) → IsSome o → (j : ℕ) × (o ≡ Some j)
some_is None h = absurd (cc)
some_is (Some j) h = (j, refl)

-- a region that is here has as many bytes as the plan gives it
pub held_is : (p : PartState) (i : ℕ) (r : PlanRegion) → IsPart p → HasSpan p i r → length r.bytes ≡ r.span.len → IsHere p i → IsHeld p i r
held_is p i r part span filled here =
    let w = some_is (place_by p i) here in
    let f = position-Some (numbered i) p.node.regions w.0 no_region w.1 in
    let there : slice_get p.node.regions w.0 ≡ Some (at p.node.regions w.0) = slice_get-get_or p.node.regions w.0 no_region f.0 in
    let same : (at p.node.regions w.0).span ≡ r.span = span w.0 (at p.node.regions w.0) w.1 there in
    record {
      place = w.0;
      region = at p.node.regions w.0;
      at = w.1;
      there = there;
      long = bytes_fit p.node.regions w.0 (at p.node.regions w.0) part.regions there ∙ ap (λ (z : RegionSpan). z.len) same ∙ sym filled;
    }

-- so many bytes from its begin can be read
pub may_be_read : (p : PartState) (i : ℕ) (r : PlanRegion) (x : IsHeld p i r) (count : ℕ) → count ≡ length r.bytes → HoldsRange p i 0 count
may_be_read p i r x count e = (x.place, x.region, x.at, x.there, (let l = x.long in omega (arith, l, e)))

-- the bytes under a number are those of its first region
first_bytes : (i : ℕ) (regions : List NodeRegion) (j : ℕ) → j < length regions → numbered i (at regions j) ≡ true → ((k : ℕ) → k < j → numbered i (at regions k) ≡ false) → bytes_numbered regions i ≡ (at regions j).bytes
first_bytes i [] j low hit miss = absurd (omega (arith, low))
first_bytes i (g ∷ regions) zero low hit miss = ap (λ b. if b then g.bytes else bytes_numbered regions i) hit
first_bytes i (g ∷ regions) (suc j) low hit miss =
    ap (λ b. if b then g.bytes else bytes_numbered regions i) (miss zero (omega arith))
    ∙ first_bytes i regions j (omega (arith, low)) hit (λ k h. miss (suc k) (omega (arith, h)))

-- and all of them are its bytes
pub bytes_are : (p : PartState) (i : ℕ) (r : PlanRegion) (x : IsHeld p i r) (bytes : List ℕ) → length bytes ≡ length r.bytes → IsRange p i 0 bytes → bytes ≡ bytes_numbered p.node.regions i
bytes_are p i r x bytes long range =
    let gs = p.node.regions in
    let f = position-Some (numbered i) gs x.place no_region x.at in
    let all : length x.region.bytes ≤ length bytes = (let l = x.long in omega (arith, l, long)) in
    range x.place x.region x.at x.there ∙ take_all (length bytes) x.region.bytes all
    ∙ ap (λ (g : NodeRegion). g.bytes) (sym (get_or_from_slice_get gs x.place x.region no_region x.there))
    ∙ sym (first_bytes i gs x.place f.0 f.1 f.2)

abbrev pub told : Bool → List ℕ → OutRegion
told shown bytes = record { shown = shown; bytes = bytes }

-- a list that was written over as a whole
pub copied : (n : ℕ) (out items : List ℕ) → length out ≡ length items → n ≡ length items → take n (out ++ drop (length out) items) ≡ out
copied n out items same whole =
    ap (λ k. take n (out ++ k)) (drop_all (length out) items (omega (arith, same))) ∙ ap (take n) (append-nil out) ∙ take_all n out (omega (arith, same, whole))
