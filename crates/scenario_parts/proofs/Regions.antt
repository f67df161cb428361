-- The regions of a node of a plan are what a node may hold.
use Rattle.std.proofs.Common.{◌≡◌, ◌≢◌, ℕ, suc, ◌+◌, ◌≤◌, ◌^◌, Bool, true, false, List, [], ◌∷◌, length, map, sum, refl, ap, ◌∙◌, arith, nat_eq, if◌then◌else◌}
use Rattle.std.specs.Prelude.{All, AllPairs, sum_by}
use Rattle.std.proofs.lemmas.List.{length-map}
use Rattle.std.proofs.lemmas.List.Elements.{All-cons, All-nil}
use Rattle.std.proofs.lemmas.List.Sums.{sum_by-cons}
use Rattle.std.proofs.lemmas.List.Kept.{AllPairs-cons}
use Rattle.range_table.specs.declared.region.RegionSpan.{RegionSpan}
use Rattle.range_table.specs.Memory.{end_of}
use Rattle.range_table.specs.Table.{AreApart}
use Rattle.run_rules.specs.declared.node.NodeRegion.{NodeRegion}
use Rattle.run_rules.specs.Node.{spans_of}
use Rattle.node_core.specs.Part.{IsRegions, numbers_of}
use Rattle.scenario_text.specs.declared.plan.PlanRegion.{PlanRegion}
use Rattle.scenario_text.specs.Accepted.{AreRegions}
use Rattle.scenario_run.specs.Start.{regions_on}
use Rattle.scenario_parts.proofs.Lists.{all_head, all_tail, pairs_head, pairs_tail, pairs_nil}

abbrev numbered : ℕ → PlanRegion → NodeRegion
numbered k r = record { number = k; span = r.span; bytes = r.bytes }

abbrev plan_spans : List PlanRegion → List RegionSpan
plan_spans regions = map (λ (r : PlanRegion). r.span) regions

-- a region at the front is the node's, or it is not
pick : (Q : List NodeRegion → Type 0) (b : Bool) (g : NodeRegion) (gs : List NodeRegion) → Q (g ∷ gs) → Q gs → Q (if b then g ∷ gs else gs)
pick Q true g gs a b = a
pick Q false g gs a b = b

-- what each span has
all_on : (P : RegionSpan → Type 0) (n k : ℕ) (regions : List PlanRegion) → All P (plan_spans regions) → All P (spans_of (regions_on n k regions))
all_on P n k [] h = All-nil P
all_on P n k (r ∷ regions) h =
    let rest = all_on P n (suc k) regions (all_tail P r.span (plan_spans regions) h) in
    pick (λ gs. All P (spans_of gs)) (nat_eq r.node n) (numbered k r) (regions_on n (suc k) regions)
    (All-cons P r.span (spans_of (regions_on n (suc k) regions)) (all_head P r.span (plan_spans regions) h) rest) rest

-- and each two
pairs_on : (R : RegionSpan → RegionSpan → Type 0) (n k : ℕ) (regions : List PlanRegion) → AllPairs R (plan_spans regions) → AllPairs R (spans_of (regions_on n k regions))
pairs_on R n k [] h = pairs_nil R
pairs_on R n k (r ∷ regions) h =
    let rest = pairs_on R n (suc k) regions (pairs_tail R r.span (plan_spans regions) h) in
    pick (λ gs. AllPairs R (spans_of gs)) (nat_eq r.node n) (numbered k r) (regions_on n (suc k) regions)
    (AllPairs-cons R r.span (spans_of (regions_on n (suc k) regions)) (all_on (R r.span) n (suc k) regions (pairs_head R r.span (plan_spans regions) h)) rest) rest

few_on : (n k : ℕ) (regions : List PlanRegion) → length (regions_on n k regions) ≤ length regions
few_on n k [] = omega arith
few_on n k (r ∷ regions) =
    let rest = few_on n (suc k) regions in
    pick (λ gs. length gs ≤ suc (length regions)) (nat_eq r.node n) (numbered k r) (regions_on n (suc k) regions) (omega (arith, rest)) (omega (arith, rest))

low_on : (n k : ℕ) (regions : List PlanRegion) (j : ℕ) → j ≤ k → All (λ m. j ≤ m) (numbers_of (regions_on n k regions))
low_on n k [] j h = All-nil (λ m. j ≤ m)
low_on n k (r ∷ regions) j h =
    let rest = low_on n (suc k) regions j (omega (arith, h)) in
    pick (λ gs. All (λ m. j ≤ m) (numbers_of gs)) (nat_eq r.node n) (numbered k r) (regions_on n (suc k) regions)
    (All-cons (λ m. j ≤ m) k (numbers_of (regions_on n (suc k) regions)) h rest) rest

numbers_on : (n k : ℕ) (regions : List PlanRegion) → AllPairs ◌≢◌ (numbers_of (regions_on n k regions))
numbers_on n k [] = pairs_nil ◌≢◌
numbers_on n k (r ∷ regions) =
    let rest = numbers_on n (suc k) regions in
    let gs = regions_on n (suc k) regions in
    pick (λ gs. AllPairs ◌≢◌ (numbers_of gs)) (nat_eq r.node n) (numbered k r) gs
    (AllPairs-cons ◌≢◌ k (numbers_of gs) (λ i d low e. let above = low_on n (suc k) regions (suc k) (omega arith) i d low in omega (arith, above, e)) rest) rest

abbrev counts : List NodeRegion → List ℕ
counts gs = map (λ (g : NodeRegion). length g.bytes) gs

abbrev lens : List NodeRegion → List ℕ
lens gs = map (λ (s : RegionSpan). s.len) (spans_of gs)

abbrev IsFilled : PlanRegion → Type 0
IsFilled r = length r.bytes ≡ (r.span).len

bytes_on : (n k : ℕ) (regions : List PlanRegion) → All IsFilled regions → counts (regions_on n k regions) ≡ lens (regions_on n k regions)
bytes_on n k [] h = refl
bytes_on n k (r ∷ regions) h =
    let rest = bytes_on n (suc k) regions (all_tail IsFilled r regions h) in
    let gs = regions_on n (suc k) regions in
    pick (λ gs. counts gs ≡ lens gs) (nat_eq r.node n) (numbered k r) gs
    (ap (λ x. x ∷ counts gs) (all_head IsFilled r regions h) ∙ ap (λ xs. (r.span).len ∷ xs) rest) rest

abbrev total_of : List PlanRegion → ℕ
total_of regions = sum_by (λ (r : PlanRegion). length r.bytes) regions

one_total : (r : PlanRegion) (regions : List PlanRegion) → total_of (r ∷ regions) ≡ length r.bytes + total_of regions
one_total r regions = sum_by-cons (λ (r : PlanRegion). length r.bytes) r regions

one_count : (x : ℕ) (xs : List ℕ) → sum (x ∷ xs) ≡ x + sum xs
one_count x xs = sum_by-cons (λ (x : ℕ). x) x xs

sum_on : (n k : ℕ) (regions : List PlanRegion) → sum (counts (regions_on n k regions)) ≤ total_of regions
sum_on n k [] = omega arith
sum_on n k (r ∷ regions) =
    let rest = sum_on n (suc k) regions in
    let gs = regions_on n (suc k) regions in
    let all = one_total r regions in
    let one = one_count (length r.bytes) (counts gs) in
    pick (λ gs. sum (counts gs) ≤ total_of (r ∷ regions)) (nat_eq r.node n) (numbered k r) gs (omega (arith, rest, all, one)) (omega (arith, rest, all))

pub regions_fit : (nodes n : ℕ) (regions : List PlanRegion) → AreRegions nodes regions → IsRegions (regions_on n 0 regions)
regions_fit nodes n regions h =
    let bytes = bytes_on n 0 regions h.filled in
    let total = sum_on n 0 regions in
    let all = h.bytes in
    let few = few_on n 0 regions in
    let long = length-map regions (λ (r : PlanRegion). r.span) in
    let long_on = length-map (regions_on n 0 regions) (λ (r : NodeRegion). r.span) in
    let most = h.table.few in
    record {
      table = record {
        few = omega (arith, few, long, long_on, most);
        filled = all_on (λ r. 1 ≤ r.len) n 0 regions h.table.filled;
        low = all_on (λ r. end_of r ≤ 2 ^ 48) n 0 regions h.table.low;
        apart = pairs_on AreApart n 0 regions h.table.apart;
      };
      numbers = numbers_on n 0 regions;
      bytes = bytes;
      total = (let same = ap sum bytes in omega (arith, total, all, same));
    }
