-- A node's regions are its share of the plan's.
use Rattle.std.proofs.Common.{◌≡◌, ℕ, zero, suc, ◌+◌, ◌<◌, ◌≤◌, true, false, List, [], ◌∷◌, length, map, Some, refl, sym, ap, ◌∙◌, subst, arith, nat_eq, if◌then◌else◌, eqb-true}
use Rattle.std.specs.Prelude.{slice_get, slice_index_or}
use Rattle.std.proofs.lemmas.List.{length-map}
use Rattle.std.proofs.lemmas.Option.{slice_get_within}
use Rattle.range_table.specs.Memory as table
use Rattle.run_rules.specs.declared.node.NodeRegion.{NodeRegion}
use Rattle.run_rules.proofs.Finds.{by_bool}
use Rattle.run_views.specs.Setting.{owner_of}
use Rattle.run_views.specs.Nodes.{IsShare}
use Rattle.run_views.proofs.Shares.{nowhere, no_region}
use Rattle.event_run.proofs.Lists.{get_low}
use Rattle.scenario_text.specs.declared.plan.PlanRegion.{PlanRegion}
use Rattle.scenario_text.specs.declared.scenario.Scenario.{Scenario}
use Rattle.scenario_text.specs.Accepted.{IsRunnable}
use Rattle.scenario_run.specs.Setting.{setting_of}
use Rattle.scenario_run.specs.Start.{regions_on, first_node}
use Rattle.scenario_run.proofs.Lists.{all_at, index_map}

abbrev numbered : ℕ → PlanRegion → NodeRegion
numbered k r = record { number = k; span = r.span; bytes = r.bytes }

abbrev at : List NodeRegion → ℕ → NodeRegion
at regions j = slice_index_or regions j no_region

-- one region at the front: it is the node's, or it is not
on : (n k : ℕ) (r : PlanRegion) (regions : List PlanRegion) → r.node ≡ n → regions_on n k (r ∷ regions) ≡ numbered k r ∷ regions_on n (suc k) regions
on n k r regions e = let is : nat_eq r.node n ≡ true = grind arith in ap (λ b. if b then numbered k r ∷ regions_on n (suc k) regions else regions_on n (suc k) regions) is

off : (n k : ℕ) (r : PlanRegion) (regions : List PlanRegion) → nat_eq r.node n ≡ false → regions_on n k (r ∷ regions) ≡ regions_on n (suc k) regions
off n k r regions e = ap (λ b. if b then numbered k r ∷ regions_on n (suc k) regions else regions_on n (suc k) regions) e

-- the region at a place of the node, by its place in the plan from region k on
record IsFrom (n k : ℕ) (regions : List PlanRegion) (g : NodeRegion) : Type 0 where
  pub place : ℕ
  pub region : PlanRegion
  pub stands : slice_get regions place ≡ Some region
  pub mine : region.node ≡ n
  pub is : g ≡ numbered (k + place) region

later : (n k : ℕ) (r : PlanRegion) (regions : List PlanRegion) (g : NodeRegion) → IsFrom n (suc k) regions g → IsFrom n k (r ∷ regions) g
later n k r regions g f = record { place = suc f.place; region = f.region; stands = f.stands; mine = f.mine; is = f.is ∙ ap (λ z. numbered z f.region) (omega arith) }

abbrev AreFrom : ℕ → ℕ → List PlanRegion → List NodeRegion → Type 0
AreFrom n k regions gs = (j : ℕ) → j < length gs → IsFrom n k regions (at gs j)

front_from : (n k : ℕ) (r : PlanRegion) (regions : List PlanRegion) (gs : List NodeRegion) → r.node ≡ n → AreFrom n (suc k) regions gs → AreFrom n k (r ∷ regions) (numbered k r ∷ gs)
front_from n k r regions gs mine all zero low = record { place = 0; region = r; stands = refl; mine = mine; is = ap (λ z. numbered z r) (omega arith) }
front_from n k r regions gs mine all (suc j) low = later n k r regions (at gs j) (all j (omega (arith, low)))

each : (n k : ℕ) (regions : List PlanRegion) → AreFrom n k regions (regions_on n k regions)
each n k [] = λ j low. absurd (omega (arith, low))
each n k (r ∷ regions) =
    let gs = regions_on n (suc k) regions in
    let rest = each n (suc k) regions in
    by_bool (nat_eq r.node n)
    (λ t. let mine = eqb-true r.node n t in subst (AreFrom n k (r ∷ regions)) (sym (on n k r regions mine)) (front_from n k r regions gs mine rest))
    (λ t. subst (AreFrom n k (r ∷ regions)) (sym (off n k r regions t)) (λ j low. later n k r regions (at gs j) (rest j low)))

-- each of the node's regions is there
abbrev Has : List NodeRegion → ℕ → Type 0
Has gs number = (j : ℕ) × (j < length gs) × ((at gs j).number ≡ number)

there : (n k : ℕ) (regions : List PlanRegion) (i : ℕ) (r : PlanRegion) → slice_get regions i ≡ Some r → r.node ≡ n → Has (regions_on n k regions) (k + i)
there n k [] i r e mine = absurd (cc)
there n k (x ∷ regions) zero r e mine =
    let same : x ≡ r = cc in
    subst (λ gs. Has gs (k + zero)) (sym (on n k x regions (ap (λ (z : PlanRegion). z.node) same ∙ mine))) (0, omega arith, omega arith)
there n k (x ∷ regions) (suc i) r e mine =
    let f = there n (suc k) regions i r e mine in
    let low = f.1 in
    let number = f.2 in
    by_bool (nat_eq x.node n)
    (λ t. subst (λ gs. Has gs (k + suc i)) (sym (on n k x regions (eqb-true x.node n t))) (suc f.0, omega (arith, low), omega (arith, number)))
    (λ t. subst (λ gs. Has gs (k + suc i)) (sym (off n k x regions t)) (f.0, low, omega (arith, number)))

-- and once: no two have the same number
abbrev Once : List NodeRegion → Type 0
Once gs = (j m : ℕ) → j < length gs → m < length gs → (at gs j).number ≡ (at gs m).number → j ≡ m

number_from : (n k : ℕ) (regions : List PlanRegion) (j : ℕ) → j < length (regions_on n k regions) → k ≤ (at (regions_on n k regions) j).number
number_from n k regions j low =
    let f = each n k regions j low in
    let is : (at (regions_on n k regions) j).number ≡ k + f.place = ap (λ (g : NodeRegion). g.number) f.is in
    omega (arith, is)

front_once : (n k : ℕ) (r : PlanRegion) (regions : List PlanRegion) → Once (regions_on n (suc k) regions) → Once (numbered k r ∷ regions_on n (suc k) regions)
front_once n k r regions h zero zero a b e = refl
front_once n k r regions h zero (suc m) a b e = absurd (let x = number_from n (suc k) regions m (omega (arith, b)) in omega (arith, x, e))
front_once n k r regions h (suc j) zero a b e = absurd (let x = number_from n (suc k) regions j (omega (arith, a)) in omega (arith, x, e))
front_once n k r regions h (suc j) (suc m) a b e = ap suc (h j m (omega (arith, a)) (omega (arith, b)) e)

once : (n k : ℕ) (regions : List PlanRegion) → Once (regions_on n k regions)
once n k [] = λ j m a b e. absurd (omega (arith, a))
once n k (r ∷ regions) = by_bool (nat_eq r.node n)
    (λ t. subst Once (sym (on n k r regions (eqb-true r.node n t))) (front_once n k r regions (once n (suc k) regions)))
    (λ t. subst Once (sym (off n k r regions t)) (once n (suc k) regions))

in_plan : (n : ℕ) (regions : List PlanRegion) (g : NodeRegion) (f : IsFrom n 0 regions g) → g.number ≡ f.place
in_plan n regions g f = ap (λ (g : NodeRegion). g.number) f.is ∙ omega arith

pub share : (s : Scenario) (h : IsRunnable s) (n : ℕ) → IsShare (setting_of s h) n (first_node s n)
share s h n =
    let regions = (s.plan).regions in
    let gs = regions_on n 0 regions in
    record {
      inside = λ k low. (let f = each n 0 regions k low in
          let number = in_plan n regions (at gs k) f in
          let within = slice_get_within regions f.place f.region f.stands in
          let long = length-map regions (λ (r : PlanRegion). r.span) in
          omega (arith, number, within, long));
      spans = λ k low. (let f = each n 0 regions k low in
          ap (λ (g : NodeRegion). g.span) f.is ∙ sym (index_map (λ (r : PlanRegion). r.span) regions f.place f.region nowhere f.stands) ∙ ap (table.region_at (map (λ (r : PlanRegion). r.span) regions)) (sym (in_plan n regions (at gs k) f)));
      owned = λ k low. (let f = each n 0 regions k low in
          ap (owner_of (setting_of s h)) (in_plan n regions (at gs k) f) ∙ index_map (λ (r : PlanRegion). r.node) regions f.place f.region 0 f.stands ∙ f.mine);
      whole = λ i low own. (let x = get_low regions i (let long = length-map regions (λ (r : PlanRegion). r.span) in omega (arith, low, long)) in
          let y = there n 0 regions i x.0 x.1 (sym (index_map (λ (r : PlanRegion). r.node) regions i x.0 0 x.1) ∙ own) in
          (y.0, y.1, y.2 ∙ omega arith));
      once = once n 0 regions;
      filled = λ k low. (let f = each n 0 regions k low in
          ap (λ (g : NodeRegion). length g.bytes) f.is ∙ all_at (λ (r : PlanRegion). length r.bytes ≡ (r.span).len) regions f.place f.region h.regions.filled f.stands ∙ sym (ap (λ (g : NodeRegion). (g.span).len) f.is));
    }
