-- A node that has the regions of node n of a scenario has just those regions of the plan, each with its span.
use Rattle.std.proofs.Common.{◌≡◌, ℕ, zero, suc, ◌+◌, ◌<◌, ◌≤◌, true, false, cond, List, [], ◌∷◌, ◌++◌, length, nat_eq, nat_lt, Option, Some, None, refl, sym, ap, subst, ◌∙◌, arith, eqb-true, if◌then◌else◌}
use Rattle.std.specs.Prelude.{slice_get, slice_index_or, is_some, position}
use Rattle.std.specs.List.{position_or_len}
use Rattle.std.proofs.lemmas.List.{length-map}
use Rattle.std.proofs.lemmas.List.Sums.{fails_before_first}
use Rattle.std.proofs.lemmas.List.Quantifiers.{position-Some}
use Rattle.std.proofs.lemmas.Option.{slice_get_within}
use Rattle.range_table.specs.Memory as table
use Rattle.report_text.specs.Report.{region_line}
use Rattle.run_rules.specs.declared.node.NodeRegion.{NodeRegion}
use Rattle.run_rules.specs.Node.{region_at}
use Rattle.run_rules.proofs.Finds.{by_bool}
use Rattle.run_views.specs.Setting.{owner_of}
use Rattle.run_views.specs.Nodes.{bytes_numbered}
use Rattle.run_views.proofs.Shares.{no_region, nowhere, span_at, same_number, other_number}
use Rattle.node_core.specs.Part.{PartState, numbers_of, place_by}
use Rattle.node_core.proofs.Regions.{region_is}
use Rattle.code_image.specs.declared.image.Image.{Image}
use Rattle.scenario_text.specs.declared.plan.PlanRegion.{PlanRegion}
use Rattle.scenario_text.specs.declared.scenario.Scenario.{Scenario}
use Rattle.scenario_text.specs.Accepted.{IsRunnable}
use Rattle.scenario_run.specs.Setting.{setting_of}
use Rattle.scenario_run.proofs.Lists.{index_map}
use Rattle.scenario_run.proofs.Shares.{share}
use Rattle.scenario_parts.specs.Parts.{first_part}
use Rattle.pulse_process.specs.Node.{region_lines}
use Rattle.pulse_process.specs.inner.Held.{HaveSpans, SameRegions, lines_here}
use Rattle.pulse_process.proofs.Holding.{numbered}

abbrev at : List NodeRegion → ℕ → NodeRegion
at regions k = slice_index_or regions k no_region

number_at : (regions : List NodeRegion) (k : ℕ) → slice_index_or (numbers_of regions) k 0 ≡ (at regions k).number
number_at [] k = refl
number_at (r ∷ regions) zero = refl
number_at (r ∷ regions) (suc k) = number_at regions k

-- place by place the same
number_same : (p q : PartState) (k : ℕ) → SameRegions p q → (region_at q.node k).number ≡ (region_at p.node k).number
number_same p q k h = sym (number_at q.node.regions k) ∙ ap (λ z. slice_index_or z k 0) h.numbers ∙ number_at p.node.regions k

span_same : (p q : PartState) (k : ℕ) → SameRegions p q → (region_at q.node k).span ≡ (region_at p.node k).span
span_same p q k h = sym (span_at q.node k) ∙ ap (λ z. table.region_at z k) h.spans ∙ span_at p.node k

many_same : (p q : PartState) → SameRegions p q → length q.node.regions ≡ length p.node.regions
many_same p q h =
    sym (length-map q.node.regions (λ (r : NodeRegion). r.number)) ∙ ap (λ (z : List ℕ). length z) h.numbers ∙ length-map p.node.regions (λ (r : NodeRegion). r.number)

-- a region of this number is found
found_place : (i : ℕ) (regions : List NodeRegion) (k : ℕ) → k < length regions → (at regions k).number ≡ i → (j : ℕ) × (position (numbered i) regions ≡ Some j)
found_place i regions k low is = by_bool (nat_lt (position_or_len (numbered i) regions) (length regions))
    (λ t. (position_or_len (numbered i) regions, ap (λ b. cond b (Some (position_or_len (numbered i) regions)) None) t))
    (λ t. absurd (let miss : numbered i (at regions k) ≡ false = fails_before_first (numbered i) regions k no_region (let past : length regions ≤ position_or_len (numbered i) regions = grind arith in omega (arith, low, past)) in
    let hit : numbered i (at regions k) ≡ true = grind (arith, is) in
    let both : false ≡ true = sym miss ∙ hit in cc))

-- what is found under a region's number is of this node, and has its span
placed : (s : Scenario) (h : IsRunnable s) (images : List Image) (n : ℕ) (p : PartState) (i : ℕ) (r : PlanRegion) → SameRegions (first_part s images n) p → slice_get (s.plan).regions i ≡ Some r
    → (j : ℕ) → place_by p i ≡ Some j → (r.node ≡ n) × ((region_at p.node j).span ≡ r.span)
placed s h images n p i r same e j found =
    let first = first_part s images n in
    let x = share s h n in
    let f = position-Some (numbered i) p.node.regions j no_region found in
    let many = many_same first p same in
    let low : j < length first.node.regions = (let inside = f.0 in omega (arith, inside, many)) in
    let number : (region_at first.node j).number ≡ i = sym (number_same first p j same) ∙ eqb-true (at p.node.regions j).number i f.1 in (
      sym (index_map (λ (r : PlanRegion). r.node) (s.plan).regions i r 0 e) ∙ ap (owner_of (setting_of s h)) (sym number) ∙ x.owned j low,
      span_same first p j same ∙ x.spans j low ∙ ap (table.region_at (setting_of s h).table) number ∙ index_map (λ (r : PlanRegion). r.span) (s.plan).regions i r nowhere e,
    )

-- and each region of this node is found
there : (s : Scenario) (h : IsRunnable s) (images : List Image) (n : ℕ) (p : PartState) (i : ℕ) (r : PlanRegion) → SameRegions (first_part s images n) p → slice_get (s.plan).regions i ≡ Some r
    → r.node ≡ n → (j : ℕ) × (place_by p i ≡ Some j)
there s h images n p i r same e mine =
    let first = first_part s images n in
    let x = share s h n in
    let long = length-map (s.plan).regions (λ (r : PlanRegion). r.span) in
    let within = slice_get_within (s.plan).regions i r e in
    let low : i < length (setting_of s h).table = omega (arith, long, within) in
    let w = x.whole i low (index_map (λ (r : PlanRegion). r.node) (s.plan).regions i r 0 e ∙ mine) in
    let many = many_same first p same in
    found_place i p.node.regions w.0 (let inside = w.1 in omega (arith, inside, many)) (number_same first p w.0 same ∙ w.2)

-- a region of the plan is here where it is of this node
on_node : (s : Scenario) (h : IsRunnable s) (images : List Image) (n : ℕ) (p : PartState) (i : ℕ) (r : PlanRegion) → SameRegions (first_part s images n) p → slice_get (s.plan).regions i ≡ Some r
    → is_some (place_by p i) ≡ nat_eq r.node n
on_node s h images n p i r same e = by_place (place_by p i) refl
  where
    by_place : (o : Option ℕ) → place_by p i ≡ o → is_some o ≡ nat_eq r.node n
    by_place (Some j) found = sym (same_number r.node n (placed s h images n p i r same e j found).0)
    by_place None found = sym (other_number r.node n (λ mine. (let t = there s h images n p i r same e mine in let both : None ≡ Some t.0 = sym found ∙ t.1 in absurd (cc))))

pub spans_are : (s : Scenario) (h : IsRunnable s) (images : List Image) (n : ℕ) (p : PartState) → SameRegions (first_part s images n) p → HaveSpans p (s.plan).regions
spans_are s h images n p same = λ i r e place region found is. ap (λ (g : NodeRegion). g.span) (sym (region_is p.node place region is)) ∙ (placed s h images n p i r same e place found).1

-- ---- the lines of a node's regions

abbrev line_of : PartState → ℕ → PlanRegion → List ℕ
line_of p i r = region_line i (record { shown = r.shown; bytes = bytes_numbered p.node.regions i })

lines_from : (p : PartState) (n i : ℕ) (regions : List PlanRegion) → ((k : ℕ) (r : PlanRegion) → slice_get regions k ≡ Some r → is_some (place_by p (i + k)) ≡ nat_eq r.node n)
    → lines_here p i regions ≡ region_lines n p.node.regions i regions
lines_from p n i [] on = refl
lines_from p n i (r ∷ regions) on =
    let here : i + zero ≡ i = omega arith in
    let first : is_some (place_by p i) ≡ nat_eq r.node n = subst (λ j. is_some (place_by p j) ≡ nat_eq r.node n) here (on zero r refl) in
    ap (λ b. (if b then line_of p i r else []) ++ lines_here p (suc i) regions) first
    ∙ ap (λ z. (if nat_eq r.node n then line_of p i r else []) ++ z) (lines_from p n (suc i) regions later)
  where
    next : (k : ℕ) → i + suc k ≡ suc i + k
    next k = omega arith

    later : (k : ℕ) (x : PlanRegion) → slice_get regions k ≡ Some x → is_some (place_by p (suc i + k)) ≡ nat_eq x.node n
    later k x e = subst (λ j. is_some (place_by p j) ≡ nat_eq x.node n) (next k) (on (suc k) x e)

pub lines_are : (s : Scenario) (h : IsRunnable s) (images : List Image) (n : ℕ) (p : PartState) → SameRegions (first_part s images n) p → lines_here p 0 (s.plan).regions ≡ region_lines n p.node.regions 0 (s.plan).regions
lines_are s h images n p same = lines_from p n 0 (s.plan).regions (λ k r e. subst (λ j. is_some (place_by p j) ≡ nat_eq r.node n) (from_none k) (on_node s h images n p k r same e))
  where
    from_none : (k : ℕ) → k ≡ 0 + k
    from_none k = omega arith
