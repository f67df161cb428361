-- Each region of a plan lies on its node, at every moment of a run.
use Rattle.std.proofs.Common.{◌≡◌, ℕ, zero, suc, ◌<◌, ◌≤◌, Bool, true, false, List, [], ◌∷◌, length, map, take, drop, nat_eq, nat_lt, cond, None, Some, refl, sym, ap, ◌∙◌, subst, arith, eqb-true, ◌++◌, append-nil, if◌then◌else◌}
use Rattle.std.specs.Prelude.{slice_get, slice_index_or, position}
use Rattle.std.specs.List.{position_or_len}
use Rattle.std.proofs.lemmas.List.{take_all, drop_all}
use Rattle.std.proofs.lemmas.List.Sums.{fails_before_first}
use Rattle.std.proofs.lemmas.List.Quantifiers.{position-Some}
use Rattle.std.proofs.lemmas.Option.{slice_get_within, get_or_from_slice_get, slice_get-get_or}
use Rattle.range_table.specs.declared.region.RegionSpan.{RegionSpan}
use Rattle.run_laws.specs.Flat.{Flat}
use Rattle.run_rules.specs.declared.node.NodeRegion.{NodeRegion}
use Rattle.run_rules.proofs.Finds.{by_bool}
use Rattle.node_core.specs.Part.{IsRange, HoldsRange}
use Rattle.run_views.specs.Setting.{owner_of}
use Rattle.run_views.specs.Nodes.{bytes_numbered, IsNodeOf}
use Rattle.run_views.proofs.Shares.{no_region, nowhere}
use Rattle.event_run.specs.Always.{IsRun}
use Rattle.event_run.proofs.Lists.{get_low}
use Rattle.scenario_text.specs.declared.plan.PlanRegion.{PlanRegion}
use Rattle.scenario_text.specs.declared.scenario.Scenario.{Scenario}
use Rattle.scenario_text.specs.Accepted.{IsRunnable}
use Rattle.scenario_run.specs.Setting.{setting_of}
use Rattle.scenario_run.proofs.Lists.{all_at, index_map}
use Rattle.world_core.specs.Scene.{Member, Scene, node_of, world_of}
use Rattle.report_text.specs.declared.outcome.OutRegion.{OutRegion}
use Rattle.replay.specs.Report.{bytes_in}
use Rattle.replay.specs.inner.Held.{IsHeld, AreHeld}

abbrev at : List NodeRegion → ℕ → NodeRegion
at regions k = slice_index_or regions k no_region

abbrev numbered : ℕ → NodeRegion → Bool
numbered i g = nat_eq g.number i

by_order : (a b : ℕ) {P : Type 0} → (a < b → P) → (b ≤ a → P) → P
by_order a b f g = by_bool (nat_lt a b) (λ t. f (grind arith)) (λ t. g (grind arith))

-- a region of this number is found
found_place : (i : ℕ) (regions : List NodeRegion) (k : ℕ) → k < length regions → (at regions k).number ≡ i → (j : ℕ) × (position (numbered i) regions ≡ Some j)
found_place i regions k low is = by_bool (nat_lt (position_or_len (numbered i) regions) (length regions))
    (λ t. (position_or_len (numbered i) regions, ap (λ b. cond b (Some (position_or_len (numbered i) regions)) None) t))
    (λ t. absurd (let miss : numbered i (at regions k) ≡ false = fails_before_first (numbered i) regions k no_region (let past : length regions ≤ position_or_len (numbered i) regions = grind arith in omega (arith, low, past)) in
    let hit : numbered i (at regions k) ≡ true = grind (arith, is) in
    let both : false ≡ true = sym miss ∙ hit in cc))

-- and its bytes are those of the first
first_bytes : (i : ℕ) (regions : List NodeRegion) (j : ℕ) → j < length regions → numbered i (at regions j) ≡ true → ((k : ℕ) → k < j → numbered i (at regions k) ≡ false) → bytes_numbered regions i ≡ (at regions j).bytes
first_bytes i [] j low hit miss = absurd (omega (arith, low))
first_bytes i (g ∷ regions) zero low hit miss = ap (λ b. if b then g.bytes else bytes_numbered regions i) hit
first_bytes i (g ∷ regions) (suc j) low hit miss =
    ap (λ b. if b then g.bytes else bytes_numbered regions i) (miss zero (omega arith))
    ∙ first_bytes i regions j (omega (arith, low)) hit (λ k h. miss (suc k) (omega (arith, h)))

from_map : {A B : Type 0} (f : A → B) (xs : List A) (k : ℕ) (y : B) → slice_get (map f xs) k ≡ Some y → (x : A) × (slice_get xs k ≡ Some x) × (f x ≡ y)
from_map f [] k y e = absurd (cc)
from_map f (x ∷ xs) zero y e = (x, refl, cc)
from_map f (x ∷ xs) (suc k) y e = from_map f xs k y e

held_by : (s : Scenario) (h : IsRunnable s) (m : Member) (i : ℕ) (r : PlanRegion) (nodes : List Member) → slice_get (s.plan).regions i ≡ Some r → slice_get nodes r.node ≡ Some m
    → IsNodeOf (setting_of s h) r.node (node_of m) → IsHeld nodes i r
held_by s h m i r nodes e stands is =
    let gs = (node_of m).regions in
    let table = map (λ (r : PlanRegion). r.span) (s.plan).regions in
    let low : i < length table = subst (λ n. i < n) (sym (count (s.plan).regions)) (slice_get_within (s.plan).regions i r e) in
    let w = is.share.whole i low (index_map (λ (r : PlanRegion). r.node) (s.plan).regions i r 0 e) in
    let p = found_place i gs w.0 w.1 w.2 in
    let f = position-Some (numbered i) gs p.0 no_region p.1 in
    let number : (at gs p.0).number ≡ i = eqb-true (at gs p.0).number i f.1 in
    let span : (at gs p.0).span ≡ r.span = is.share.spans p.0 f.0 ∙ ap (λ n. slice_index_or table n nowhere) number ∙ index_map (λ (r : PlanRegion). r.span) (s.plan).regions i r nowhere e in
    record {
      member = m;
      stands = stands;
      place = p.0;
      region = at gs p.0;
      at = p.1;
      there = slice_get-get_or gs p.0 no_region f.0;
      long = is.share.filled p.0 f.0 ∙ ap (λ (z : RegionSpan). z.len) span ∙ sym (all_at (λ (r : PlanRegion). length r.bytes ≡ (r.span).len) (s.plan).regions i r h.regions.filled e);
    }
  where
    count : (regions : List PlanRegion) → length (map (λ (r : PlanRegion). r.span) regions) ≡ length regions
    count [] = refl
    count (r ∷ regions) = ap suc (count regions)

pub are_held : (s : Scenario) (h : IsRunnable s) (start : Flat) (x : Scene) → IsRun (setting_of s h) start (world_of x) → AreHeld x (s.plan).regions
are_held s h start x run = λ i r e. (
    let own : owner_of (setting_of s h) i ≡ r.node = index_map (λ (r : PlanRegion). r.node) (s.plan).regions i r 0 e in
    let low = subst (λ n. n < length (world_of x).nodes) own (run.of.owners i) in
    let n = get_low (world_of x).nodes r.node low in
    let m = from_map node_of x.nodes r.node n.0 n.1 in
    held_by s h m.0 i r x.nodes e m.1 (subst (λ z. IsNodeOf (setting_of s h) r.node z) (sym m.2) (run.of.nodes r.node n.0 n.1)))

-- so many bytes from its begin can be read
pub may_be_read : (nodes : List Member) (i : ℕ) (r : PlanRegion) (x : IsHeld nodes i r) (count : ℕ) → count ≡ length r.bytes → HoldsRange x.member.part i 0 count
may_be_read nodes i r x count e = (x.place, x.region, x.at, x.there, (let l = x.long in omega (arith, l, e)))

to_map : {A B : Type 0} (f : A → B) (xs : List A) (k : ℕ) (x : A) → slice_get xs k ≡ Some x → slice_get (map f xs) k ≡ Some (f x)
to_map f [] k x e = absurd (cc)
to_map f (y ∷ xs) zero x e = let same : y ≡ x = cc in ap (λ z. Some (f z)) same
to_map f (y ∷ xs) (suc k) x e = to_map f xs k x e

-- and all of them are its bytes
pub bytes_are : (nodes : List Member) (i : ℕ) (r : PlanRegion) (x : IsHeld nodes i r) (bytes : List ℕ) → length bytes ≡ length r.bytes → IsRange x.member.part i 0 bytes
    → bytes ≡ bytes_in (slice_get (map node_of nodes) r.node) i
bytes_are nodes i r x bytes long range =
    let gs = (node_of x.member).regions in
    let f = position-Some (numbered i) gs x.place no_region x.at in
    let all : length x.region.bytes ≤ length bytes = (let l = x.long in omega (arith, l, long)) in
    range x.place x.region x.at x.there ∙ take_all (length bytes) x.region.bytes all
    ∙ ap (λ (g : NodeRegion). g.bytes) (sym (get_or_from_slice_get gs x.place x.region no_region x.there))
    ∙ sym (first_bytes i gs x.place f.0 f.1 f.2)
    ∙ ap (λ o. bytes_in o i) (sym (to_map node_of nodes r.node x.member x.stands))

abbrev pub told : Bool → List ℕ → OutRegion
told shown bytes = record { shown = shown; bytes = bytes }

-- a list that was written over as a whole
pub copied : (n : ℕ) (out items : List ℕ) → length out ≡ length items → n ≡ length items → take n (out ++ drop (length out) items) ≡ out
copied n out items same whole =
    ap (λ k. take n (out ++ k)) (drop_all (length out) items (omega (arith, same))) ∙ ap (take n) (append-nil out) ∙ take_all n out (omega (arith, same, whole))
