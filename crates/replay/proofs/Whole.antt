-- The calls of a replay, put together.
use Rattle.std.proofs.Common.{◌≡◌, ℕ, ◌+◌, ◌≤◌, List, [], ◌∷◌, ◌++◌, length, map, Option, None, Some, append_assoc, append-nil, refl, sym, ap, ◌∙◌, subst, arith, if◌then◌else◌}
use Rattle.std.specs.Prelude.{All}
use Rattle.std.specs.Option.{option_map}
use Rattle.std.proofs.lemmas.List.{map-append, length-map}
use Rattle.pulse_base.specs.declared.event.Trace.{Trace}
use Rattle.code_image.specs.declared.image.Image.{Image}
use Rattle.run_rules.specs.Client.{answer_of}
use Rattle.run_rules.specs.Waiting.{Each}
use Rattle.node_core.specs.Part.{PartState}
use Rattle.pulse_codegen.specs.Compiled.{CompilesAll}
use Rattle.drain_run.specs.Drain.{Drains}
use Rattle.drain_run.proofs.Kept.{drain_keeps_run}
use Rattle.event_run.specs.World.{event_run}
use Rattle.event_run.specs.Always.{IsRun}
use Rattle.scenario_text.specs.declared.plan.PlanRegion.{PlanRegion}
use Rattle.scenario_text.specs.declared.scenario.Scenario.{Scenario}
use Rattle.scenario_text.specs.Accepted.{IsRunnable, IsEventOf}
use Rattle.scenario_run.specs.Setting.{setting_of}
use Rattle.scenario_run.specs.Start.{start_of}
use Rattle.scenario_run.proofs.Settings.{setting_is, has_numbers}
use Rattle.world_core.specs.Scene.{Member, Scene, node_of, world_of}
use Rattle.world_core.specs.Letters.{letter_view}
use Rattle.world_core.specs.Runs.{IsSceneOf}
use Rattle.world_core.specs.Drains.{CanRun, DrainSo}
use Rattle.world_core.specs.Drains as drained
use Rattle.world_core.specs.inner.Fits.{IsScene}
use Rattle.replay.specs.declared.scenario.Replayed.{Replayed}
use Rattle.replay.specs.Report.{IsReplayed, AreNodesOf, out_regions, traces_of}
use Rattle.scenario_parts.specs.Yards.{GivesBack}
use Rattle.replay.specs.inner.Held.{AreHeld}
use Rattle.replay.specs.inner.Made.{IsMade}
use Rattle.replay.specs.inner.Runs.{Lasts, RunsEvents}
use Rattle.replay.proofs.OneEvent.{asking_count}
use Rattle.replay.proofs.Holding.{are_held}
use Rattle.replay.proofs.Replays.{flat_of, first_run, is_replayed}

-- ---- nodes that are given back

pub gives_none : (o : Option (List PartState)) → GivesBack o o []
gives_none None = refl
gives_none (Some xs) = ap Some (sym (append-nil xs))

gives_one : (o : Option (List PartState)) (xs : List PartState) (p : PartState) → option_map (λ k. k ++ p ∷ []) (option_map (λ before. before ++ xs) o) ≡ option_map (λ before. before ++ (xs ++ p ∷ [])) o
gives_one None xs p = refl
gives_one (Some before) xs p = ap Some (append_assoc before xs (p ∷ []))

pub gives_more : {A : Type 0} (state : A → PartState) (old now next : Option (List PartState)) (xs : List A) (x : A) → GivesBack old now (map state xs)
    → next ≡ option_map (λ k. k ++ state x ∷ []) now → GivesBack old next (map state (xs ++ x ∷ []))
gives_more state old now next xs x a e = e ∙ ap (option_map (λ k. k ++ state x ∷ [])) a ∙ gives_one old (map state xs) (state x)
    ∙ ap (λ ys. option_map (λ before. before ++ ys) old) (sym (map-append state xs (x ∷ [])))

-- ---- before the events

pub events_there : (s : Scenario) (images : List Image) (w : Scene) → IsRunnable s → IsMade s images w → All (IsEventOf (length w.homes) (length w.nodes)) (s.plan).events
events_there s images w h m = subst (λ n. All (IsEventOf (length w.homes) n) (s.plan).events) (sym m.nodes) (subst (λ r. All (IsEventOf r (s.plan).nodes) (s.plan).events) (sym m.homes) h.events)

pub events_few : (s : Scenario) (images : List Image) (w : Scene) → IsRunnable s → IsMade s images w → length w.letters + length (s.plan).events ≤ 4000000000
events_few s images w h m = let none = ap length m.letters in let few = h.few_events in omega (arith, none, few)

-- ---- after the events

pub record Went (s : Scenario) (h : IsRunnable s) (v : Scene) (traces : List Trace) : Type 0 where
  pub runs : world_of v ≡ event_run (setting_of s h) (start_of s) (s.plan).events
  pub told : traces ≡ (if (s.plan).trace then traces_of (setting_of s h) (start_of s) (s.plan).events else [])
  pub belongs : IsSceneOf (setting_of s h) v
  pub run : IsRun (setting_of s h) (flat_of s h) (world_of v)

pub went : (s : Scenario) (h : IsRunnable s) (images : List Image) (w v : Scene) (traces : List Trace) → IsMade s images w → RunsEvents w v (s.plan).events (s.plan).trace traces → Went s h v traces
went s h images w v traces m r =
    let u = setting_of s h in
    let x = r u (flat_of s h) (setting_is s h) (has_numbers s h) (m.belongs h) (subst (IsRun u (flat_of s h)) (sym m.start) (first_run s h)) in
    record {
      runs = x.0 ∙ ap (λ k. event_run u k (s.plan).events) m.start;
      told = x.1 ∙ ap (λ k. if (s.plan).trace then traces_of u k (s.plan).events else []) m.start;
      belongs = x.2;
      run = x.3;
    }

-- the drain can begin there
pub can_run : (s : Scenario) (h : IsRunnable s) (images : List Image) (w v : Scene) (traces : List Trace) → IsMade s images w → RunsEvents w v (s.plan).events (s.plan).trace traces → CanRun v
can_run s h images w v traces m r =
    let x = went s h images w v traces m r in
    (setting_of s h, flat_of s h, (setting_is s h, has_numbers s h, x.belongs, x.run))

-- ---- after the drain

-- each step lasts
pub lasts_on : (w v x : Scene) → Lasts w v → drained.Lasts v x → Lasts w x
lasts_on w v x l k = record { switch = k.switch ∙ l.switch; images = k.images ∙ l.images; homes = k.homes ∙ l.homes; plain = k.plain ∙ l.plain }

pub record Ended (s : Scenario) (h : IsRunnable s) (x : Scene) (traces : List Trace) : Type 0 where
  pub drains : Drains (setting_of s h) (event_run (setting_of s h) (start_of s) (s.plan).events) (world_of x)
  pub told : traces ≡ (if (s.plan).trace then traces_of (setting_of s h) (start_of s) (s.plan).events else [])
  pub run : IsRun (setting_of s h) (flat_of s h) (world_of x)

pub ended : (s : Scenario) (h : IsRunnable s) (images : List Image) (w v x : Scene) (traces : List Trace) → IsMade s images w → RunsEvents w v (s.plan).events (s.plan).trace traces → DrainSo v x → Ended s h x traces
ended s h images w v x traces m r d =
    let u = setting_of s h in
    let y = went s h images w v traces m r in
    let z = (d u (flat_of s h) (setting_is s h) (has_numbers s h) y.belongs y.run).0 in
    record {
      drains = subst (λ k. Drains u k (world_of x)) y.runs z;
      told = y.told;
      run = drain_keeps_run u (flat_of s h) (world_of v) (world_of x) (setting_is s h) (has_numbers s h) z y.run;
    }

pub held_after : (s : Scenario) (h : IsRunnable s) (images : List Image) (w v x : Scene) (traces : List Trace) → IsMade s images w → RunsEvents w v (s.plan).events (s.plan).trace traces → DrainSo v x → AreHeld x (s.plan).regions
held_after s h images w v x traces m r d = are_held s h (flat_of s h) x (ended s h images w v x traces m r d).run

pub owners_after : (s : Scenario) (images : List Image) (w v : Scene) → IsMade s images w → Lasts w v → v.switch.owners ≡ map (λ (r : PlanRegion). r.node) (s.plan).regions
owners_after s images w v m l = ap (λ k. k.owners) (l.switch ∙ m.switch)

pub requests_after : (s : Scenario) (images : List Image) (w v : Scene) → IsMade s images w → Lasts w v → length v.homes ≡ length (s.plan).requests
requests_after s images w v m l = ap length l.homes ∙ m.homes

pub few_requests : (s : Scenario) (images : List Image) (w v : Scene) → IsRunnable s → IsMade s images w → Lasts w v → length v.homes ≤ 1000
few_requests s images w v h m l = let all = requests_after s images w v m l in let few = h.requests.few in omega (arith, all, few)

pub few_regions : (s : Scenario) → IsRunnable s → length (s.plan).regions ≤ 64
few_regions s h = let all = length-map (s.plan).regions (λ (r : PlanRegion). r.span) in let few = h.regions.table.few in omega (arith, all, few)

-- ---- and the nodes

nodes_twice : (members : List Member) → map (λ (p : PartState). p.node) (map (λ (m : Member). m.part) members) ≡ map node_of members
nodes_twice [] = refl
nodes_twice (m ∷ members) = ap (λ k. node_of m ∷ k) (nodes_twice members)

each_means : (s : Scenario) (images : List Image) (members : List Member) → CompilesAll s.checked images → Each (λ (m : Member). m.part.images ≡ images) members
    → Each (λ (p : PartState). CompilesAll s.checked p.images) (map (λ (m : Member). m.part) members)
each_means s images [] c h = tt
each_means s images (m ∷ members) c h = (subst (CompilesAll s.checked) (sym h.0) c, each_means s images members c h.1)

sent_letters : (x : Scene) → length (world_of x).letters ≡ length x.letters
sent_letters x = length-map x.letters letter_view

-- what is told of a run, and the nodes
pub whole : (s : Scenario) (h : IsRunnable s) (images : List Image) (w v x : Scene) (traces : List Trace) (left : Replayed) (parts : List PartState)
    → CompilesAll s.checked images → IsMade s images w → RunsEvents w v (s.plan).events (s.plan).trace traces → DrainSo v x → Lasts w x → IsScene x
    → left.outcome ≡ record { trace = traces; order = x.order; answers = map answer_of (world_of x).asking; regions = out_regions (world_of x) 0 (s.plan).regions }
    → left.letters ≡ length x.letters → parts ≡ map (λ (m : Member). m.part) x.nodes → IsReplayed s left parts
whole s h images w v x traces left parts compiled m r d l scene o n p =
    let y = ended s h images w v x traces m r d in
    let same : Each (λ (k : Member). k.part.images ≡ images) x.nodes = subst (λ i. Each (λ (k : Member). k.part.images ≡ i) x.nodes) (l.images ∙ m.copied) scene.nodes in
    is_replayed s h (world_of x) left parts y.drains y.run (asking_count x ∙ requests_after s images w x m l)
    (o ∙ ap (λ t. record { trace = t; order = x.order; answers = map answer_of (world_of x).asking; regions = out_regions (world_of x) 0 (s.plan).regions }) y.told)
    (n ∙ sym (sent_letters x))
    (subst (AreNodesOf s (world_of x)) (sym p) (record { nodes = nodes_twice x.nodes; images = each_means s images x.nodes compiled same }))
