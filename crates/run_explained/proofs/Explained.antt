-- Runs of a scenario are explained.
use Rattle.std.proofs.Common.{◌≡◌, ◌≢◌, ℕ, ◌<◌, ◌⊎◌, inl, inr, List, [], ◌∷◌, length, Option, Some, None, refl, sym, ap, ◌∙◌, subst, arith}
use Rattle.std.proofs.lemmas.List.{length-map, length-replicate}
use Rattle.std.specs.Prelude.{slice_get, option_map, IsTrue}
use Rattle.pulse_base.specs.declared.answer.FaultKind.{FaultKind}
use Rattle.pulse_base.specs.declared.answer.FaultKind.TheVariants as fault
use Rattle.pulse_base.specs.declared.answer.Answer.{Answer}
use Rattle.pulse_base.specs.declared.answer.Answer.TheVariants as answer
use Rattle.pulse_base.specs.declared.event.Event.{Event}
use Rattle.scenario_text.specs.declared.plan.PlanRegion.{PlanRegion}
use Rattle.scenario_text.specs.declared.scenario.Scenario.{Scenario}
use Rattle.scenario_text.specs.Accepted.{IsRunnable}
use Rattle.flat_run.specs.declared.state.FlatRegion.{FlatRegion}
use Rattle.flat_run.specs.Due.{due}
use Rattle.run_rules.specs.declared.client.Asking.TheVariants.{NotAsked, Answered}
use Rattle.run_laws.specs.Plan as p
use Rattle.run_laws.specs.Flat as f
use Rattle.run_laws.specs.Laws.{AnswerFits}
use Rattle.run_laws.specs.Spines.Sound.{Each}
use Rattle.run_views.specs.Frames.{kind_view}
use Rattle.run_views.specs.Setting.{Setting, plan_of, owner_of, IsSetting}
use Rattle.run_views.specs.Nodes.{bytes_numbered}
use Rattle.run_views.specs.Clients.{asking_view, IsAnswer}
use Rattle.event_run.specs.World.{WorldState, event, event_run}
use Rattle.event_run.specs.Always.{node_at, asking_at, world_view, HasNumbers, IsRun}
use Rattle.event_run.specs.Laws.{flat_start, AreEventsOf}
use Rattle.event_run.proofs.Lists.{get_low, low_get}
use Rattle.event_run.proofs.Runs as runs
use Rattle.event_run.proofs.Start.{start_is_run}
use Rattle.scenario_flat.specs.Runs.{walks_of, limit_of, first_of, after}
use Rattle.scenario_run.specs.Setting.{setting_of}
use Rattle.scenario_run.specs.Start.{start_of}
use Rattle.run_explained.specs.View.{region_bytes, flat_view, answer_view}
use Rattle.run_explained.specs.Explained.{HoldsRegion}
use Rattle.run_explained.specs.Laws.{NamesRequests, RunIsExplained, EventRunIsExplained}
use Rattle.run_explained.proofs.Orders.{run_stays}
use Rattle.run_explained.proofs.Named.{order_is_of_requests}
use Rattle.run_explained.proofs.Requests.{event_keeps_requests}
use Rattle.run_explained.proofs.Scenarios.{first_is, owner_is, flat_start_is, flat_is, due_is}

-- ---- answers

-- what is seen of an answer, read back
abbrev kind_back : p.FaultKind → FaultKind
kind_back p.Unmapped = fault.Unmapped
kind_back p.NotReadable = fault.NotReadable
kind_back p.NotWritable = fault.NotWritable
kind_back p.DivZero = fault.DivZero

abbrev answer_back : f.Answer → Answer
answer_back (f.DoneWith pad n) = answer.Done pad n
answer_back (f.FaultAt kind cur n) = answer.Fault (kind_back kind) cur n
answer_back (f.Spent n) = answer.Spent n
answer_back f.Silent = answer.Silent

kind_same : (kind : FaultKind) → kind_back (kind_view kind) ≡ kind
kind_same fault.Unmapped = refl
kind_same fault.NotReadable = refl
kind_same fault.NotWritable = refl
kind_same fault.DivZero = refl

-- unless it is seen as Silent, it is the same
same_or_silent : (a : Answer) → (answer_view a ≡ f.Silent) ⊎ (answer_back (answer_view a) ≡ a)
same_or_silent (answer.Done pad n) = inr refl
same_or_silent (answer.Fault kind cur n) = inr (ap (λ k. answer.Fault k cur n) (kind_same kind))
same_or_silent (answer.Spent n) = inr refl
same_or_silent answer.Silent = inl refl
same_or_silent answer.Unasked = inl refl
same_or_silent answer.Waiting = inl refl

read_back : (d : Option Answer) (y : f.Answer) → y ≢ f.Silent → option_map answer_view d ≡ Some y → d ≡ Some (answer_back y)
read_back None y h e = absurd (cc)
read_back (Some a) y h e =
    let seen : answer_view a ≡ y = cc in
    elim (same_or_silent a) [ inl silent ↦ absurd (h (sym seen ∙ silent)) | inr same ↦ ap (λ z. Some z) (sym same ∙ ap answer_back seen) ]

answer_fits : (P : p.Plan) (r : ℕ) (v : f.Flat) (d : Option Answer) (a : Answer) → option_map answer_view d ≡ f.due P r (v.requests r) → IsAnswer a
    → AnswerFits P r v (asking_view (Answered a)) → (a ≡ answer.Silent) ⊎ (d ≡ Some a)
answer_fits P r v d (answer.Done pad n) e is fits = elim fits [ inl silent ↦ absurd (cc) | inr owed ↦ inr (read_back d (f.DoneWith pad n) (λ s. absurd (cc)) (e ∙ owed)) ]
answer_fits P r v d (answer.Fault kind cur n) e is fits = elim fits [
  | inl silent ↦ absurd (cc)
  | inr owed ↦ inr (read_back d (f.FaultAt (kind_view kind) cur n) (λ s. absurd (cc)) (e ∙ owed) ∙ ap (λ k. Some (answer.Fault k cur n)) (kind_same kind))
]
answer_fits P r v d (answer.Spent n) e is fits = elim fits [ inl silent ↦ absurd (cc) | inr owed ↦ inr (read_back d (f.Spent n) (λ s. absurd (cc)) (e ∙ owed)) ]
answer_fits P r v d answer.Silent e is fits = inl refl
answer_fits P r v d answer.Unasked e is fits = absurd is
answer_fits P r v d answer.Waiting e is fits = absurd is

-- ---- memory

region_after : (s : Scenario) → IsRunnable s → (order : List ℕ) (i : ℕ) (r : PlanRegion) → slice_get (s.plan).regions i ≡ Some r → (g : FlatRegion) × (slice_get (after s order).regions i ≡ Some g)
region_after s h order i r e =
    let regions = (after s order).regions in
    let st = run_stays (setting_of s h) (walks_of s) (first_of s) order (first_is s h) in
    let low = low_get (s.plan).regions i r e in
    let many = ap length st.table in
    let here = length-map regions (λ (z : FlatRegion). z.span) in
    let there = length-map (s.plan).regions (λ (z : PlanRegion). z.span) in
    get_low regions i (omega (arith, low, many, here, there))

held : (s : Scenario) (h : IsRunnable s) (w : WorldState) (i : ℕ) (r : PlanRegion) → slice_get (s.plan).regions i ≡ Some r
    → owner_of (setting_of s h) i < length w.nodes
    → ((world_view (setting_of s h) w).nodes (owner_of (setting_of s h) i)).bytes i ≡ region_bytes (slice_get (after s w.order).regions i)
    → HoldsRegion w r.node i (slice_get (after s w.order).regions i)
held s h w i r e low same =
    let u = setting_of s h in
    let g = region_after s h w.order i r e in
    let n = get_low w.nodes (owner_of u i) low in
    let bytes : bytes_numbered n.0.regions i ≡ g.0.bytes = sym (ap (λ o. (node_at u o).bytes i) n.1) ∙ same ∙ ap region_bytes g.1 in
    let at : slice_get w.nodes r.node ≡ Some n.0 = ap (slice_get w.nodes) (sym (owner_is s h i r e)) ∙ n.1 in
    subst (HoldsRegion w r.node i) (sym g.1) (ap (option_map (λ z. bytes_numbered z.regions i)) at ∙ ap (λ z. Some z) bytes)

-- ---- runs

pub run_is_explained : RunIsExplained
run_is_explained s h w many run =
    let u = setting_of s h in
    let P = plan_of u in
    let x = runs.run_is_explained u (flat_start u (start_of s)) w run in
    let names : NamesRequests s w.order = subst (λ n. Each (λ r. r < n) w.order) many (order_is_of_requests u (start_of s) w run) in
    let same = flat_is s h w.order names in
    let start = flat_start_is s h in
    let after_is : f.flat_run P (flat_start u (start_of s)) w.order ≡ flat_view u (after s w.order) = ap (λ z. f.flat_run P z w.order) start ∙ same.1 in
    record {
      legal = subst IsTrue (ap (λ z. f.is_legal P z w.order) start ∙ same.0) x.legal;
      memory = λ i r e. held s h w i r e (run.of.owners i) (x.memory i ∙ ap (λ (z : f.Flat). z.regions i) after_is);
      answers = λ r a e.
          (let low = low_get w.asking r (Answered a) e in
          answer_fits P r (flat_view u (after s w.order)) (due (walks_of s) (limit_of s.plan) (after s w.order) r) a
          (due_is s h w.order r (omega (arith, low, many)))
          (run.of.asking r (Answered a) e)
          (subst (λ z. AnswerFits P r z (asking_view (Answered a))) after_is (subst (λ o. AnswerFits P r (f.flat_run P (flat_start u (start_of s)) w.order) (asking_at o)) e (x.answers r))));
    }

runs_on : (u : Setting) (start : f.Flat) (w : WorldState) (es : List Event) → IsSetting u → HasNumbers u → AreEventsOf u w es → IsRun u start w
    → IsRun u start (event_run u w es) × (length (event_run u w es).asking ≡ length w.asking)
runs_on u start w [] set few of run = (run, refl)
runs_on u start w (e ∷ es) set few of run =
    let x = runs_on u start (event u w e).0 es set few of.1 (runs.event_keeps_run u start w e set few of.0 run) in
    (x.0, x.1 ∙ event_keeps_requests u w e)

pub event_run_is_explained : EventRunIsExplained
event_run_is_explained s h set few start of =
    let u = setting_of s h in
    let x = runs_on u (flat_start u (start_of s)) (start_of s) (s.plan).events set few of (start_is_run u (start_of s) set start) in
    run_is_explained s h (event_run u (start_of s) (s.plan).events) (x.1 ∙ length-replicate (length (s.plan).requests) NotAsked) x.0
