-- The replay of the ask of a scenario's one request is its walk.
use Rattle.std.proofs.Common.{◌≡◌, ℕ, zero, suc, true, List, [], ◌∷◌, inl, inr, length, map, replicate, Option, Some, None, Result, Ok, Err, refl, sym, ap, subst, ◌∙◌, if◌then◌else◌}
use Rattle.std.proofs.lemmas.Bool.{and_parts}
use Rattle.std.specs.Prelude.{slice_get, option_map, IfOk}
use Rattle.pulse_base.specs.declared.listed.Memory.{Memory}
use Rattle.pulse_base.specs.declared.event.Event.TheVariants.{Ask}
use Rattle.iter_check.specs.Iteration.{begin}
use Rattle.scenario_text.specs.declared.plan.PlanRegion.{PlanRegion}
use Rattle.scenario_text.specs.declared.scenario.Scenario.{Scenario}
use Rattle.flat_run.specs.declared.state.FlatRegion.{FlatRegion}
use Rattle.flat_run.specs.declared.state.FlatState.{FlatState}
use Rattle.flat_run.specs.Walk.{Walk}
use Rattle.flat_run.specs.Step.{flat_step}
use Rattle.flat_run.specs.Run.{is_legal, Legal}
use Rattle.flat_run.specs.Due.{due}
use Rattle.run_rules.specs.declared.client.Asking.TheVariants.{NotAsked}
use Rattle.run_rules.specs.Node.{NodeState}
use Rattle.run_rules.specs.Client.{answer_of}
use Rattle.node_core.specs.Part.{PartState}
use Rattle.run_views.specs.Nodes.{bytes_numbered}
use Rattle.event_run.specs.World.{WorldState, event}
use Rattle.drain_run.proofs.Drained.{drain_drains}
use Rattle.scenario_flat.specs.Runs.{walks_of, limit_of, first_of, after}
use Rattle.scenario_run.specs.Setting.{setting_of}
use Rattle.scenario_run.specs.Start.{start_of}
use Rattle.run_explained.specs.Explained.{HoldsRegion}
use Rattle.report_text.specs.Report as text
use Rattle.replay.specs.declared.scenario.Replayed.{Replayed}
use Rattle.scenario_parts.specs.Yards.{GivesBack}
use Rattle.replay.specs.Report.{IsReplay, IsReplayed, bytes_in}
use Rattle.replay.specs.Report as replay
use Rattle.flat_walk.specs.Form.{asked, asks_for_one_walk}
use Rattle.flat_walk.specs.Report.{trace_of, traces, out_regions, outcome, IsWalkReport}
use Rattle.flat_walk.proofs.Asking.{is_ask, is_done}
use Rattle.flat_walk.proofs.OneWalk.{one_region, one_request, one_walk}

-- a legal order of one walk names request 0 alone
legal_zeros : (w : Walk) (limit : ℕ) (s : FlatState) (order : List ℕ) → is_legal (w ∷ []) limit s order ≡ true → order ≡ replicate (length order) 0
legal_zeros w limit s [] h = refl
legal_zeros w limit s (zero ∷ order) h = ap (λ o. 0 ∷ o) (legal_zeros w limit (flat_step (w ∷ []) limit s 0) order (and_parts _ _ h).1)
legal_zeros w limit s (suc r ∷ order) h = absurd (cc)

-- the one region is shown with the bytes of the flat memory
bytes_held : (o : Option NodeState) (i : ℕ) (bytes : List ℕ) → option_map (λ (n : NodeState). bytes_numbered n.regions i) o ≡ Some bytes → bytes_in o i ≡ bytes
bytes_held None i bytes h = absurd (cc)
bytes_held (Some n) i bytes h = cc

shown_is : (v : WorldState) (p : PlanRegion) (regions : List FlatRegion) → HoldsRegion v p.node 0 (slice_get regions 0)
    → replay.out_regions v 0 (p ∷ []) ≡ out_regions (p ∷ []) regions
shown_is v p [] h = absurd h
shown_is v p (g ∷ regions) h = ap (λ b. record { shown = p.shown; bytes = b } ∷ []) (bytes_held (slice_get v.nodes p.node) 0 g.bytes h)

-- a run that was left so is told as a walk
told_so : (s : Scenario) (left : Replayed) (parts : List PartState) → asks_for_one_walk s.plan ≡ true → IsReplayed (asked s) left parts → IsWalkReport s (text.report left.outcome)
told_so s left parts one h =
    let u = setting_of (asked s) h.runnable in
    let first = start_of (asked s) in
    let v = h.world in
    let p = one_region s.plan one in
    let q = one_request s.plan one in
    let w = one_walk (asked s) h.runnable q.0 q.1 in
    let new : first.asking ≡ NotAsked ∷ [] = ap (λ rs. replicate (length rs) NotAsked) q.1 in
    let ask = is_ask u first (begin w.0.iter w.0.args) new refl w.1.begins in
    let x = (event u first (Ask 0)).0 in
    let done = is_done x v ask.asking (drain_drains u x v h.ran.drains) ask.only ask.goes in
    let owed : due (walks_of s) (limit_of s.plan) (after s v.order) 0 ≡ Some done.answer =
    elim (h.explained.answers 0 done.answer (ap (λ xs. slice_get xs 0) done.only)) [ inl silent ↦ absurd (done.told silent) | inr owed ↦ owed ] in
    let zeros : v.order ≡ replicate (length v.order) 0 =
    legal_zeros w.0 (limit_of s.plan) (first_of s) v.order (subst (λ ws. Legal ws (limit_of s.plan) (first_of s) v.order) w.1.walks h.explained.legal) in
    let told : (if s.plan.trace then (event u first (Ask 0)).1 ∷ [] else []) ≡ traces s =
    ap (λ t. if s.plan.trace then t ∷ [] else []) ask.told
    ∙ sym (ap (λ ws. if s.plan.trace then map (λ (k : Walk). trace_of (begin k.iter k.args)) ws else []) w.1.walks) in
    let shown : replay.out_regions v 0 s.plan.regions ≡ out_regions s.plan.regions (after s (replicate (length v.order) 0)).regions =
    ap (replay.out_regions v 0) p.1
    ∙ shown_is v p.0 (after s v.order).regions (h.explained.memory 0 p.0 (ap (λ ps. slice_get ps 0) p.1))
    ∙ sym (ap (λ ps. out_regions ps (after s v.order).regions) p.1)
    ∙ ap (λ o. out_regions s.plan.regions (after s o).regions) zeros in
    let same : left.outcome ≡ outcome s (length v.order) done.answer =
    h.outcome ∙ (λ j. record { trace = told j; order = zeros j; answers = map answer_of (done.only j); regions = shown j }) in
    record {
      turns = length v.order;
      answer = done.answer;
      legal = subst (Legal (walks_of s) (limit_of s.plan) (first_of s)) zeros h.explained.legal;
      due = subst (λ o. due (walks_of s) (limit_of s.plan) (after s o) 0 ≡ Some done.answer) zeros owed;
      report = ap text.report same;
    }

-- and its text is the walk's report
pub reports : (s : Scenario) (left : Replayed) (old new : Option (List PartState)) (report : Result (List ℕ) Memory)
    → asks_for_one_walk s.plan ≡ true → ((parts : List PartState) × IsReplayed (asked s) left parts × GivesBack old new parts) → IfOk report (λ t. t ≡ text.report left.outcome)
    → IfOk report (λ t. (parts : List PartState) × IsWalkReport s t × IsReplay (asked s) t parts × GivesBack old new parts)
reports s left old new (Err e) one run same = tt
reports s left old new (Ok t) one run same = (
  run.0,
  subst (IsWalkReport s) (sym same) (told_so s left run.0 one run.1),
  record { left = left; replayed = run.1; report = same },
  run.2,
)
