-- A run stays one where the turn order of a node's live legs changes, and so at each event of a world.
use Rattle.std.proofs.Common.{map, ◌≡◌, ◌≢◌, ℕ, ◌<◌, ◌≤◌, nat_eq, List, [], ◌∷◌, length, Option, Some, None, refl, sym, ap, ◌∙◌, subst, if◌then◌else◌, eqb-true}
use Rattle.std.specs.Prelude.{slice_get, slice_set}
use Rattle.std.specs.FinMap as m
use Rattle.std.specs.List.{AllByRecursion}
use Rattle.std.specs.List.Sorted.{IsPermutation}
use Rattle.std.proofs.lemmas.List.Elements.{All-from_recursion, recursion_from_All}
use Rattle.std.proofs.lemmas.List.Sorted.{All-permutation, IsPermutation-sym, length_permutation}
use Rattle.pulse_base.specs.declared.event.Event.TheVariants as event
use Rattle.pulse_base.specs.declared.event.Trace.{Trace}
use Rattle.pulse_base.specs.declared.event.Trace.TheVariants as trace
use Rattle.leg_ledger.specs.declared.leg.LegKey.{LegKey}
use Rattle.run_rules.specs.declared.node.LiveLeg.{LiveLeg}
use Rattle.run_rules.specs.Node.{NodeState, key_of, find_live}
use Rattle.run_rules.specs.Waiting.{Each, Apart, IsOpen}
use Rattle.run_rules.proofs.Finds.{by_bool, find_first, other_key, each_to, each_both}
use Rattle.run_laws.specs.Flat.{Flat}
use Rattle.run_laws.specs.Spines.Sound as law
use Rattle.run_laws.specs.Spines.Sound.{IsSound}
use Rattle.run_laws.specs.Spines.Carries.{Shaped, KeptWasSent}
use Rattle.run_views.specs.Setting.{Setting, IsSetting, owner_of, plan_of}
use Rattle.run_views.specs.Keeps.{shape_of}
use Rattle.run_views.specs.Nodes.{IsNodeOf, IsLiveOf, bytes_numbered, key_for, node_view, slot_by}
use Rattle.run_views.proofs.Slots.{each_find}
use Rattle.event_run.specs.World.{WorldState}
use Rattle.event_run.specs.Always.{HasNumbers, IsRun, IsWorldOf, IsEventOf, LetterOf, node_at, world_view}
use Rattle.event_run.specs.Always as always
use Rattle.event_run.proofs.Lists.{many_set}
use Rattle.event_run.proofs.Runs.{event_keeps_run, any_turn_keeps_run}
use Rattle.world_core.specs.Laws.{StepKeepsRun}
use Rattle.world_core.specs.Turns.{TurnsSo, PassesOver}
use Rattle.world_core.proofs.Asking.{got_set, got_other}
use Rattle.world_core.proofs.Iterating.{found_name}

-- ---- lists in another order

each_rec : {A : Type 0} (P : A → Type 0) (xs : List A) → Each P xs → AllByRecursion P xs
each_rec P [] h = tt
each_rec P (x ∷ xs) h = (h.0, each_rec P xs h.1)

rec_each : {A : Type 0} (P : A → Type 0) (xs : List A) → AllByRecursion P xs → Each P xs
rec_each P [] h = tt
rec_each P (x ∷ xs) h = (h.0, rec_each P xs h.1)

each_permuted : {A : Type 0} (P : A → Type 0) (xs ys : List A) → IsPermutation xs ys → Each P xs → Each P ys
each_permuted P xs ys s h = rec_each P ys (recursion_from_All P ys (All-permutation P xs ys s (All-from_recursion P xs (each_rec P xs h))))

-- where names differ each live leg is found by its own
self_found : (es : List LiveLeg) → Apart es → Each (λ f. find_live es (key_of f.leg) ≡ Some f) es
self_found [] a = tt
self_found (x ∷ es) a = (
  find_first x es,
  each_both (λ f. key_of x.leg ≢ key_of f.leg) (λ f. find_live es (key_of f.leg) ≡ Some f) (λ f. find_live (x ∷ es) (key_of f.leg) ≡ Some f) es
      (λ f ne h. ap (λ b. if b then Some x else find_live es (key_of f.leg)) (other_key (key_of f.leg) (key_of x.leg) (λ s. ne (sym s))) ∙ h) a.0 (self_found es a.1),
)

found_in : (xs ys : List LiveLeg) (q : LegKey) (x : LiveLeg) → Apart ys → IsPermutation ys xs → find_live xs q ≡ Some x → find_live ys q ≡ Some x
found_in xs ys q x a s f =
    let own = each_find (λ z. find_live ys (key_of z.leg) ≡ Some z) xs q x f (each_permuted (λ z. find_live ys (key_of z.leg) ≡ Some z) ys xs s (self_found ys a)) in
    ap (find_live ys) (found_name xs q x f) ∙ own

same_found : (xs ys : List LiveLeg) → Apart xs → Apart ys → IsPermutation xs ys → (q : LegKey) → find_live ys q ≡ find_live xs q
same_found xs ys a b s q = by (find_live xs q) (find_live ys q) refl refl
  where
    by : (o p : Option LiveLeg) → find_live xs q ≡ o → find_live ys q ≡ p → find_live ys q ≡ find_live xs q
    by (Some x) p f g = found_in xs ys q x b (IsPermutation-sym xs ys s) f ∙ sym f
    by None (Some y) f g = g ∙ sym (found_in ys xs q y a s g)
    by None None f g = g ∙ sym f

-- ---- a node

abbrev ordered : NodeState → List LiveLeg → NodeState
ordered s order = record s { live = order }

ordered_view : (u : Setting) (s : NodeState) (order : List LiveLeg) → Apart s.live → Apart order → IsPermutation s.live order → node_view u (ordered s order) ≡ node_view u s
ordered_view u s order a b p = λ j. record { slot = λ r k. slot_by (m.get s.kept (key_for u r k)) (same_found s.live order a b p (key_for u r k) j); bytes = λ i. bytes_numbered s.regions i }

ordered_of : (u : Setting) (n : ℕ) (s : NodeState) (order : List LiveLeg) → Apart order → IsPermutation s.live order → IsNodeOf u n s → IsNodeOf u n (ordered s order)
ordered_of u n s order a p h = record {
  orderly = record {
    few = subst (λ z. z ≤ s.slots) (sym (length_permutation s.live order p)) h.orderly.few;
    apart = a;
    live = each_permuted (IsOpen s) s.live order p h.orderly.live;
  };
  some = h.some;
  sizes = h.sizes;
  share = record { inside = h.share.inside; spans = h.share.spans; owned = h.share.owned; whole = h.share.whole; once = h.share.once; filled = h.share.filled };
  live = each_to (IsLiveOf u s) (IsLiveOf u (ordered s order)) order (λ y o. record { leg = o.leg; place = o.place; at = o.at; reads = o.reads }) (each_permuted (IsLiveOf u s) s.live order p h.live);
  kept = h.kept;
}

-- ---- a run

order_keeps : (u : Setting) (start : Flat) (w : WorldState) (n : ℕ) (s : NodeState) (order : List LiveLeg) → IsRun u start w → slice_get w.nodes n ≡ Some s → Apart order → IsPermutation s.live order
    → IsRun u start (record w { nodes = slice_set w.nodes n (ordered s order) })
order_keeps u start w n s order is stands a p =
    let v : WorldState = record w { nodes = slice_set w.nodes n (ordered s order) } in
    let here = is.of.nodes n s stands in
    let there = got_set w.nodes n s (ordered s order) stands in
    let many : length v.nodes ≡ length w.nodes = many_set w.nodes n (ordered s order) in
    let same : (i : ℕ) → node_at u (slice_get v.nodes i) ≡ node_at u (slice_get w.nodes i) = λ i. by_bool (nat_eq i n)
    (λ t. let k : i ≡ n = eqb-true i n t in
    ap (λ z. node_at u (slice_get v.nodes z)) k ∙ ap (node_at u) there ∙ ordered_view u s order here.orderly.apart a p ∙ sym (ap (node_at u) stands) ∙ sym (ap (λ z. node_at u (slice_get w.nodes z)) k))
    (λ f. ap (node_at u) (got_other w.nodes n i (ordered s order) f)) in
    let view : world_view u v ≡ world_view u w = λ j. record { nodes = λ i. same i j; asking = λ r. always.asking_at (slice_get w.asking r); letters = map always.letter_view w.letters; order = w.order } in
    record {
      of = record {
        owners = λ i. subst (λ k. owner_of u i < k) (sym many) (is.of.owners i);
        nodes = λ i t at. by_bool (nat_eq i n)
            (λ y. let k : i ≡ n = eqb-true i n y in
            let c : Some t ≡ Some (ordered s order) = sym at ∙ ap (slice_get v.nodes) k ∙ there in let d : t ≡ ordered s order = cc in
            subst (IsNodeOf u i) (sym d) (subst (λ z. IsNodeOf u z (ordered s order)) (sym k) (ordered_of u n s order a p here)))
            (λ f. is.of.nodes i t (sym (got_other w.nodes n i (ordered s order) f) ∙ at));
        asking = is.of.asking;
        letters = subst (λ k. law.Each (λ z. LetterOf u k z.to z.content) w.letters) (sym many) is.of.letters;
      };
      sound = subst (IsSound (plan_of u) start) (sym view) is.sound;
      shaped = subst (Shaped (plan_of u) (shape_of u)) (sym view) is.shaped;
      sent = subst KeptWasSent (sym view) is.sent;
    }

-- ---- each event

passes_keep : (u : Setting) (start : Flat) (w v : WorldState) (n : ℕ) (q : LegKey) → IsRun u start w → PassesOver w v n q → IsRun u start v
passes_keep u start w v n q is o = subst (IsRun u start) (sym o.left) (order_keeps u start w n o.node o.order is o.stands o.apart o.same)

turns_keep : (u : Setting) (start : Flat) (w v : WorldState) (n : ℕ) (t : Trace) → IsSetting u → HasNumbers u → IsRun u start w → TurnsSo u w v n t → IsRun u start v
turns_keep u start w v n (trace.Iterated r sent) set few is h =
    subst (IsRun u start) (sym (ap (λ (x : WorldState × Trace). x.0) h.step)) (any_turn_keeps_run u start w n h.node h.leg set few h.stands h.live is)
turns_keep u start w v n (trace.Part r) set few is h = passes_keep u start w v n h.0 is h.2
turns_keep u start w v n (trace.Waits r) set few is h = passes_keep u start w v n h.0 is h.2
turns_keep u start w v n trace.Idle set few is h = subst (IsRun u start) (sym h.same) is
turns_keep u start w v n (trace.Sent k) set few is h = absurd h
turns_keep u start w v n trace.Answered set few is h = absurd h
turns_keep u start w v n trace.Again set few is h = absurd h
turns_keep u start w v n trace.Silent set few is h = absurd h
turns_keep u start w v n trace.Nothing set few is h = absurd h
turns_keep u start w v n trace.Missed set few is h = absurd h
turns_keep u start w v n trace.Started set few is h = absurd h
turns_keep u start w v n trace.Running set few is h = absurd h
turns_keep u start w v n trace.Full set few is h = absurd h
turns_keep u start w v n trace.Foreign set few is h = absurd h
turns_keep u start w v n trace.Stale set few is h = absurd h

pub step_keeps_run : StepKeepsRun
step_keeps_run u start w v (event.Ask r) t set few there is h = subst (IsRun u start) (sym (ap (λ (x : WorldState × Trace). x.0) h)) (event_keeps_run u start w (event.Ask r) set few there is)
step_keeps_run u start w v (event.Tick r) t set few there is h = subst (IsRun u start) (sym (ap (λ (x : WorldState × Trace). x.0) h)) (event_keeps_run u start w (event.Tick r) set few there is)
step_keeps_run u start w v (event.Deliver k) t set few there is h = subst (IsRun u start) (sym (ap (λ (x : WorldState × Trace). x.0) h)) (event_keeps_run u start w (event.Deliver k) set few there is)
step_keeps_run u start w v (event.Turn n) t set few there is h = turns_keep u start w v n t set few is h
