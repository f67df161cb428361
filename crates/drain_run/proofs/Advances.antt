-- A leg that is sent again begins the rounds, and each round gives the answer or lowers the measure.
use Rattle.std.proofs.Common.{◌≡◌, ℕ, zero, suc, ◌-◌, ◌<◌, ◌⊎◌, inl, inr, true, false, List, [], ◌∷◌, ◌++◌, length, map, Option, Some, None, refl, sym, ap, ◌∙◌, subst, arith}
use Rattle.std.specs.Prelude.{slice_get, option_map}
use Rattle.std.specs.FinMap as m
use Rattle.pulse_base.specs.declared.event.Event.TheVariants.{Deliver}
use Rattle.pulse_base.specs.declared.answer.Answer.{Answer}
use Rattle.pulse_base.specs.declared.answer.Answer.TheVariants as answer
use Rattle.leg_ledger.specs.declared.leg.Reply.{Reply}
use Rattle.run_rules.specs.declared.client.Asking.{Asking}
use Rattle.run_rules.specs.declared.client.Asking.TheVariants.{NotAsked, Waiting, Answered}
use Rattle.run_rules.specs.Node.{NodeState, find_live}
use Rattle.run_laws.specs.Plan as p
use Rattle.run_laws.specs.Flat as f
use Rattle.run_laws.specs.Node as n
use Rattle.run_laws.specs.Client as c
use Rattle.run_laws.specs.World as w
use Rattle.run_laws.specs.Spines.Sound.{number_in}
use Rattle.run_laws.specs.Spines.Carries.{FrameShaped}
use Rattle.run_laws.specs.Spines.Drain as d
use Rattle.run_laws.proofs.Events.{each_get}
use Rattle.run_laws.proofs.Sentences.{says_all}
use Rattle.run_laws.proofs.DrainStep.{drain_advances}
use Rattle.run_views.specs.Frames.{leg_view}
use Rattle.run_views.specs.Setting.{Setting, plan_of, IsSetting}
use Rattle.run_views.specs.Nodes.{slot_by, key_for}
use Rattle.run_views.specs.Keeps.{shape_of}
use Rattle.event_run.specs.Letters.{To, ToSwitch, ToNode, ToClient, Content, OfLeg, OfBack, Letter, to_switch, sent_leg}
use Rattle.event_run.specs.World.{WorldState}
use Rattle.event_run.specs.Always.{to_view, content_view, letter_view, node_at, asking_at, world_view, LetterOf, HasNumbers, IsRun}
use Rattle.event_run.proofs.Lists.{low_get, get_map, map_append}
use Rattle.event_run.proofs.Happens.{delivery_happens, turn_happens}
use Rattle.event_run.proofs.Runs.{event_keeps_run}
use Rattle.drain_run.specs.Drain.{live_at, IsIdle, after_turns, last_letter, delivers_last, GoesTo, Round, does_wait, IsAnswered, current_leg, resends}
use Rattle.drain_run.specs.Draining.{AllIdle, rank_of, letter_measure, drain_measure, IsDraining}
use Rattle.drain_run.specs.Laws.{ResendBeginsDraining, DrainingHasLetter, RoundAdvances}
use Rattle.drain_run.proofs.Settling.{turned, first_turn}
use Rattle.drain_run.proofs.Rounds.{round_idle}
use Rattle.drain_run.proofs.Kept.{turns_keep_run, resend_keeps_run, round_keeps_run}

-- ---- the last of a list

end_at : {A : Type 0} (xs : List A) (y : A) → slice_get (xs ++ y ∷ []) (length xs) ≡ Some y
end_at [] y = refl
end_at (x ∷ xs) y = end_at xs y

many_end : {A : Type 0} (xs : List A) (y : A) → length (xs ++ y ∷ []) ≡ suc (length xs)
many_end [] y = refl
many_end (x ∷ xs) y = ap suc (many_end xs y)

last_end : {A : Type 0} (xs : List A) (y : A) → slice_get (xs ++ y ∷ []) (length (xs ++ y ∷ []) - 1) ≡ Some y
last_end {A} xs y =
    let e = many_end xs y in
    let same : length (xs ++ y ∷ []) - 1 ≡ length xs = omega (arith, e) in
    ap (slice_get (xs ++ y ∷ [])) same ∙ end_at xs y

many_map : (xs : List Letter) → length (map letter_view xs) ≡ length xs
many_map [] = refl
many_map (x ∷ xs) = ap suc (many_map xs)

mapped_is : (o : Option Letter) (z : w.Letter) → option_map letter_view o ≡ Some z → (m : Letter) × (o ≡ Some m) × (letter_view m ≡ z)
mapped_is None z e = let q : None ≡ Some z = e in absurd (cc)
mapped_is (Some m) z e = let q : Some (letter_view m) ≡ Some z = e in (m, refl, cc)

last_seen : (xs : List Letter) (ys : List w.Letter) (z : w.Letter) → map letter_view xs ≡ ys ++ z ∷ [] → (m : Letter) × (slice_get xs (length xs - 1) ≡ Some m) × (letter_view m ≡ z)
last_seen xs ys z e =
    let place : length xs - 1 ≡ length (ys ++ z ∷ []) - 1 = ap (λ k. k - 1) (sym (many_map xs) ∙ ap length e) in
    mapped_is (slice_get xs (length xs - 1)) z
    (sym (get_map xs (length xs - 1) (slice_get xs (length xs - 1)) refl) ∙ ap (λ zs. slice_get zs (length xs - 1)) e ∙ ap (slice_get (ys ++ z ∷ [])) place ∙ last_end ys z)

-- ---- an idle node, and a request, as the laws of runs see them

none_runs : (o : Option Reply) (a : p.Progress) → slot_by o None ≡ n.Running a → ⊥
none_runs None a e = let q : n.Fresh ≡ n.Running a = e in cc
none_runs (Some reply) a e = let q : n.Kept _ ≡ n.Running a = e in cc

idle_node : (u : Setting) (o : Option NodeState) → live_at o ≡ [] → d.IsIdle (node_at u o)
idle_node u None e r k a h = let q : n.Fresh ≡ n.Running a = h in cc
idle_node u (Some s) e r k a h = none_runs (m.get s.kept (key_for u r k)) a (ap (λ z. slot_by (m.get s.kept (key_for u r k)) (find_live z (key_for u r k))) (sym e) ∙ h)

idle_seen : (u : Setting) (v : WorldState) → AllIdle v → d.AllIdle (world_view u v)
idle_seen u v idle i = idle_node u (slice_get v.nodes i) (idle i)

asked_waits : (o : Option Asking) (l : p.Leg) (accepted ticks : ℕ) → asking_at o ≡ c.Asked l accepted ticks → does_wait o ≡ true
asked_waits None l accepted ticks e = let q : c.NotAsked ≡ c.Asked l accepted ticks = e in absurd (cc)
asked_waits (Some NotAsked) l accepted ticks e = let q : c.NotAsked ≡ c.Asked l accepted ticks = e in absurd (cc)
asked_waits (Some (Waiting leg i j)) l accepted ticks e = refl
asked_waits (Some (Answered (answer.Done pad count))) l accepted ticks e = let q : c.Answered _ ≡ c.Asked l accepted ticks = e in absurd (cc)
asked_waits (Some (Answered (answer.Fault kind cur count))) l accepted ticks e = let q : c.Answered _ ≡ c.Asked l accepted ticks = e in absurd (cc)
asked_waits (Some (Answered (answer.Spent count))) l accepted ticks e = let q : c.Answered _ ≡ c.Asked l accepted ticks = e in absurd (cc)
asked_waits (Some (Answered answer.Silent)) l accepted ticks e = let q : c.Answered _ ≡ c.Asked l accepted ticks = e in absurd (cc)
asked_waits (Some (Answered answer.Unasked)) l accepted ticks e = let q : c.NotAsked ≡ c.Asked l accepted ticks = e in absurd (cc)
asked_waits (Some (Answered answer.Waiting)) l accepted ticks e = let q : c.NotAsked ≡ c.Asked l accepted ticks = e in absurd (cc)

answered_is : (o : Option Asking) (x : f.Answer) → asking_at o ≡ c.Answered x → (a : Answer) × (o ≡ Some (Answered a))
answered_is None x e = let q : c.NotAsked ≡ c.Answered x = e in absurd (cc)
answered_is (Some NotAsked) x e = let q : c.NotAsked ≡ c.Answered x = e in absurd (cc)
answered_is (Some (Waiting leg i j)) x e = let q : c.Asked (leg_view leg) i j ≡ c.Answered x = e in absurd (cc)
answered_is (Some (Answered a)) x e = (a, refl)

-- ---- a leg that is sent again

begins : (u : Setting) (start : f.Flat) (v : WorldState) (r : ℕ) (o : Option Asking) → IsSetting u → HasNumbers u → IsRun u start v → AllIdle v → slice_get v.asking r ≡ o → does_wait o ≡ true → IsDraining u start (resends u v r) r
begins u start v r None set few run idle at e = let q : false ≡ true = e in absurd (cc)
begins u start v r (Some NotAsked) set few run idle at e = let q : false ≡ true = e in absurd (cc)
begins u start v r (Some (Answered a)) set few run idle at e = let q : false ≡ true = e in absurd (cc)
begins u start v r (Some (Waiting l accepted ticks)) set few run idle at e =
    let letter = to_switch (OfLeg l) in
    let sent : (resends u v r).letters ≡ v.letters ++ letter ∷ [] = ap (λ z. v.letters ++ sent_leg (current_leg z)) at in
    record {
      run = resend_keeps_run u start v r set few run;
      idle = idle;
      waiting = ap does_wait at;
      letter = letter;
      stands = ap (λ z. slice_get z (length z - 1)) sent ∙ last_end v.letters letter;
      number = l.leg;
      rank = 3;
      drains = record {
        earlier = map letter_view v.letters;
        stands = ap (map letter_view) sent ∙ map_append v.letters (letter ∷ []);
        stage = ((run.of.asking r (Waiting l accepted ticks) at).0, refl, refl);
        leg = leg_view l;
        accepted = accepted;
        ticks = ticks;
        asking = ap asking_at at;
        reached = omega arith;
        idle = idle_seen u v idle;
      };
    }

pub resend_begins_draining : ResendBeginsDraining
resend_begins_draining u start v r set few run idle e = begins u start v r (slice_get v.asking r) set few run idle refl e

pub draining_has_letter : DrainingHasLetter
draining_has_letter u start v r h = let low = low_get v.letters (length v.letters - 1) h.letter h.stands in omega (arith, low)

-- ---- the measure

stage_names : (u : Setting) (r j rank : ℕ) (to : To) (x : Content) → d.StageBy (plan_of u) r j rank (to_view to) (content_view x) → (number_in (content_view x) ≡ j) × (rank_of to x ≡ rank)
stage_names u r j rank ToSwitch (OfLeg l) h = (h.1, sym h.2)
stage_names u r j rank (ToNode i) (OfLeg l) h = (h.1, sym h.2)
stage_names u r j rank ToSwitch (OfBack b) h = (h.1, sym h.2)
stage_names u r j rank (ToClient i) (OfBack b) h = (h.1, sym h.2)
stage_names u r j rank (ToNode i) (OfBack b) h = absurd h
stage_names u r j rank (ToClient i) (OfLeg l) h = absurd h

measure_is : (u : Setting) (start : f.Flat) (v : WorldState) (r : ℕ) (h : IsDraining u start v r) → drain_measure u v ≡ d.measure (plan_of u) h.number h.rank
measure_is u start v r h =
    let s = stage_names u r h.number h.rank h.letter.to h.letter.content h.drains.stage in
    ap (letter_measure u) h.stands ∙ (λ i. d.measure (plan_of u) (s.0 i) (s.1 i))

-- ---- a round

abbrev LetterFacts : Setting → WorldState → Letter → Type 0
LetterFacts u v m = LetterOf u (length v.nodes) m.to m.content × (number_in (content_view m.content) < p.limit (plan_of u)) × FrameShaped (plan_of u) (shape_of u) (content_view m.content)

letter_facts : (u : Setting) (start : f.Flat) (v : WorldState) (k : ℕ) (m : Letter) → IsRun u start v → slice_get v.letters k ≡ Some m → LetterFacts u v m
letter_facts u start v k m run at =
    let seen : slice_get (map letter_view v.letters) k ≡ Some (letter_view m) = get_map v.letters k (Some m) at in (
      each_get (λ m. LetterOf u (length v.nodes) m.to m.content) v.letters k m at run.of.letters,
      (says_all (plan_of u) start (world_view u v) run.sound).numbers_low k (letter_view m) seen,
      each_get (λ m. FrameShaped (plan_of u) (shape_of u) m.frame) (map letter_view v.letters) k (letter_view m) seen run.shaped.letters,
    )

last_delivered : (u : Setting) (start : f.Flat) (v : WorldState) (m : Letter) → IsSetting u → HasNumbers u → IsRun u start v → last_letter v ≡ Some m
    → w.Delivered (plan_of u) (world_view u v) (world_view u (delivers_last u v).0) (to_view m.to) (content_view m.content)
last_delivered u start v m set few run at =
    let k = length v.letters - 1 in
    subst (w.DeliveredAt (plan_of u) (world_view u v) (world_view u (delivers_last u v).0)) (get_map v.letters k (Some m) at)
    (delivery_happens u v k (slice_get v.letters k) set few run.of refl (λ x e. letter_facts u start v k x run e))

-- turns until the node is idle
turns_seen : (u : Setting) (start : f.Flat) (i k : ℕ) (v : WorldState) → IsSetting u → HasNumbers u → IsRun u start v → IsIdle i (after_turns u i k v)
    → (j : ℕ) × d.Settles (plan_of u) i j (world_view u v) (world_view u (after_turns u i k v))
turns_seen u start i zero v set few run idle = (0, (refl, idle_node u (slice_get v.nodes i) idle))
turns_seen u start i (suc k) v set few run idle =
    let x = turned u i v in
    let e : after_turns u i (suc k) v ≡ after_turns u i k x = first_turn u i k v in
    let rest = turns_seen u start i k x set few (turns_keep_run u start i 1 v set few run) (subst (IsIdle i) e idle) in
    subst (λ z. (j : ℕ) × d.Settles (plan_of u) i j (world_view u v) (world_view u z)) (sym e) (by_turn (world_view u (after_turns u i k x)) x rest (turn_happens u v i (slice_get v.nodes i) set run.of refl))
  where
    by_turn : (end : w.World) (x : WorldState) → (j : ℕ) × d.Settles (plan_of u) i j (world_view u x) end → w.TurnedAt (plan_of u) (world_view u v) (world_view u x) i → (j : ℕ) × d.Settles (plan_of u) i j (world_view u v) end
    by_turn end x (j, s) (inl same) = (j, subst (λ z. d.Settles (plan_of u) i j z end) same s)
    by_turn end x (j, s) (inr made) = (suc j, (world_view u x, made, s))

still_seen : (u : Setting) (x v : WorldState) (to : To) → v ≡ x → AllIdle x → d.SettlesAt (plan_of u) (to_view to) (world_view u x) (world_view u v)
still_seen u x v ToSwitch e idle = ap (world_view u) e
still_seen u x v (ToClient c) e idle = ap (world_view u) e
still_seen u x v (ToNode i) e idle = (0, (ap (world_view u) e, idle_seen u x idle i))

round_seen : (u : Setting) (start : f.Flat) (v x : WorldState) (m : Letter) → IsSetting u → HasNumbers u → IsRun u start (delivers_last u v).0 → AllIdle x → last_letter v ≡ Some m → Round u v x
    → d.SettlesAt (plan_of u) (to_view m.to) (world_view u (delivers_last u v).0) (world_view u x)
round_seen u start v x m set few run idle at (inl (i, g, t, (k, e, f))) =
    let to : m.to ≡ ToNode i = subst (GoesTo i) at g in
    let s = turns_seen u start i k (delivers_last u v).0 set few run (subst (IsIdle i) e f) in
    subst (λ z. d.SettlesAt (plan_of u) (to_view z) (world_view u (delivers_last u v).0) (world_view u x)) (sym to)
    (subst (λ z. (j : ℕ) × d.Settles (plan_of u) i j (world_view u (delivers_last u v).0) (world_view u z)) (sym e) s)
round_seen u start v x m set few run idle at (inr (t, e)) = still_seen u (delivers_last u v).0 x m.to e (subst AllIdle e idle)

-- a request that goes on is draining again, with a lower measure
goes_on : (u : Setting) (start : f.Flat) (v x : WorldState) (r : ℕ) (h : IsDraining u start v r) → IsRun u start x → AllIdle x → d.GoesOn (plan_of u) (world_view u x) r (d.measure (plan_of u) h.number h.rank)
    → IsDraining u start x r × (drain_measure u x < drain_measure u v)
goes_on u start v x r h run idle g =
    let m = last_seen x.letters g.drains.earlier g.last g.drains.stands in
    let next : IsDraining u start x r = record {
      run = run;
      idle = idle;
      waiting = asked_waits (slice_get x.asking r) g.drains.leg g.drains.accepted g.drains.ticks g.drains.asking;
      letter = m.0;
      stands = m.1;
      number = g.number;
      rank = g.rank;
      drains = subst (d.Draining (plan_of u) (world_view u x) r g.number g.rank) (sym m.2) g.drains;
    } in
    (next, subst (λ z. drain_measure u x < z) (sym (measure_is u start v r h)) (subst (λ z. z < d.measure (plan_of u) h.number h.rank) (sym (measure_is u start x r next)) g.less))

pub round_advances : RoundAdvances
round_advances u start v x r set few h round =
    let P = plan_of u in
    let run = event_keeps_run u start v (Deliver (length v.letters - 1)) set few tt h.run in
    let idle = round_idle u v x h.idle round in
    by_step idle
    (drain_advances P start (world_view u v) (world_view u (delivers_last u v).0) (world_view u x) r h.number h.rank (letter_view h.letter) h.run.sound h.drains
    (last_delivered u start v h.letter set few h.run h.stands)
    (round_seen u start v x h.letter set few run idle h.stands round))
  where
    by_step : AllIdle x → ((a : f.Answer) × ((world_view u x).asking r ≡ c.Answered a)) ⊎ d.GoesOn (plan_of u) (world_view u x) r (d.measure (plan_of u) h.number h.rank)
        → (IsAnswered x r × AllIdle x) ⊎ (IsDraining u start x r × (drain_measure u x < drain_measure u v))
    by_step idle (inl (a, e)) = inl (answered_is (slice_get x.asking r) a e, idle)
    by_step idle (inr g) = inr (goes_on u start v x r h (round_keeps_run u start v x set few round h.run) idle g)
