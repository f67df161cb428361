-- One event more: the run, what is told of it, and that it stays a run.
use Rattle.std.proofs.Common.{◌≡◌, ℕ, suc, ◌<◌, Bool, true, false, List, [], ◌∷◌, ◌++◌, length, map, refl, sym, ap, ◌∙◌, subst, arith, length-append, ◌+◌, ◌≤◌, if◌then◌else◌}
use Rattle.std.specs.Prelude.{IsTrue}
use Rattle.std.proofs.lemmas.List.{length-map}
use Rattle.pulse_base.specs.declared.event.Event.{Event}
use Rattle.pulse_base.specs.declared.event.Event.TheVariants.{Ask, Tick, Deliver, Turn}
use Rattle.pulse_base.specs.declared.event.Trace.{Trace}
use Rattle.run_views.specs.Setting.{Setting}
use Rattle.event_run.specs.World.{WorldState, event, event_run}
use Rattle.event_run.specs.Always as a
use Rattle.scenario_text.specs.Accepted.{IsEventOf}
use Rattle.run_rules.specs.Waiting.{Each}
use Rattle.client_core.specs.Requests.{ClientState}
use Rattle.event_run.specs.Always.{IsRun}
use Rattle.event_run.proofs.Runs.{event_keeps_run}
use Rattle.world_core.specs.Scene.{Member, Scene, Stays, askings, world_of}
use Rattle.world_core.specs.Runs.{IsNodeThere, IsThere, EventSo, EventPlain}
use Rattle.replay.specs.Report.{traces_of}
use Rattle.replay.specs.inner.Runs.{AllPlain, Lasts, RunsEvents}

pub run_more : (u : Setting) (w : WorldState) (es : List Event) (e : Event) → event_run u w (es ++ e ∷ []) ≡ (event u (event_run u w es) e).0
run_more u w [] e = refl
run_more u w (x ∷ es) e = run_more u (event u w x).0 es e

pub traces_more : (u : Setting) (w : WorldState) (es : List Event) (e : Event) → traces_of u w (es ++ e ∷ []) ≡ traces_of u w es ++ (event u (event_run u w es) e).1 ∷ []
traces_more u w [] e = refl
traces_more u w (x ∷ es) e = ap (λ k. (event u w x).1 ∷ k) (traces_more u (event u w x).0 es e)

-- where traces are told
pub told_more : (told : Bool) (u : Setting) (w : WorldState) (es : List Event) (e : Event) (traces more : List Trace)
    → traces ≡ (if told then traces_of u w es else []) → more ≡ (if told then traces ++ (event u (event_run u w es) e).1 ∷ [] else traces)
    → more ≡ (if told then traces_of u w (es ++ e ∷ []) else [])
told_more true u w es e traces more t m = m ∙ ap (λ k. k ++ (event u (event_run u w es) e).1 ∷ []) t ∙ sym (traces_more u w es e)
told_more false u w es e traces more t m = m ∙ t

-- an event of so many requests and nodes is one of a world with as many requests
pub event_is : (w : WorldState) (requests nodes : ℕ) (e : Event) → length w.asking ≡ requests → IsEventOf requests nodes e → a.IsEventOf w e
event_is w requests nodes (Ask r) e h = subst (λ n. r < n) (sym e) h
event_is w requests nodes (Tick r) e h = subst (λ n. r < n) (sym e) h
event_is w requests nodes (Deliver k) e h = tt
event_is w requests nodes (Turn n) e h = tt

-- ---- in a world

askings_count : (clients : List ClientState) (r : ℕ) (homes : List ℕ) → length (askings r homes clients) ≡ length homes
askings_count clients r [] = refl
askings_count clients r (home ∷ homes) = ap suc (askings_count clients (suc r) homes)

pub asking_count : (s : Scene) → length (world_of s).asking ≡ length s.homes
asking_count s = askings_count s.clients 0 s.homes

pub same_count : (old new : Scene) → Lasts old new → length new.nodes ≡ length old.nodes
same_count old new l = sym (length-map new.nodes (λ (m : Member). m.plain)) ∙ ap length l.plain ∙ length-map old.nodes (λ (m : Member). m.plain)

plain_same : (olds news : List Member) → map (λ (m : Member). m.plain) news ≡ map (λ (m : Member). m.plain) olds → Each (λ (m : Member). IsTrue m.plain) olds → Each (λ (m : Member). IsTrue m.plain) news
plain_same olds [] e h = tt
plain_same [] (m ∷ news) e h = absurd (cc)
plain_same (o ∷ olds) (m ∷ news) e h =
    let one : m.plain ≡ o.plain = cc in
    let rest : map (λ (m : Member). m.plain) news ≡ map (λ (m : Member). m.plain) olds = cc in
    (subst IsTrue (sym one) h.0, plain_same olds news rest h.1)

pub still_plain : (old new : Scene) → Lasts old new → AllPlain old → AllPlain new
still_plain old new l h = plain_same old.nodes new.nodes l.plain h

pub lasts_more : (old now next : Scene) → Lasts old now → Lasts now next → Lasts old next
lasts_more old now next a b = record { switch = b.switch ∙ a.switch; images = b.images ∙ a.images; homes = b.homes ∙ a.homes; plain = b.plain ∙ a.plain }

pub node_there : (s : Scene) (requests nodes : ℕ) (e : Event) → length s.nodes ≡ nodes → IsEventOf requests nodes e → IsNodeThere s e
node_there s requests nodes (Ask r) e h = tt
node_there s requests nodes (Tick r) e h = tt
node_there s requests nodes (Deliver k) e h = tt
node_there s requests nodes (Turn n) e h = subst (λ m. n < m) (sym e) h

pub is_there : (old now : Scene) (e : Event) → Lasts old now → IsEventOf (length old.homes) (length old.nodes) e → IsThere now e
is_there old now e l h = (
  event_is (world_of now) (length old.homes) (length old.nodes) e (asking_count now ∙ ap length l.homes) h,
  node_there now (length old.homes) (length old.nodes) e (same_count old now l) h,
)

pub no_events : (old : Scene) (told : Bool) → RunsEvents old old [] told []
no_events old true = λ u start hs hn so run. (refl, refl, so, run)
no_events old false = λ u start hs hn so run. (refl, refl, so, run)

pub one_event : (told : Bool) (old now next : Scene) (es : List Event) (e : Event) (t : Trace) (traces more : List Trace)
    → RunsEvents old now es told traces → AllPlain now → a.IsEventOf (world_of now) e → EventSo now next e t → EventPlain now next e t
    → more ≡ (if told then traces ++ t ∷ [] else traces) → RunsEvents old next (es ++ e ∷ []) told more
one_event told old now next es e t traces more h plain is so does m = λ u start hs hn of run. (
    let before = h u start hs hn of run in
    let step = does plain u start hs hn before.2 before.3 in
    let w : world_of next ≡ (event u (world_of now) e).0 = ap (λ (x : WorldState × Trace). x.0) step in
    let told_is : t ≡ (event u (event_run u (world_of old) es) e).1 = ap (λ (x : WorldState × Trace). x.1) step ∙ ap (λ x. (event u x e).1) before.0 in (
      w ∙ ap (λ x. (event u x e).0) before.0 ∙ sym (run_more u (world_of old) es e),
      told_more told u (world_of old) es e traces more before.1 (m ∙ ap (λ x. if told then traces ++ x ∷ [] else traces) told_is),
      (so u start hs hn before.2 before.3).1,
      subst (IsRun u start) (sym w) (event_keeps_run u start (world_of now) e hs hn is before.3),
    ))

pub lasts_by : (old new : Scene) → Stays old new → Lasts old new
lasts_by old new s = record { switch = s.switch; images = s.images; homes = s.homes; plain = s.plain }

pub few_more : (old new : Scene) → Stays old new → length new.letters ≤ length old.letters + 1
few_more old new s = let few = s.few in let all = ap length s.letters ∙ length-append old.letters s.sent in omega (arith, few, all)
