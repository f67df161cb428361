-- The drain of every run has an outcome.
use Rattle.std.proofs.Common.{◌≡◌, ◌≢◌, ℕ, zero, suc, ◌+◌, ◌-◌, ◌<◌, ◌≤◌, ◌⊎◌, inl, inr, Bool, true, false, List, [], ◌∷◌, length, Option, Some, None, refl, sym, ap, ◌∙◌, subst, arith, if◌then◌else◌}
use Rattle.std.specs.Prelude.{slice_get, slice_set}
use Rattle.pulse_base.specs.declared.event.Event.TheVariants.{Deliver, Turn}
use Rattle.pulse_base.specs.declared.event.Trace.{Trace}
use Rattle.pulse_base.specs.declared.event.Trace.TheVariants as trace
use Rattle.frame_codec.specs.declared.frame.Back.{Back}
use Rattle.run_rules.specs.declared.node.LiveLeg.{LiveLeg}
use Rattle.run_rules.specs.declared.client.Asking.{Asking}
use Rattle.run_rules.specs.declared.client.Heard.{Heard}
use Rattle.run_rules.specs.declared.client.Heard.TheVariants as heard
use Rattle.run_rules.specs.declared.switch.Out.{Out}
use Rattle.run_rules.specs.declared.switch.Out.TheVariants as out
use Rattle.run_rules.specs.Node.{NodeState, key_of}
use Rattle.run_rules.specs.Turning.{turn}
use Rattle.run_rules.specs.Switch.{on}
use Rattle.run_rules.specs.Client.{hear}
use Rattle.run_rules.specs.Waiting.{rest}
use Rattle.run_rules.proofs.Waits.{turn_wait}
use Rattle.run_laws.specs.Flat as f
use Rattle.run_laws.proofs.Events.{same_number}
use Rattle.run_views.specs.Setting.{Setting, IsSetting}
use Rattle.run_views.specs.Nodes.{outcome_of}
use Rattle.run_views.specs.Clients.{terms_of}
use Rattle.run_views.specs.Switches.{switch_of}
use Rattle.event_run.specs.Letters.{To, ToSwitch, ToNode, ToClient, Content, OfLeg, OfBack, Letter}
use Rattle.event_run.specs.World.{WorldState, told_out, told_heard, to_frame, to_client, delivers, delivers_at, turns_first, turns_at}
use Rattle.event_run.specs.Always.{HasNumbers, IsRun}
use Rattle.event_run.proofs.Lists.{get_set, low_get}
use Rattle.event_run.proofs.Runs.{event_keeps_run}
use Rattle.drain_run.specs.Drain.{live_at, IsIdle, Settles, last_letter, delivers_last, GoesTo, Round, does_wait, waits, IsAnswered, resends, Rounds, DrainsWhere, NodesSettle, RequestsDrain}
use Rattle.drain_run.specs.Draining.{AllIdle, drain_measure, IsDraining}
use Rattle.drain_run.specs.Laws.{DrainEnds}
use Rattle.drain_run.proofs.Settling.{turned, first_turn}
use Rattle.drain_run.proofs.Kept.{settling_keeps_run, request_drain_keeps_run}
use Rattle.drain_run.proofs.Advances.{resend_begins_draining, round_advances}
use Rattle.drain_run.proofs.Drained.{settled_nodes_idle, request_drain_keeps_idle}

-- ---- a node settles

abbrev rest_at : Option NodeState → ℕ
rest_at None = 0
rest_at (Some s) = rest s

-- a turn of a node that is not idle lowers the sum of its waits
turn_lowers : (u : Setting) (start : f.Flat) (n : ℕ) (w : WorldState) (s : NodeState) (live : List LiveLeg) → IsRun u start w → slice_get w.nodes n ≡ Some s → s.live ≡ live → live ≢ []
    → rest_at (slice_get (turns_first u w n s live).0.nodes n) + 1 ≤ rest s
turn_lowers u start n w s [] run at e some = absurd (some refl)
turn_lowers u start n w s (x ∷ es) run at e some =
    let y = (turn s (key_of x.leg) (outcome_of u s x.leg)).0 in
    let here : slice_get (slice_set w.nodes n y) n ≡ Some y = get_set w.nodes n y n (low_get w.nodes n s at) ∙ ap (λ b. if b then Some y else slice_get w.nodes n) (same_number n) in
    subst (λ o. rest_at o + 1 ≤ rest s) (sym here) (turn_wait s x es (outcome_of u s x.leg) (run.of.nodes n s at).orderly e).1

turned_rest : (u : Setting) (start : f.Flat) (n : ℕ) (w : WorldState) (o : Option NodeState) → IsRun u start w → slice_get w.nodes n ≡ o → live_at o ≢ [] → rest_at (slice_get (turns_at u w n o).0.nodes n) + 1 ≤ rest_at o
turned_rest u start n w None run at some = absurd (some refl)
turned_rest u start n w (Some s) run at some = turn_lowers u start n w s s.live run at refl some

is_empty : (es : List LiveLeg) → (es ≡ []) ⊎ (es ≢ [])
is_empty [] = inl refl
is_empty (e ∷ es) = inr (λ h. cc)

settles_next : (u : Setting) (n : ℕ) (w : WorldState) → (IsIdle n w) ⊎ (live_at (slice_get w.nodes n) ≢ []) → (live_at (slice_get w.nodes n) ≢ [] → (v : WorldState) × Settles u n (turned u n w) v) → (v : WorldState) × Settles u n w v
settles_next u n w (inl idle) again = (w, (0, refl, idle))
settles_next u n w (inr some) again = let a = again some in (a.0, (suc a.1.0, a.1.1 ∙ sym (first_turn u n a.1.0 w), a.1.2))

settles_from : (u : Setting) (start : f.Flat) (n fuel : ℕ) (w : WorldState) → IsSetting u → HasNumbers u → IsRun u start w → rest_at (slice_get w.nodes n) ≤ fuel → (v : WorldState) × Settles u n w v
settles_from u start n zero w set few run h = settles_next u n w (is_empty (live_at (slice_get w.nodes n)))
    (λ some. let less = turned_rest u start n w (slice_get w.nodes n) run refl some in absurd (omega (arith, h, less)))
settles_from u start n (suc fuel) w set few run h = settles_next u n w (is_empty (live_at (slice_get w.nodes n)))
    (λ some. let less = turned_rest u start n w (slice_get w.nodes n) run refl some in
    settles_from u start n fuel (turned u n w) set few (event_keeps_run u start w (Turn n) set few tt run) (omega (arith, h, less)))

settles_some : (u : Setting) (start : f.Flat) (n : ℕ) (w : WorldState) → IsSetting u → HasNumbers u → IsRun u start w → (v : WorldState) × Settles u n w v
settles_some u start n w set few run = settles_from u start n (rest_at (slice_get w.nodes n)) w set few run (omega arith)

-- ---- a round

is_started : (t : Trace) → (t ≡ trace.Started) ⊎ (t ≢ trace.Started)
is_started trace.Started = inl refl
is_started (trace.Sent k) = inr (λ h. cc)
is_started trace.Answered = inr (λ h. cc)
is_started trace.Again = inr (λ h. cc)
is_started trace.Silent = inr (λ h. cc)
is_started trace.Nothing = inr (λ h. cc)
is_started trace.Missed = inr (λ h. cc)
is_started trace.Running = inr (λ h. cc)
is_started trace.Full = inr (λ h. cc)
is_started trace.Foreign = inr (λ h. cc)
is_started trace.Stale = inr (λ h. cc)
is_started trace.Idle = inr (λ h. cc)
is_started (trace.Iterated r sent) = inr (λ h. cc)
is_started (trace.Part r) = inr (λ h. cc)
is_started (trace.Waits r) = inr (λ h. cc)

-- only a letter to a node starts a leg
out_not : (w : WorldState) (o : Out) → told_out w o ≢ trace.Started
out_not w (out.ToNode n l) h = let q : trace.Sent _ ≡ trace.Started = h in cc
out_not w (out.ToClient c b) h = let q : trace.Sent _ ≡ trace.Started = h in cc
out_not w out.Nothing h = let q : trace.Nothing ≡ trace.Started = h in cc

heard_not : (w : WorldState) (x : Heard) → told_heard w x ≢ trace.Started
heard_not w heard.Answered h = let q : trace.Answered ≡ trace.Started = h in cc
heard_not w (heard.Sent l) h = let q : trace.Sent _ ≡ trace.Started = h in cc
heard_not w heard.Stale h = let q : trace.Stale ≡ trace.Started = h in cc

client_not : (u : Setting) (w : WorldState) (c : ℕ) (b : Back) (o : Option Asking) → (to_client u w c b o).1 ≢ trace.Started
client_not u w c b None h = let q : trace.Stale ≡ trace.Started = h in cc
client_not u w c b (Some a) h = heard_not w (hear (record (terms_of u b.request) { client = c }) b a).1 h

to_some_node : (u : Setting) (w : WorldState) (to : To) (x : Content) → (delivers u w to x).1 ≡ trace.Started → (n : ℕ) × (to ≡ ToNode n)
to_some_node u w ToSwitch x h = absurd (out_not w (on (switch_of u) (to_frame x)) h)
to_some_node u w (ToNode n) x h = (n, refl)
to_some_node u w (ToClient c) (OfLeg l) h = absurd (let q : trace.Nothing ≡ trace.Started = h in cc)
to_some_node u w (ToClient c) (OfBack b) h = absurd (client_not u w c b (slice_get w.asking b.request) h)

started_goes : (u : Setting) (w : WorldState) (o : Option Letter) → (delivers_at u w o).1 ≡ trace.Started → (n : ℕ) × GoesTo n o
started_goes u w None h = absurd (let q : trace.Missed ≡ trace.Started = h in cc)
started_goes u w (Some m) h = to_some_node u w m.to m.content h

round_some : (u : Setting) (start : f.Flat) (w : WorldState) → IsSetting u → HasNumbers u → IsRun u start w → (v : WorldState) × Round u w v
round_some u start w set few run = by_trace (is_started (delivers_last u w).1)
  where
    by_trace : ((delivers_last u w).1 ≡ trace.Started) ⊎ ((delivers_last u w).1 ≢ trace.Started) → (v : WorldState) × Round u w v
    by_trace (inr t) = ((delivers_last u w).0, inr (t, refl))
    by_trace (inl t) =
        let g = started_goes u w (last_letter w) t in
        let s = settles_some u start g.0 (delivers_last u w).0 set few (event_keeps_run u start w (Deliver (length w.letters - 1)) set few tt run) in
        (s.0, inl (g.0, g.1, t, s.1))

-- ---- a request

round_before : (u : Setting) (r k : ℕ) (w x v : WorldState) → waits w r ≡ true → Round u w x → Rounds u r k x v → Rounds u r (suc k) w v
round_before u r zero w x v t h e = (w, refl, t, subst (Round u w) (sym e) h)
round_before u r (suc k) w x v t h (y, rounds, s, last) = (y, round_before u r k w x y t h rounds, s, last)

abbrev IsThrough : Setting → ℕ → WorldState → Type 0
IsThrough u r w = (v : WorldState) × ((k : ℕ) × Rounds u r k w v × (waits v r ≡ false))

rounds_next : (u : Setting) (start : f.Flat) (r : ℕ) (w x : WorldState) → waits w r ≡ true → Round u w x → (IsAnswered x r × AllIdle x) ⊎ (IsDraining u start x r × (drain_measure u x < drain_measure u w))
    → (IsDraining u start x r → drain_measure u x < drain_measure u w → IsThrough u r x) → IsThrough u r w
rounds_next u start r w x t round (inl (a, idle)) again = (x, (1, (w, refl, t, round), ap does_wait a.1))
rounds_next u start r w x t round (inr (next, lower)) again = let a = again next lower in (a.0, (suc a.1.0, round_before u r a.1.0 w x a.0 t round a.1.1, a.1.2))

rounds_from : (u : Setting) (start : f.Flat) (r fuel : ℕ) (w : WorldState) → IsSetting u → HasNumbers u → IsDraining u start w r → drain_measure u w ≤ fuel → IsThrough u r w
rounds_from u start r zero w set few h less =
    let x = round_some u start w set few h.run in
    rounds_next u start r w x.0 h.waiting x.1 (round_advances u start w x.0 r set few h x.1) (λ next lower. absurd (omega (arith, less, lower)))
rounds_from u start r (suc fuel) w set few h less =
    let x = round_some u start w set few h.run in
    rounds_next u start r w x.0 h.waiting x.1 (round_advances u start w x.0 r set few h x.1) (λ next lower. rounds_from u start r fuel x.0 set few next (omega (arith, less, lower)))

request_some : (u : Setting) (start : f.Flat) (r : ℕ) (w : WorldState) (b : Bool) → waits w r ≡ b → IsSetting u → HasNumbers u → IsRun u start w → AllIdle w → (v : WorldState) × DrainsWhere u r w v b
request_some u start r w false e set few run idle = (w, refl)
request_some u start r w true e set few run idle = let x = resends u w r in rounds_from u start r (drain_measure u x) x set few (resend_begins_draining u start w r set few run idle e) (omega arith)

-- ---- all

nodes_some : (u : Setting) (start : f.Flat) (n : ℕ) (w : WorldState) → IsSetting u → HasNumbers u → IsRun u start w → (v : WorldState) × NodesSettle u n w v × IsRun u start v
nodes_some u start zero w set few run = (w, refl, run)
nodes_some u start (suc n) w set few run =
    let a = nodes_some u start n w set few run in
    let s = settles_some u start n a.0 set few a.2 in
    (s.0, (a.0, a.1, s.1), settling_keeps_run u start n a.0 s.0 set few s.1 a.2)

requests_some : (u : Setting) (start : f.Flat) (r : ℕ) (w : WorldState) → IsSetting u → HasNumbers u → IsRun u start w → AllIdle w → (v : WorldState) × RequestsDrain u r w v × IsRun u start v × AllIdle v
requests_some u start zero w set few run idle = (w, refl, run, idle)
requests_some u start (suc r) w set few run idle =
    let a = requests_some u start r w set few run idle in
    let s = request_some u start r a.0 (waits a.0 r) refl set few a.2 a.3 in
    (s.0, (a.0, a.1, s.1), request_drain_keeps_run u start r a.0 s.0 set few s.1 a.2, request_drain_keeps_idle u r a.0 s.0 s.1 a.3)

pub drain_ends : DrainEnds
drain_ends u start w set few run =
    let a = nodes_some u start (length w.nodes) w set few run in
    let b = requests_some u start (length w.asking) a.0 set few a.2 (settled_nodes_idle u w a.0 a.1) in
    (b.0, (a.0, a.1, b.1))
