-- A round has one outcome, leaves all nodes idle where they were, and leaves alone each request that does not wait.
use Rattle.std.proofs.Common.{◌≡◌, ◌≢◌, ℕ, ◌+◌, ◌-◌, ◌^◌, ◌⊎◌, inl, inr, Bool, true, false, List, [], Option, Some, None, refl, sym, ap, ◌∙◌, subst, nat_eq, if◌then◌else◌, eqb-true}
use Rattle.std.specs.Prelude.{slice_get, slice_set}
use Rattle.pulse_base.specs.declared.answer.Answer.TheVariants as answer
use Rattle.pulse_base.specs.declared.answer.FaultKind.{FaultKind}
use Rattle.pulse_base.specs.declared.event.Trace.TheVariants as trace
use Rattle.frame_codec.specs.declared.frame.Leg.{Leg}
use Rattle.frame_codec.specs.declared.frame.Back.{Back}
use Rattle.frame_codec.specs.declared.frame.Ending.{Ending}
use Rattle.frame_codec.specs.declared.frame.Ending.TheVariants as ending
use Rattle.run_rules.specs.declared.node.Accepted.{Accepted}
use Rattle.run_rules.specs.declared.node.Accepted.TheVariants as accepted
use Rattle.run_rules.specs.declared.client.Terms.{Terms}
use Rattle.run_rules.specs.declared.client.Asking.{Asking}
use Rattle.run_rules.specs.declared.client.Asking.TheVariants.{NotAsked, Waiting, Answered}
use Rattle.run_rules.specs.declared.client.Heard.{Heard}
use Rattle.run_rules.specs.Node.{NodeState}
use Rattle.run_rules.specs.Accepting.{answer_to, after_answer}
use Rattle.run_rules.specs.Client.{is_stale, hear_ending, hear}
use Rattle.run_rules.proofs.Finds.{by_bool}
use Rattle.run_views.specs.Setting.{Setting}
use Rattle.run_views.specs.Clients.{terms_of}
use Rattle.event_run.specs.Letters.{To, ToSwitch, ToNode, ToClient, Content, OfLeg, OfBack, Letter}
use Rattle.event_run.specs.World.{WorldState, told_accepted, to_node, to_client, delivers, delivers_at}
use Rattle.event_run.proofs.Lists.{get_set, low_get}
use Rattle.drain_run.specs.Drain.{live_at, IsIdle, Settles, last_letter, delivers_last, GoesTo, Round, does_wait, waits}
use Rattle.drain_run.specs.Draining.{AllIdle}
use Rattle.drain_run.specs.Laws.{OneRound}
use Rattle.drain_run.proofs.Settling.{settled_asking, settled_idle, one_settling}

-- ---- one outcome

same_node : (n m : ℕ) (o : Option Letter) → GoesTo n o → GoesTo m o → n ≡ m
same_node n m None g h = absurd g
same_node n m (Some x) g h = let c : ToNode n ≡ ToNode m = sym g ∙ h in cc

pub one_round : OneRound
one_round u w v x (inl (n, g, t, s)) (inl (m, h, q, z)) = one_settling u m (delivers_last u w).0 v x (subst (λ i. Settles u i (delivers_last u w).0 v) (same_node n m (last_letter w) g h) s) z
one_round u w v x (inl (n, g, t, s)) (inr (q, e)) = absurd (q t)
one_round u w v x (inr (t, d)) (inl (m, h, q, z)) = absurd (t q)
one_round u w v x (inr (t, d)) (inr (q, e)) = d ∙ sym e

-- ---- what holds of a request and is kept by each back that it hears

abbrev KeptByBacks : (Option Asking → Type 0) → Type 0
KeptByBacks Q = (t : Terms) (b : Back) (a : Asking) → Q (Some a) → Q (Some (hear t b a).0)

client_keeps : (Q : Option Asking → Type 0) (u : Setting) (w : WorldState) (c : ℕ) (b : Back) (o : Option Asking) (q : ℕ) → KeptByBacks Q → slice_get w.asking b.request ≡ o → Q (slice_get w.asking q) → Q (slice_get (to_client u w c b o).0.asking q)
client_keeps Q u w c b None q kept at h = h
client_keeps Q u w c b (Some a) q kept at h =
    let t = record (terms_of u b.request) { client = c } in
    let y = (hear t b a).0 in
    let put = get_set w.asking b.request y q (low_get w.asking b.request a at) in
    by_bool (nat_eq q b.request)
    (λ e. subst Q (sym (put ∙ ap (λ z. if z then Some y else slice_get w.asking q) e)) (kept t b a (subst Q (ap (slice_get w.asking) (eqb-true q b.request e) ∙ at) h)))
    (λ e. subst Q (sym (put ∙ ap (λ z. if z then Some y else slice_get w.asking q) e)) h)

node_asking : (w : WorldState) (n : ℕ) (l : Leg) (o : Option NodeState) → (to_node w n l o).0.asking ≡ w.asking
node_asking w n l None = refl
node_asking w n l (Some s) = refl

delivered_keeps : (Q : Option Asking → Type 0) (u : Setting) (w : WorldState) (to : To) (x : Content) (q : ℕ) → KeptByBacks Q → Q (slice_get w.asking q) → Q (slice_get (delivers u w to x).0.asking q)
delivered_keeps Q u w ToSwitch x q kept h = h
delivered_keeps Q u w (ToNode n) (OfLeg l) q kept h = subst (λ z. Q (slice_get z q)) (sym (node_asking w n l (slice_get w.nodes n))) h
delivered_keeps Q u w (ToNode n) (OfBack b) q kept h = h
delivered_keeps Q u w (ToClient c) (OfLeg l) q kept h = h
delivered_keeps Q u w (ToClient c) (OfBack b) q kept h = client_keeps Q u w c b (slice_get w.asking b.request) q kept refl h

letter_keeps : (Q : Option Asking → Type 0) (u : Setting) (w : WorldState) (o : Option Letter) (q : ℕ) → KeptByBacks Q → Q (slice_get w.asking q) → Q (slice_get (delivers_at u w o).0.asking q)
letter_keeps Q u w None q kept h = h
letter_keeps Q u w (Some m) q kept h = delivered_keeps Q u w m.to m.content q kept h

round_keeps : (Q : Option Asking → Type 0) (u : Setting) (w v : WorldState) (q : ℕ) → KeptByBacks Q → Round u w v → Q (slice_get w.asking q) → Q (slice_get v.asking q)
round_keeps Q u w v q kept (inl (n, g, t, s)) h = subst (λ z. Q (slice_get z q)) (sym (settled_asking u n (delivers_last u w).0 v s)) (letter_keeps Q u w (last_letter w) q kept h)
round_keeps Q u w v q kept (inr (t, d)) h = subst (λ (z : WorldState). Q (slice_get z.asking q)) (sym d) (letter_keeps Q u w (last_letter w) q kept h)

-- a request that does not wait stands
heard_same : (t : Terms) (b : Back) (a : Asking) → does_wait (Some a) ≡ false → (hear t b a).0 ≡ a
heard_same t b NotAsked e = refl
heard_same t b (Waiting l accepted ticks) e = let c : true ≡ false = e in absurd (cc)
heard_same t b (Answered a) e = refl

pub round_stands : (u : Setting) (w v : WorldState) (q : ℕ) → Round u w v → waits w q ≡ false → slice_get v.asking q ≡ slice_get w.asking q
round_stands u w v q h e = round_keeps (λ o. o ≡ slice_get w.asking q) u w v q (λ t b a same. ap Some (heard_same t b a (ap does_wait same ∙ e)) ∙ same) h refl

-- a back leaves a request waiting, or answers it with Done, Fault or Spent
either_keeps : (Q : Option Asking → Type 0) (c : Bool) (x y : Asking × Heard) → Q (Some x.0) → Q (Some y.0) → Q (Some (if c then x else y).0)
either_keeps Q true x y e f = e
either_keeps Q false x y e f = f

pub record HoldsAfterBacks (Q : Option Asking → Type 0) : Type 0 where
  pub waiting : (l : Leg) (accepted ticks : ℕ) → Q (Some (Waiting l accepted ticks))
  pub done : (pad : List ℕ) (count : ℕ) → Q (Some (Answered (answer.Done pad count)))
  pub fault : (kind : FaultKind) (cur count : ℕ) → Q (Some (Answered (answer.Fault kind cur count)))
  pub spent : (count : ℕ) → Q (Some (Answered (answer.Spent count)))

ending_keeps : (Q : Option Asking → Type 0) (t : Terms) (b : Back) (was : Asking) (accepted : ℕ) (e : Ending) → HoldsAfterBacks Q → Q (Some was) → Q (Some (hear_ending t b was accepted e).0)
ending_keeps Q t b was accepted ending.Done h k = h.done b.pad _
ending_keeps Q t b was accepted (ending.Fault kind) h k = h.fault kind b.cur _
ending_keeps Q t b was accepted ending.Reroute h k = k
ending_keeps Q t b was accepted ending.Resume h k =
    either_keeps Q (nat_eq b.leg (2 ^ 32 - 1)) _ _ k (either_keeps Q (nat_eq (accepted + 1) t.rounds) _ _ (h.spent _) (h.waiting _ _ _))

backs_keep : (Q : Option Asking → Type 0) → HoldsAfterBacks Q → KeptByBacks Q
backs_keep Q h t b NotAsked k = k
backs_keep Q h t b (Waiting l accepted ticks) k = either_keeps Q (is_stale t l b) _ _ k (ending_keeps Q t b (Waiting l accepted ticks) accepted b.ending h k)
backs_keep Q h t b (Answered a) k = k

-- a request that was asked stays asked
abbrev pub is_asked : Option Asking → Bool
is_asked None = false
is_asked (Some NotAsked) = false
is_asked (Some (Waiting leg accepted ticks)) = true
is_asked (Some (Answered a)) = true

pub round_asked : (u : Setting) (w v : WorldState) (q : ℕ) → Round u w v → is_asked (slice_get w.asking q) ≡ true → is_asked (slice_get v.asking q) ≡ true
round_asked u w v q h e =
    round_keeps (λ o. is_asked o ≡ true) u w v q (backs_keep (λ o. is_asked o ≡ true) (record { waiting = λ l i j. refl; done = λ p n. refl; fault = λ k p n. refl; spent = λ n. refl })) h e

-- no request is given up
pub round_silent : (u : Setting) (w v : WorldState) (q : ℕ) → Round u w v → slice_get v.asking q ≡ Some (Answered answer.Silent) → slice_get w.asking q ≡ Some (Answered answer.Silent)
round_silent u w v q h e =
    round_keeps (λ o. o ≡ Some (Answered answer.Silent) → slice_get w.asking q ≡ Some (Answered answer.Silent)) u w v q
    (backs_keep (λ o. o ≡ Some (Answered answer.Silent) → slice_get w.asking q ≡ Some (Answered answer.Silent))
    (record { waiting = λ l i j x. absurd (cc); done = λ p n x. absurd (cc); fault = λ k p n x. absurd (cc); spent = λ n x. absurd (cc) }))
    h (λ x. x) e

-- ---- all nodes are idle after it

-- a leg that is not started leaves its node alone
left_alone : (w : WorldState) (a : Accepted) (s : NodeState) (l : Leg) → told_accepted w a ≢ trace.Started → after_answer a s l ≡ s
left_alone w accepted.Started s l h = absurd (h refl)
left_alone w accepted.Foreign s l h = refl
left_alone w (accepted.Answer b) s l h = refl
left_alone w accepted.Running s l h = refl
left_alone w accepted.Elsewhere s l h = refl
left_alone w accepted.Full s l h = refl
left_alone w accepted.Memory s l h = refl

set_idle : (w : WorldState) (n i : ℕ) (s y : NodeState) → slice_get w.nodes n ≡ Some s → (i ≡ n → y ≡ s) → IsIdle i w → live_at (slice_get (slice_set w.nodes n y) i) ≡ []
set_idle w n i s y at same idle =
    let put = get_set w.nodes n y i (low_get w.nodes n s at) in
    by_bool (nat_eq i n)
    (λ t. let e = eqb-true i n t in
    ap live_at (put ∙ ap (λ z. if z then Some y else slice_get w.nodes i) t ∙ ap Some (same e) ∙ sym at ∙ ap (slice_get w.nodes) (sym e)) ∙ idle)
    (λ t. ap live_at (put ∙ ap (λ z. if z then Some y else slice_get w.nodes i) t) ∙ idle)

node_idle : (w : WorldState) (n i : ℕ) (l : Leg) (o : Option NodeState) → slice_get w.nodes n ≡ o → ((to_node w n l o).1 ≢ trace.Started ⊎ i ≢ n) → IsIdle i w → IsIdle i (to_node w n l o).0
node_idle w n i l None at h idle = idle
node_idle w n i l (Some s) at (inl h) idle = set_idle w n i s (after_answer (answer_to s l) s l) at (λ e. left_alone w (answer_to s l) s l h) idle
node_idle w n i l (Some s) at (inr h) idle = set_idle w n i s (after_answer (answer_to s l) s l) at (λ e. absurd (h e)) idle

client_nodes : (u : Setting) (w : WorldState) (c : ℕ) (b : Back) (o : Option Asking) → (to_client u w c b o).0.nodes ≡ w.nodes
client_nodes u w c b None = refl
client_nodes u w c b (Some a) = refl

-- node i stays idle where nothing was started, or was started on another node
delivered_idle : (u : Setting) (w : WorldState) (to : To) (x : Content) (i : ℕ) → ((delivers u w to x).1 ≢ trace.Started ⊎ ((n : ℕ) → to ≡ ToNode n → i ≢ n)) → IsIdle i w → IsIdle i (delivers u w to x).0
delivered_idle u w ToSwitch x i h idle = idle
delivered_idle u w (ToNode n) (OfLeg l) i (inl h) idle = node_idle w n i l (slice_get w.nodes n) refl (inl h) idle
delivered_idle u w (ToNode n) (OfLeg l) i (inr h) idle = node_idle w n i l (slice_get w.nodes n) refl (inr (h n refl)) idle
delivered_idle u w (ToNode n) (OfBack b) i h idle = idle
delivered_idle u w (ToClient c) (OfLeg l) i h idle = idle
delivered_idle u w (ToClient c) (OfBack b) i h idle = ap (λ z. live_at (slice_get z i)) (client_nodes u w c b (slice_get w.asking b.request)) ∙ idle

goes_other : (n k i : ℕ) (to : To) → to ≡ ToNode n → i ≢ n → to ≡ ToNode k → i ≢ k
goes_other n k i to g other e same = let c : ToNode k ≡ ToNode n = sym e ∙ g in let d : k ≡ n = cc in other (same ∙ d)

letter_idle : (u : Setting) (w : WorldState) (o : Option Letter) (i : ℕ) → ((delivers_at u w o).1 ≢ trace.Started ⊎ ((n : ℕ) × GoesTo n o × (i ≢ n))) → IsIdle i w → IsIdle i (delivers_at u w o).0
letter_idle u w None i h idle = idle
letter_idle u w (Some m) i (inl h) idle = delivered_idle u w m.to m.content i (inl h) idle
letter_idle u w (Some m) i (inr (n, g, other)) idle = delivered_idle u w m.to m.content i (inr (λ k e. goes_other n k i m.to g other e)) idle

pub round_idle : (u : Setting) (w v : WorldState) → AllIdle w → Round u w v → AllIdle v
round_idle u w v idle (inl (n, g, t, s)) i = settled_idle u n i (delivers_last u w).0 v s (λ other. letter_idle u w (last_letter w) i (inr (n, g, other)) (idle i))
round_idle u w v idle (inr (t, d)) i = subst (IsIdle i) (sym d) (letter_idle u w (last_letter w) i (inl t) (idle i))
