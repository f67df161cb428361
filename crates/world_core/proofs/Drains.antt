-- The steps of the drain of a world, one after another.
use Rattle.std.proofs.Common.{◌≡◌, ℕ, zero, suc, ◌+◌, ◌-◌, ◌*◌, ◌<◌, ◌⊎◌, inl, inr, IsTrue, Bool, true, false, List, [], ◌∷◌, ◌++◌, length, map, append-nil, Option, Some, None, is_some, refl, sym, ap, ◌∙◌, subst, arith, if◌then◌else◌}
use Rattle.std.specs.Prelude.{slice_get, option_map}
use Rattle.std.proofs.lemmas.List.{length-map}
use Rattle.std.proofs.lemmas.Option.{slice_get-map}
use Rattle.pulse_base.specs.declared.event.Event.{Event}
use Rattle.pulse_base.specs.declared.event.Event.TheVariants.{Deliver, Turn}
use Rattle.pulse_base.specs.declared.event.Trace.{Trace}
use Rattle.pulse_base.specs.declared.event.Trace.TheVariants.{Started}
use Rattle.frame_codec.specs.declared.frame.Back.{Back}
use Rattle.frame_codec.specs.declared.frame.Leg.{Leg}
use Rattle.run_rules.specs.declared.client.Asking.{Asking}
use Rattle.run_rules.specs.declared.client.Asking.TheVariants.{NotAsked, Waiting, Answered}
use Rattle.run_rules.specs.declared.client.Heard.{Heard}
use Rattle.run_rules.specs.declared.client.Heard.TheVariants as heard
use Rattle.run_rules.specs.declared.client.Terms.{Terms}
use Rattle.run_rules.specs.declared.switch.Out.{Out}
use Rattle.run_rules.specs.declared.switch.Out.TheVariants as out
use Rattle.run_rules.specs.Client.{hear, resend}
use Rattle.run_rules.specs.Switch.{on}
use Rattle.run_rules.specs.Waiting.{Each}
use Rattle.run_rules.proofs.Finds.{by_bool}
use Rattle.run_laws.specs.Flat.{Flat}
use Rattle.run_laws.specs.Plan.{limit}
use Rattle.run_laws.specs.Spines.Sound as l
use Rattle.run_views.specs.Setting.{Setting, plan_of}
use Rattle.run_views.specs.Clients.{terms_of}
use Rattle.run_views.specs.Switches.{switch_of}
use Rattle.node_core.specs.Part.{PartState}
use Rattle.client_core.specs.Requests.{ClientState, find}
use Rattle.event_run.specs.Letters.{To, ToSwitch, ToNode, ToClient, Content, OfLeg, OfBack, Letter, sent_leg}
use Rattle.event_run.specs.World.{WorldState, event, told_out, told_heard, to_frame, to_client, delivers, delivers_at}
use Rattle.event_run.specs.Always.{IsEventOf, IsRun, LetterOf}
use Rattle.event_run.proofs.Runs.{event_keeps_run}
use Rattle.drain_run.specs.Drain.{IsIdle, Settles, last_letter, delivers_last, GoesTo, Round, does_wait, waits, current_leg, IsAnswered, DrainsWhere, DrainsRequest, NodesSettle, RequestsDrain}
use Rattle.drain_run.specs.Draining.{AllIdle, letter_measure, drain_measure, IsDraining}
use Rattle.drain_run.proofs.Kept.{resend_keeps_run}
use Rattle.drain_run.proofs.Advances.{resend_begins_draining, draining_has_letter, round_advances}
use Rattle.drain_run.proofs.Drained.{settled_nodes_idle, request_drain_keeps_idle}
use Rattle.world_core.specs.declared.letter.To as own
use Rattle.world_core.specs.declared.letter.To.TheVariants as to
use Rattle.world_core.specs.declared.letter.Content.TheVariants as content
use Rattle.world_core.specs.declared.letter.Letter as m
use Rattle.world_core.specs.Letters.{IsTo, to_view, letter_view}
use Rattle.world_core.specs.Scene.{Member, Scene, node_of, nodes_of, asking_in, requests_in, request_at, askings, world_of, Stays, IsAsBefore}
use Rattle.world_core.specs.Runs.{IsSceneOf, EventSo, EventPlain}
use Rattle.world_core.specs.Drains.{RunsBy, AllPlain, CanRun, KeepsRuns, Becomes, DrainSo, Lasts}
use Rattle.world_core.specs.inner.Drains.{Resends, StartedOn, Turns, InRounds, limit_of, client_at, far, to_come}

-- ---- what lasts

pub lasts_none : (a : Scene) → Lasts a a
lasts_none a = record { switch = refl; images = refl; homes = refl; clients = refl; plain = refl }

pub lasts_more : (a b c : Scene) → Lasts a b → Lasts b c → Lasts a c
lasts_more a b c h k = record { switch = k.switch ∙ h.switch; images = k.images ∙ h.images; homes = k.homes ∙ h.homes; clients = k.clients ∙ h.clients; plain = k.plain ∙ h.plain }

pub stays_lasts : (a b : Scene) → Stays a b → Lasts a b
stays_lasts a b h = record { switch = h.switch; images = h.images; homes = h.homes; clients = h.clients; plain = h.plain }

pub before_lasts : (a b : Scene) → IsAsBefore a b → Lasts a b
before_lasts a b h =
    let last : Lasts a (record a { nodes = b.nodes }) = record { switch = refl; images = refl; homes = refl; clients = refl; plain = h.plain } in
    subst (Lasts a) (sym h.others) last

pub lasts_before : (a b c : Scene) → Lasts a b → IsAsBefore b c → Lasts a c
lasts_before a b c h k = lasts_more a b c h (before_lasts b c k)

pub lasts_event : (a b c : Scene) → Lasts a b → Stays b c → Lasts a c
lasts_event a b c h k = lasts_more a b c h (stays_lasts b c k)

pub many_last : (a b : Scene) → Lasts a b → length b.nodes ≡ length a.nodes
many_last a b h = sym (length-map b.nodes (λ m. m.plain)) ∙ ap (λ (z : List Bool). length z) h.plain ∙ length-map a.nodes (λ m. m.plain)

flags : (xs : List Member) → Each (λ (m : Member). IsTrue m.plain) xs → Each IsTrue (map (λ (m : Member). m.plain) xs)
flags [] h = tt
flags (x ∷ xs) h = (h.0, flags xs h.1)

unflags : (xs : List Member) → Each IsTrue (map (λ (m : Member). m.plain) xs) → Each (λ (m : Member). IsTrue m.plain) xs
unflags [] h = tt
unflags (x ∷ xs) h = (h.0, unflags xs h.1)

pub plain_lasts : (a b : Scene) → Lasts a b → AllPlain a → AllPlain b
plain_lasts a b h p = unflags b.nodes (subst (Each IsTrue) (sym h.plain) (flags a.nodes p))

-- ---- a run

pub keeps_none : (a : Scene) → KeepsRuns a a
keeps_none a u start r = r

pub keeps_more : (a b c : Scene) → KeepsRuns a b → KeepsRuns b c → KeepsRuns a c
keeps_more a b c h k u start r = k u start (h u start r)

pub can_run : (a b : Scene) → CanRun a → KeepsRuns a b → CanRun b
can_run a b r k = (r.0, r.1, k r.0 r.1 r.2)

parts : (xs : List Member) → map (λ (p : PartState). p.node) (map (λ (m : Member). m.part) xs) ≡ nodes_of xs
parts [] = refl
parts (x ∷ xs) = ap (λ z. x.part.node ∷ z) (parts xs)

pub before_keeps : (a b : Scene) → IsAsBefore a b → KeepsRuns a b
before_keeps a b h u start r =
    let nodes : nodes_of b.nodes ≡ nodes_of a.nodes = sym (parts b.nodes) ∙ ap (map (λ (p : PartState). p.node)) h.nodes ∙ parts a.nodes in
    let world : world_of b ≡ world_of a = ap world_of h.others ∙ (λ i. record (world_of a) { nodes = nodes i }) in
    let k = r.2 in
    let of : IsSceneOf u (record a { nodes = b.nodes }) = record { switch = k.switch; code = k.code; homes = k.homes; terms = k.terms; requests = λ q c x at e. record { program = (k.requests q c x at e).program; begins = (k.requests q c x at e).begins } } in
    (r.0, r.1, subst (IsSceneOf u) (sym h.others) of, subst (IsRun u start) (sym world) r.3)

-- an event, and the scene after it, are those of the run
abbrev pub Happened : (a b : Scene) → Event → Trace → Type 0
Happened a b x t = (u : Setting) (start : Flat) → RunsBy u start a → ((world_of b, t) ≡ event u (world_of a) x) × IsSceneOf u b

pub happened : (a b : Scene) (x : Event) (t : Trace) → AllPlain a → EventSo a b x t → EventPlain a b x t → Happened a b x t
happened a b x t plain h p u start r = (p plain u start r.0 r.1 r.2 r.3, (h u start r.0 r.1 r.2 r.3).1)

pub event_keeps : (a b : Scene) (x : Event) (t : Trace) → IsEventOf (world_of a) x → Happened a b x t → KeepsRuns a b
event_keeps a b x t there p u start r =
    let e = p u start r in
    let world : world_of b ≡ (event u (world_of a) x).0 = ap (λ (z : WorldState × Trace). z.0) e.0 in
    (r.0, r.1, e.1, subst (IsRun u start) (sym world) (event_keeps_run u start (world_of a) x r.0 r.1 there r.3))

-- ---- a node settles

pub no_turns : (n : ℕ) (a : Scene) → Becomes (Turns n) a a
no_turns n a u start r = (0, refl)

pub more_turns : (n : ℕ) (a b c : Scene) (t : Trace) → Becomes (Turns n) a b → KeepsRuns a b → Happened b c (Turn n) t → Becomes (Turns n) a c
more_turns n a b c t h k p u start r =
    let x = h u start r in
    let y = k u start r in
    let e = p u start y in
    (suc x.0, ap (λ (z : WorldState × Trace). z.0) e.0 ∙ ap (λ w. (event u w (Turn n)).0) x.1)

pub settled : (n : ℕ) (a b : Scene) → Becomes (Turns n) a b → IsIdle n (world_of b) → Becomes (λ u start. Settles u n) a b
settled n a b h idle u start r = let x = h u start r in (x.0, x.1, idle)

pub no_nodes : (a : Scene) → Becomes (λ u start. NodesSettle u 0) a a
no_nodes a u start r = refl

pub more_nodes : (n : ℕ) (a b c : Scene) → Becomes (λ u start. NodesSettle u n) a b → KeepsRuns a b → Becomes (λ u start. Settles u n) b c → Becomes (λ u start. NodesSettle u (n + 1)) a c
more_nodes n a b c h k s u start r =
    let e : suc n ≡ n + 1 = omega arith in
    subst (λ j. NodesSettle u j (world_of a) (world_of c)) e (world_of b, h u start r, s u start (k u start r))

pub all_nodes : (a b : Scene) → CanRun a → Becomes (λ u start. NodesSettle u (length a.nodes)) a b → AllIdle (world_of b)
all_nodes a b r h =
    settled_nodes_idle r.0 (world_of a) (world_of b) (subst (λ j. NodesSettle r.0 j (world_of a) (world_of b)) (sym (length-map a.nodes node_of)) (h r.0 r.1 r.2))

-- ---- a round

last_place : (s : Scene) (k : ℕ) → k + 1 ≡ length s.letters → length (map letter_view s.letters) - 1 ≡ k
last_place s k e = let many = length-map s.letters letter_view in omega (arith, e, many)

-- the last letter as the run has it
last_at : (s : Scene) (k : ℕ) (d : own.To) → k + 1 ≡ length s.letters → IsTo s.letters k d → (x : Letter) × (last_letter (world_of s) ≡ Some x) × (x.to ≡ to_view d)
last_at s k d e h = (letter_view h.0, ap (slice_get (map letter_view s.letters)) (last_place s k e) ∙ slice_get-map letter_view s.letters k ∙ ap (option_map letter_view) h.1, ap to_view h.2)

-- a leg is started by a letter to a node alone
out_told : (w : WorldState) (o : Out) → told_out w o ≡ Started → ⊥
out_told w (out.ToNode n x) e = absurd (cc)
out_told w (out.ToClient c b) e = absurd (cc)
out_told w out.Nothing e = absurd (cc)

heard_told : (w : WorldState) (h : Heard) → told_heard w h ≡ Started → ⊥
heard_told w heard.Answered e = absurd (cc)
heard_told w (heard.Sent x) e = absurd (cc)
heard_told w heard.Stale e = absurd (cc)

client_told : (u : Setting) (w : WorldState) (c : ℕ) (b : Back) (o : Option Asking) → (to_client u w c b o).1 ≡ Started → ⊥
client_told u w c b None e = absurd (cc)
client_told u w c b (Some a) e = heard_told w (hear (record (terms_of u b.request) { client = c }) b a).1 e

letter_started : (u : Setting) (w : WorldState) (d : To) (x : Content) → (delivers u w d x).1 ≡ Started → (n : ℕ) × (d ≡ ToNode n)
letter_started u w ToSwitch x e = absurd (out_told w (on (switch_of u) (to_frame x)) e)
letter_started u w (ToNode n) x e = (n, refl)
letter_started u w (ToClient c) (OfLeg x) e = absurd (cc)
letter_started u w (ToClient c) (OfBack b) e = absurd (client_told u w c b (slice_get w.asking b.request) e)

view_node : (d : own.To) (n : ℕ) → to_view d ≡ ToNode n → d ≡ to.Node n
view_node to.Switch n e = absurd (cc)
view_node (to.Node k) n e = let c : k ≡ n = cc in ap to.Node c
view_node (to.Client c) n e = absurd (cc)

-- the delivery of the last letter, as the run has it
delivered : (u : Setting) (a b : Scene) (k : ℕ) (t : Trace) → k + 1 ≡ length a.letters → (world_of b, t) ≡ event u (world_of a) (Deliver k) → delivers_last u (world_of a) ≡ (world_of b, t)
delivered u a b k t e h = ap (λ j. event u (world_of a) (Deliver j)) (last_place a k e) ∙ sym h

pub round_started : (a b c : Scene) (k n : ℕ) (d : own.To) (t : Trace) → k + 1 ≡ length a.letters → IsTo a.letters k d → Happened a b (Deliver k) t
    → StartedOn t d (Some n) → Becomes (λ u start. Settles u n) b c → Becomes (λ u start. Round u) a c
round_started a b c k n d t e g p o s u start r =
    let x = last_at a k d e g in
    let ev = p u start r in
    let del = delivered u a b k t e ev.0 in
    let world : (delivers_last u (world_of a)).0 ≡ world_of b = ap (λ (z : WorldState × Trace). z.0) del in
    let goes : GoesTo n (last_letter (world_of a)) = subst (GoesTo n) (sym x.1) (x.2 ∙ ap to_view o.1) in
    let kept = event_keeps a b (Deliver k) t tt p u start r in
    inl (n, goes, ap (λ (z : WorldState × Trace). z.1) del ∙ o.0, subst (λ w. Settles u n w (world_of c)) (sym world) (s u start kept))

pub round_alone : (a b : Scene) (k : ℕ) (d : own.To) (t : Trace) → k + 1 ≡ length a.letters → IsTo a.letters k d → Happened a b (Deliver k) t
    → StartedOn t d None → Becomes (λ u start. Round u) a b
round_alone a b k d t e g p o u start r =
    let x = last_at a k d e g in
    let ev = p u start r in
    let del = delivered u a b k t e ev.0 in
    inr (
      λ s.
          let there = letter_started u (world_of a) x.0.to x.0.content (ap (λ z. (delivers_at u (world_of a) z).1) (sym x.1) ∙ s) in
          o there.0 (sym (ap (λ (z : WorldState × Trace). z.1) del) ∙ s) (view_node d there.0 (sym x.2 ∙ there.1)),
      sym (ap (λ (z : WorldState × Trace). z.0) del),
    )

-- a letter goes to a node that is there
sound_at : {A : Type 0} (P : A → Type 0) (xs : List A) (n : ℕ) (x : A) → l.Each P xs → slice_get xs n ≡ Some x → P x
sound_at P [] n x f e = absurd (cc)
sound_at P (y ∷ xs) zero x f e = let c : y ≡ x = cc in subst P c f.0
sound_at P (y ∷ xs) (suc n) x f e = sound_at P xs n x f.1 e

node_there : (u : Setting) (many n : ℕ) (x : Content) → LetterOf u many (ToNode n) x → n < many
node_there u many n (OfLeg x) h = h.0
node_there u many n (OfBack x) h = absurd h

pub round_there : (a b : Scene) (k n : ℕ) (d : own.To) (t : Trace) → k + 1 ≡ length a.letters → IsTo a.letters k d → CanRun a → Lasts a b → StartedOn t d (Some n) → n < length b.nodes
round_there a b k n d t e g r same o =
    let x = last_at a k d e g in
    let of = sound_at (λ (y : Letter). LetterOf r.0 (length (world_of a).nodes) y.to y.content) (world_of a).letters (length (world_of a).letters - 1) x.0 r.2.3.of.letters x.1 in
    let low : n < length (world_of a).nodes = node_there r.0 (length (world_of a).nodes) n x.0.content (subst (λ z. LetterOf r.0 (length (world_of a).nodes) z x.0.content) (x.2 ∙ ap to_view o.1) of) in
    let many = length-map a.nodes node_of in
    let last = many_last a b same in
    omega (arith, low, many, last)

-- ---- a request

pub resend_keeps : (a b : Scene) (q : ℕ) → Resends a b q → KeepsRuns a b
resend_keeps a b q h u start r =
    let k = r.2 in
    let of : IsSceneOf u (record a { letters = b.letters }) = record { switch = k.switch; code = k.code; homes = k.homes; terms = k.terms; requests = λ q c x at e. record { program = (k.requests q c x at e).program; begins = (k.requests q c x at e).begins } } in
    (r.0, r.1, subst (IsSceneOf u) (sym h.others) of, subst (IsRun u start) (sym (h.world u)) (resend_keeps_run u start (world_of a) q r.0 r.1 r.3))

pub resend_lasts : (a b : Scene) (q : ℕ) → Resends a b q → Lasts a b
resend_lasts a b q h = subst (Lasts a) (sym h.others) (record { switch = refl; images = refl; homes = refl; clients = refl; plain = refl })

pub rounds_begin : (a b : Scene) (q : ℕ) → Resends a b q → AllIdle (world_of a) → waits (world_of a) q ≡ true → Becomes (InRounds q) a b
rounds_begin a b q h idle w u start r = record {
  count = 0;
  rounds = h.world u;
  idle = subst AllIdle (sym (h.world u)) idle;
  draining = λ z. subst (λ v. IsDraining u start v q) (sym (h.world u)) (resend_begins_draining u start (world_of a) q r.0 r.1 r.3 idle w);
}

pub round_some : (a b : Scene) (q : ℕ) → CanRun a → Becomes (InRounds q) a b → waits (world_of b) q ≡ true → 0 < length b.letters
round_some a b q r h w =
    let some = draining_has_letter r.0 r.1 (world_of b) q ((h r.0 r.1 r.2).draining w) in
    let many = length-map b.letters letter_view in
    omega (arith, some, many)

answered : (w : WorldState) (q : ℕ) → IsAnswered w q → waits w q ≡ false
answered w q h = ap does_wait h.1

-- one round more: while the request waits, it is draining and nearer to its answer
advances : (u : Setting) (start : Flat) (w v : WorldState) (q : ℕ) → (IsAnswered v q × AllIdle v) ⊎ (IsDraining u start v q × (drain_measure u v < drain_measure u w)) → waits v q ≡ true → IsDraining u start v q × (drain_measure u v < drain_measure u w)
advances u start w v q (inl h) e = let c : true ≡ false = sym e ∙ answered v q h.0 in absurd (cc)
advances u start w v q (inr h) e = h

idles : (u : Setting) (start : Flat) (w v : WorldState) (q : ℕ) → (IsAnswered v q × AllIdle v) ⊎ (IsDraining u start v q × (drain_measure u v < drain_measure u w)) → AllIdle v
idles u start w v q (inl h) = h.1
idles u start w v q (inr h) = h.0.idle

pub rounds_more : (a b c : Scene) (q : ℕ) → Becomes (InRounds q) a b → KeepsRuns a b → waits (world_of b) q ≡ true → Becomes (λ u start. Round u) b c → Becomes (InRounds q) a c
rounds_more a b c q h k w s u start r =
    let x = h u start r in
    let y = k u start r in
    let z = s u start y in
    let next = round_advances u start (world_of b) (world_of c) q y.0 y.1 (x.draining w) z in
    record {
      count = suc x.count;
      rounds = (world_of b, x.rounds, w, z);
      idle = idles u start (world_of b) (world_of c) q next;
      draining = λ e. (advances u start (world_of b) (world_of c) q next e).0;
    }

pub drained : (a b : Scene) (q : ℕ) → waits (world_of a) q ≡ true → Becomes (InRounds q) a b → waits (world_of b) q ≡ false → Becomes (λ u start. DrainsRequest u q) a b
drained a b q w h e u start r = let x = h u start r in subst (DrainsWhere u q (world_of a) (world_of b)) (sym w) (x.count, x.rounds, e)

pub passed_over : (a : Scene) (q : ℕ) → waits (world_of a) q ≡ false → Becomes (λ u start. DrainsRequest u q) a a
passed_over a q w u start r = subst (DrainsWhere u q (world_of a) (world_of a)) (sym w) refl

-- ---- the number that rounds lower

asking_at : (k : ℕ) (homes : List ℕ) (clients : List ClientState) (i : ℕ) → slice_get (askings k homes clients) i ≡ option_map (λ home. asking_in (request_at clients home (k + i))) (slice_get homes i)
asking_at k [] clients i = refl
asking_at k (home ∷ homes) clients zero = let e : k ≡ k + 0 = omega arith in ap (λ j. Some (asking_in (request_at clients home j))) e
asking_at k (home ∷ homes) clients (suc i) =
    let e : suc k + i ≡ k + suc i = omega arith in
    asking_at (suc k) homes clients i ∙ ap (λ j. option_map (λ h. asking_in (request_at clients h j)) (slice_get homes i)) e

-- how a request stands, by its home
pub asking_here : (s : Scene) (q : ℕ) → slice_get (world_of s).asking q ≡ option_map (λ home. asking_in (request_at s.clients home q)) (slice_get s.homes q)
asking_here s q =
    let e : 0 + q ≡ q = omega arith in
    asking_at 0 s.homes s.clients q ∙ ap (λ j. option_map (λ home. asking_in (request_at s.clients home j)) (slice_get s.homes q)) e

client_limit : (u : Setting) (s : Scene) (q home : ℕ) (o : Option ClientState) → IsSceneOf u s → slice_get s.clients home ≡ o → does_wait (Some (asking_in (request_at s.clients home q))) ≡ true → limit_of o ≡ limit (plan_of u)
client_limit u s q home None of e w =
    let c : false ≡ true = sym (ap (λ (z : Option ClientState). does_wait (Some (asking_in (find (requests_in z) q)))) e) ∙ w in absurd (cc)
client_limit u s q home (Some k) of e w = ap (λ (t : Terms). t.rounds * t.budget) (of.terms home k e)

home_limit : (u : Setting) (s : Scene) (q : ℕ) (o : Option ℕ) → IsSceneOf u s → does_wait (option_map (λ home. asking_in (request_at s.clients home q)) o) ≡ true → limit_of (client_at s o) ≡ limit (plan_of u)
home_limit u s q None of w = let c : false ≡ true = w in absurd (cc)
home_limit u s q (Some home) of w = client_limit u s q home (slice_get s.clients home) of refl w

far_is : (u : Setting) (o : Option Letter) → far (limit (plan_of u)) o ≡ letter_measure u o
far_is u None = refl
far_is u (Some x) = refl

to_come_is : (u : Setting) (s : Scene) (q : ℕ) → IsSceneOf u s → waits (world_of s) q ≡ true → to_come s q ≡ suc (drain_measure u (world_of s))
to_come_is u s q of w =
    ap (λ b. if b then suc (far (limit_of (client_at s (slice_get s.homes q))) (last_letter (world_of s))) else 0) w
    ∙ ap (λ n. suc (far n (last_letter (world_of s)))) (home_limit u s q (slice_get s.homes q) of (sym (ap does_wait (asking_here s q)) ∙ w))
    ∙ ap suc (far_is u (last_letter (world_of s)))

pub round_lowers : (a b c : Scene) (q : ℕ) → CanRun a → Becomes (InRounds q) a b → KeepsRuns a b → waits (world_of b) q ≡ true → Becomes (λ u start. Round u) b c → KeepsRuns b c → to_come c q < to_come b q
round_lowers a b c q r h k w s k' =
    let u = r.0 in
    let start = r.1 in
    let x = h u start r.2 in
    let y = k u start r.2 in
    let z = k' u start y in
    let next = round_advances u start (world_of b) (world_of c) q y.0 y.1 (x.draining w) (s u start y) in
    let before : to_come b q ≡ suc (drain_measure u (world_of b)) = to_come_is u b q y.2 w in
    by_bool (waits (world_of c) q)
    (λ e.
    let less : drain_measure u (world_of c) < drain_measure u (world_of b) = (advances u start (world_of b) (world_of c) q next e).1 in
    let after : to_come c q ≡ suc (drain_measure u (world_of c)) = to_come_is u c q z.2 e in
    omega (arith, before, after, less))
    (λ e.
    let after : to_come c q ≡ 0 = ap (λ t. if t then suc (far (limit_of (client_at c (slice_get c.homes q))) (last_letter (world_of c))) else 0) e in
    omega (arith, before, after))

-- ---- all requests

pub request_idle : (a b : Scene) (q : ℕ) → CanRun a → Becomes (λ u start. DrainsRequest u q) a b → AllIdle (world_of a) → AllIdle (world_of b)
request_idle a b q r h idle = request_drain_keeps_idle r.0 q (world_of a) (world_of b) (h r.0 r.1 r.2) idle

pub no_requests : (a : Scene) → Becomes (λ u start. RequestsDrain u 0) a a
no_requests a u start r = refl

pub more_requests : (q : ℕ) (a b c : Scene) → Becomes (λ u start. RequestsDrain u q) a b → KeepsRuns a b → Becomes (λ u start. DrainsRequest u q) b c → Becomes (λ u start. RequestsDrain u (q + 1)) a c
more_requests q a b c h k s u start r =
    let e : suc q ≡ q + 1 = omega arith in
    subst (λ j. RequestsDrain u j (world_of a) (world_of c)) e (world_of b, h u start r, s u start (k u start r))

-- ---- the whole

many_asking : (k : ℕ) (homes : List ℕ) (clients : List ClientState) → length (askings k homes clients) ≡ length homes
many_asking k [] clients = refl
many_asking k (home ∷ homes) clients = ap suc (many_asking (suc k) homes clients)

pub drain_so : (a b c : Scene) → Becomes (λ u start. NodesSettle u (length a.nodes)) a b → KeepsRuns a b → Lasts a b → Becomes (λ u start. RequestsDrain u (length b.homes)) b c → KeepsRuns b c → DrainSo a c
drain_so a b c h k same s k' u start set few of run =
    let r : RunsBy u start a = (set, few, of, run) in
    let y = k u start r in
    let nodes : length a.nodes ≡ length (world_of a).nodes = sym (length-map a.nodes node_of) in
    let requests : length b.homes ≡ length (world_of a).asking = ap (λ (z : List ℕ). length z) same.homes ∙ sym (many_asking 0 a.homes a.clients) in
    ((world_of b, subst (λ j. NodesSettle u j (world_of a) (world_of b)) nodes (h u start r), subst (λ j. RequestsDrain u j (world_of b) (world_of c)) requests (s u start y)), (k' u start y).2)

-- ---- a request's leg as its home has it

some_leg : (a : Asking) → is_some (resend a) ≡ does_wait (Some a)
some_leg NotAsked = refl
some_leg (Waiting leg accepted ticks) = refl
some_leg (Answered a) = refl

pub waits_here : (s : Scene) (q home : ℕ) (o : Option Leg) → slice_get s.homes q ≡ Some home → o ≡ resend (asking_in (request_at s.clients home q)) → is_some o ≡ waits (world_of s) q
waits_here s q home o at e =
    ap is_some e ∙ some_leg (asking_in (request_at s.clients home q)) ∙ sym (ap does_wait (asking_here s q ∙ ap (option_map (λ h. asking_in (request_at s.clients h q))) at))

-- the leg that is sent again
abbrev own_leg : Option Leg → List m.Letter
own_leg None = []
own_leg (Some x) = record { to = to.Switch; content = content.Leg x } ∷ []

letters_more : (xs : List m.Letter) (o : Option Leg) → map letter_view (xs ++ own_leg o) ≡ map letter_view xs ++ sent_leg o
letters_more [] None = refl
letters_more [] (Some x) = refl
letters_more (y ∷ xs) o = ap (λ z. letter_view y ∷ z) (letters_more xs o)

pub resends_leg : (s : Scene) (sent : List m.Letter) (q home : ℕ) (o : Option Leg) → slice_get s.homes q ≡ Some home → o ≡ resend (asking_in (request_at s.clients home q)) → sent ≡ s.letters ++ own_leg o → Resends s (record s { letters = sent }) q
resends_leg s sent q home o at e more =
    let leg : o ≡ current_leg (slice_get (world_of s).asking q) = e ∙ sym (ap current_leg (asking_here s q ∙ ap (option_map (λ h. asking_in (request_at s.clients h q))) at)) in
    let letters : map letter_view sent ≡ map letter_view s.letters ++ sent_leg (current_leg (slice_get (world_of s).asking q)) =
    ap (map letter_view) more ∙ letters_more s.letters o ∙ ap (λ z. map letter_view s.letters ++ sent_leg z) leg in
    record { world = λ u i. record (world_of s) { letters = letters i }; others = refl }

pub none_more : (s : Scene) (sent : List m.Letter) → sent ≡ s.letters → sent ≡ s.letters ++ own_leg None
none_more s sent e = e ∙ sym (append-nil s.letters)
