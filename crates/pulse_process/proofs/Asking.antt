-- The requests of a client keep their numbers, which differ, and so each is the one that its number finds.
use Rattle.std.proofs.Common.{◌≡◌, ℕ, zero, suc, ◌+◌, false, cond, List, [], ◌∷◌, ◌++◌, map, drop, nat_eq, Option, Some, None, refl, sym, ap, subst, ◌∙◌, arith, inl, inr}
use Rattle.std.specs.Prelude.{slice_get, option_map}
use Rattle.std.specs.List.{IsDistinct, AllByRecursion}
use Rattle.std.proofs.lemmas.List.{at_drop_more}
use Rattle.std.proofs.lemmas.Option.{slice_get_within, get_or_from_slice_get}
use Rattle.std.proofs.lemmas.Map.Keys.{IsDistinct-head, IsDistinct-tail}
use Rattle.pulse_base.specs.declared.answer.Answer.{Answer}
use Rattle.pulse_base.specs.declared.plan.RequestPlan.{RequestPlan}
use Rattle.pulse_base.specs.Link.{Receipt, Sent}
use Rattle.frame_codec.specs.declared.frame.Frame.TheVariants as frames
use Rattle.report_text.specs.Report.{answer_line}
use Rattle.code_image.specs.declared.image.Image.{Image}
use Rattle.run_rules.specs.declared.client.Asking.TheVariants.{NotAsked}
use Rattle.run_rules.specs.Client.{answer_of}
use Rattle.run_views.proofs.Shares.{same_number}
use Rattle.client_core.specs.declared.request.Request.{Request}
use Rattle.client_core.specs.Requests.{ClientState, find}
use Rattle.client_core.specs.Requests as client
use Rattle.pulse_codegen.specs.Compiled.{CompilesAll}
use Rattle.scenario_text.specs.declared.scenario.Scenario.{Scenario}
use Rattle.scenario_text.specs.Accepted.{IsRunnable}
use Rattle.scenario_parts.specs.Clients.{first_client, requests_by}
use Rattle.scenario_parts.proofs.Plans.{plans_are}
use Rattle.pulse_serve.specs.declared.frames.Came.{Came}
use Rattle.pulse_serve.specs.declared.frames.Came.TheVariants as came
use Rattle.pulse_serve.specs.declared.served.Served.{Served}
use Rattle.pulse_serve.specs.declared.served.Served.TheVariants as served
use Rattle.pulse_serve.specs.Runs.{Runs, CutAt}
use Rattle.pulse_serve.specs.ClientRun.{numbers, Asks, Ticks, Makes, MakesUpTo, ClientTurn, client_loop, TurnsEnd, AsksAll, ServesClient}
use Rattle.pulse_serve.proofs.Answering.{asks_numbers, ticks_keep, hears_keep}
use Rattle.pulse_process.specs.Ask.{request_lines}

-- ---- a request is the one that its number finds

in_all : (P : ℕ → Type 0) (qs : List Request) (k : ℕ) (q : Request) → AllByRecursion P (map (λ q. q.plan.number) qs) → slice_get qs k ≡ Some q → P q.plan.number
in_all P [] k q h e = absurd (cc)
in_all P (x ∷ qs) zero q h e = let same : x ≡ q = cc in subst (λ (z : Request). P z.plan.number) same h.0
in_all P (x ∷ qs) (suc k) q h e = in_all P qs k q h.1 e

turned_round : (a b : ℕ) → nat_eq a b ≡ nat_eq b a
turned_round a b = grind arith

found_at : (qs : List Request) (k : ℕ) (q : Request) → IsDistinct nat_eq (map (λ q. q.plan.number) qs) → slice_get qs k ≡ Some q → find qs q.plan.number ≡ Some q
found_at [] k q h e = absurd (cc)
found_at (x ∷ qs) zero q h e =
    let same : x ≡ q = cc in
    ap (λ b. cond b (Some x) (find qs q.plan.number)) (same_number q.plan.number x.plan.number (ap (λ (z : Request). z.plan.number) (sym same))) ∙ ap Some same
found_at (x ∷ qs) (suc k) q h e =
    let ns = map (λ (q : Request). q.plan.number) qs in
    let apart : nat_eq x.plan.number q.plan.number ≡ false = in_all (λ y. nat_eq x.plan.number y ≡ false) qs k q (IsDistinct-head nat_eq x.plan.number ns h) e in
    ap (λ b. cond b (Some x) (find qs q.plan.number)) (turned_round q.plan.number x.plan.number ∙ apart) ∙ found_at qs k q (IsDistinct-tail nat_eq x.plan.number ns h) e

request_at : (o : Option Request) (n : ℕ) → option_map (λ q. q.plan.number) o ≡ Some n → (q : Request) × (o ≡ Some q) × (q.plan.number ≡ n)
request_at None n e = absurd (cc)
request_at (Some q) n e = (q, refl, cc)

answer_is : (o : Option Request) (q : Request) (a : Answer) → o ≡ Some q → option_map (λ q. answer_of q.asking) o ≡ Some a → answer_of q.asking ≡ a
answer_is None q a e d = absurd (cc)
answer_is (Some x) q a e d = let same : x ≡ q = cc in let is : answer_of x.asking ≡ a = cc in ap (λ (z : Request). answer_of z.asking) (sym same) ∙ is

-- the line of the request at a place, from its number and the answer that is found under it
pub next_request : (c : ClientState) (k n : ℕ) (a : Answer) → IsDistinct nat_eq (numbers c) → option_map (λ q. q.plan.number) (slice_get c.requests k) ≡ Some n → option_map (λ q. answer_of q.asking) (find c.requests n) ≡ Some a
    → request_lines (drop k c.requests) ≡ answer_line n a ++ request_lines (drop (k + 1) c.requests)
next_request c k n a differ e d =
    let w = request_at (slice_get c.requests k) n e in
    let q = w.0 in
    let rest = request_lines (drop (k + 1) c.requests) in
    let found : find c.requests n ≡ Some q = subst (λ m. find c.requests m ≡ Some q) w.2 (found_at c.requests k q differ w.1) in
    at_drop_more request_lines c.requests k q (slice_get_within c.requests k q w.1)
    ∙ ap (λ x. request_lines (x ∷ drop (k + 1) c.requests)) (get_or_from_slice_get c.requests k q q w.1)
    ∙ ap (λ m. answer_line m (answer_of q.asking) ++ rest) w.2 ∙ ap (λ x. answer_line n x ++ rest) (answer_is (find c.requests n) q a found d)

-- ---- the numbers of a scenario's client differ

plan_numbers : (plans : List RequestPlan) → map (λ (q : Request). q.plan.number) (map (λ p. record { plan = p; asking = NotAsked }) plans) ≡ client.numbers plans
plan_numbers [] = refl
plan_numbers (p ∷ plans) = ap (λ l. p.number ∷ l) (plan_numbers plans)

pub first_differ : (s : Scenario) (images : List Image) → CompilesAll s.checked images → IsRunnable s → (c : ℕ) → IsDistinct nat_eq (numbers (first_client s.plan images c))
first_differ s images h r c = subst (IsDistinct nat_eq) (sym (plan_numbers (requests_by c (s.plan).requests))) (plans_are s images h r.requests c).differ

-- ---- a served run keeps the numbers

asks_all : (port : ℕ) (c now : ClientState) (ns : List ℕ) (ss : List Sent) → Runs (Asks port) c ns now ss → numbers now ≡ numbers c
asks_all port c now [] ss r = ap numbers r.0
asks_all port c now (n ∷ ns) ss r = asks_all port r.0 now ns r.2 r.4 ∙ asks_numbers port c n r.0 r.1 r.3

ticks_all : (port : ℕ) (c now : ClientState) (ns : List ℕ) (ss : List Sent) → Runs (Ticks port) c ns now ss → numbers now ≡ numbers c
ticks_all port c now [] ss r = ap numbers r.0
ticks_all port c now (n ∷ ns) ss r = ticks_all port r.0 now ns r.2 r.4 ∙ (ticks_keep port c n r.0 r.1 r.3).0

makes_keep : (port : ℕ) (c : ClientState) (item : Came) (now : ClientState) (ss : List Sent) → Makes port c item now ss → numbers now ≡ numbers c
makes_keep port c came.Gap now ss m = ticks_all port c now (numbers c) ss m
makes_keep port c came.Noise now ss m = ap numbers m.0
makes_keep port c (came.Frame (frames.Leg l)) now ss m = ap numbers m.0
makes_keep port c (came.Frame (frames.Back b)) now ss m = (hears_keep c now b m.0 (find c.requests b.request) refl m.1).0
makes_keep port c (came.Frame frames.Stop) now ss m = ap numbers m.0

up_to_keeps : (port : ℕ) (c : ClientState) (item : Came) (now : ClientState) (ss : List Sent) → MakesUpTo port c item now ss → numbers now ≡ numbers c
up_to_keeps port c came.Gap now ss m = ticks_all port c now _ ss m.1
up_to_keeps port c came.Noise now ss m = makes_keep port c came.Noise now ss m
up_to_keeps port c (came.Frame f) now ss m = makes_keep port c (came.Frame f) now ss m

turns_keep : (port : ℕ) (c now : ClientState) (rs : List Receipt) (ss : List Sent) → Runs (ClientTurn Makes port) c rs now ss → numbers now ≡ numbers c
turns_keep port c now [] ss r = ap numbers r.0
turns_keep port c now (i ∷ is) ss r = turns_keep port r.0 now is r.2 r.4 ∙ makes_keep port c r.3.item r.0 r.1 r.3.makes

cut_keeps : (port : ℕ) (c now : ClientState) (rs : List Receipt) (ss : List Sent) → CutAt (client_loop port).Turn (client_loop port).UpTo c rs now ss → numbers now ≡ numbers c
cut_keeps port c now rs ss x = up_to_keeps port x.mid x.cut.item now _ x.cut.makes ∙ turns_keep port c x.mid x.before x.early x.run

ends_keep : (port turns : ℕ) (result : Served) (c now : ClientState) (rs : List Receipt) (ss : List Sent) → TurnsEnd port turns result c rs now ss → numbers now ≡ numbers c
ends_keep port turns served.Stopped c now rs ss h = turns_keep port c now rs ss h.0
ends_keep port turns served.TurnsUsed c now rs ss h = turns_keep port c now rs ss h.0.0
ends_keep port turns served.LinkFault c now rs ss h = elim h [ inl r ↦ turns_keep port c now rs ss r.0 | inr x ↦ cut_keeps port c now rs ss x ]
ends_keep port turns served.Memory c now rs ss h = absurd (h)

all_keep : (port turns : ℕ) (result : Served) (c now : ClientState) (rs : List Receipt) (ss : List Sent) → AsksAll port turns result c rs now ss → numbers now ≡ numbers c
all_keep port turns result c now rs ss h = ends_keep port turns result h.mid now rs h.late h.turns_made ∙ asks_all port c h.mid (numbers c) h.early h.asks

pub serves_keep : (port turns : ℕ) (result : Served) (c now : ClientState) (rs : List Receipt) (ss : List Sent) → ServesClient port turns result c rs now ss → numbers now ≡ numbers c
serves_keep port turns result c now rs ss h = elim h.1 [ inl x ↦ all_keep port turns result c now rs ss x | inr x ↦ asks_all port c now _ _ x.asks ]
