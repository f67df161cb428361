-- The rule of a client's request is that of the laws of runs.
use Rattle.std.proofs.Common.{◌≡◌, ℕ, suc, ◌+◌, ◌-◌, ◌*◌, ◌^◌, ◌<◌, ◌≤◌, ◌||◌, Bool, true, false, not, [], ◌∷◌, length, refl, sym, ap, ◌∙◌, subst, arith, nat_eq, nat_lt, nat_le, if◌then◌else◌, eqb-true}
use Rattle.pulse_base.specs.declared.answer.Answer.TheVariants as answer
use Rattle.frame_codec.specs.declared.frame.Leg.{Leg}
use Rattle.frame_codec.specs.declared.frame.Back.{Back}
use Rattle.frame_codec.specs.declared.frame.Ending.{Ending}
use Rattle.frame_codec.specs.declared.frame.Ending.TheVariants as ending
use Rattle.run_rules.specs.declared.client.Asking.{Asking}
use Rattle.run_rules.specs.declared.client.Asking.TheVariants.{NotAsked, Waiting, Answered}
use Rattle.run_rules.specs.declared.client.Ticked.{Ticked}
use Rattle.run_rules.specs.declared.client.Ticked.TheVariants as ticked
use Rattle.run_rules.specs.declared.client.Heard.{Heard}
use Rattle.run_rules.specs.declared.client.Heard.TheVariants as heard
use Rattle.run_rules.specs.Outcome.{Begin, Ready, Ended, DivZero}
use Rattle.run_rules.specs.Client.{asked_by, is_stale, next_round, hear_ending}
use Rattle.run_rules.proofs.Finds.{by_bool}
use Rattle.run_laws.specs.Plan as p
use Rattle.run_laws.specs.Flat as f
use Rattle.run_laws.specs.Client as c
use Rattle.run_laws.specs.World as w
use Rattle.run_views.specs.Frames.{kind_view, ending_view, leg_view, back_view}
use Rattle.run_views.specs.Setting.{Setting, plan_of, begun_view, pad_size, IsLegOf, IsBackOf}
use Rattle.run_views.specs.Clients.{terms_of, asking_view, sent_leg, asked_leg, ticked_leg, heard_leg}
use Rattle.run_views.specs.Laws.{AskSeen, TickSeen, HearSeen}

pub plus_one : (n : ℕ) → n + 1 ≡ suc n
plus_one n = omega arith

-- ---- ask

ask_by : (u : Setting) (r program : ℕ) (b : Begin) → u.begin r ≡ b
    → (asking_view (asked_by (terms_of u r) r program b).0 ≡ c.begun_asking (plan_of u) r (begun_view b))
    × (sent_leg (asked_leg (asked_by (terms_of u r) r program b).1) ≡ w.begun_sends (plan_of u) r (begun_view b))
ask_by u r program (Ready cur pad) e =
    (ap (λ g. c.Asked (p.leg_of r 0 (p.first_progress u.budget (begun_view g))) 0 0) (sym e), ap (λ g. w.to_switch (p.AsLeg (p.leg_of r 0 (p.first_progress u.budget (begun_view g)))) ∷ []) (sym e))
ask_by u r program (Ended pad) e = (refl, refl)
ask_by u r program DivZero e = (refl, refl)

pub ask_seen : AskSeen
ask_seen u r program NotAsked same h = ask_by u r program (u.begin r) refl
ask_seen u r program (Waiting l accepted ticks) same h = (refl, refl)
ask_seen u r program (Answered (answer.Done pad count)) same h = (refl, refl)
ask_seen u r program (Answered (answer.Fault kind cur count)) same h = (refl, refl)
ask_seen u r program (Answered (answer.Spent count)) same h = (refl, refl)
ask_seen u r program (Answered answer.Silent) same h = (refl, refl)
ask_seen u r program (Answered answer.Unasked) same h = absurd h
ask_seen u r program (Answered answer.Waiting) same h = absurd h

-- ---- tick and resend

abbrev tick_out : Setting → Leg → (accepted ticks : ℕ) → Bool → Asking × Ticked
tick_out u l accepted ticks b = if b then (Answered answer.Silent, ticked.Silent) else (Waiting l accepted (ticks + 1), ticked.Resent l)

TickBy : Setting → Leg → (accepted ticks : ℕ) → Bool → Type 0
TickBy u l accepted ticks b =
    (asking_view (tick_out u l accepted ticks b).0 ≡ (if b then c.Answered f.Silent else c.Asked (leg_view l) accepted (suc ticks)))
    × (sent_leg (ticked_leg (tick_out u l accepted ticks b).1) ≡ (if b then [] else w.to_switch (p.AsLeg (leg_view l)) ∷ []))

tick_by : (u : Setting) (l : Leg) (accepted ticks : ℕ) (b : Bool) → TickBy u l accepted ticks b
unfolding TickBy
tick_by u l accepted ticks true = (refl, refl)
tick_by u l accepted ticks false = (ap (c.Asked (leg_view l) accepted) (plus_one ticks), refl)

tick_waiting : (u : Setting) (l : Leg) (accepted ticks : ℕ) → TickBy u l accepted ticks (nat_le u.tries ticks)
tick_waiting u l accepted ticks = tick_by u l accepted ticks (nat_le u.tries ticks)

pub tick_seen : TickSeen
unfolding TickBy
tick_seen u r NotAsked h = (refl, refl, refl)
tick_seen u r (Waiting l accepted ticks) h = let t = tick_waiting u l accepted ticks in (t.0, t.1, refl)
tick_seen u r (Answered (answer.Done pad count)) h = (refl, refl, refl)
tick_seen u r (Answered (answer.Fault kind cur count)) h = (refl, refl, refl)
tick_seen u r (Answered (answer.Spent count)) h = (refl, refl, refl)
tick_seen u r (Answered answer.Silent) h = (refl, refl, refl)
tick_seen u r (Answered answer.Unasked) h = absurd h
tick_seen u r (Answered answer.Waiting) h = absurd h

-- ---- a back

count_same : (q b left : ℕ) → left ≤ b → q + b - left ≡ q + (b - left)
count_same q b left h = omega (arith, h)

pub not_last : (k : ℕ) → suc k < 2 ^ 32 → nat_eq k (2 ^ 32 - 1) ≡ false
not_last k h = by_bool (nat_eq k (2 ^ 32 - 1)) (λ t. absurd (let e = eqb-true k (2 ^ 32 - 1) t in omega (arith, e, h))) (λ x. x)

abbrev resumed_out : Setting → Back → Leg → (accepted ticks : ℕ) → (last full : Bool) → Asking × Heard
resumed_out u b l accepted ticks last full =
    if last then (Waiting l accepted ticks, heard.Stale)
    else (if full then (Answered (answer.Spent (u.rounds * u.budget)), heard.Answered)
    else (Waiting (next_round (terms_of u b.request) b) (accepted + 1) 0, heard.Sent (next_round (terms_of u b.request) b)))

Resumes : Setting → Back → Leg → (accepted ticks : ℕ) → (last full : Bool) → Type 0
Resumes u b l accepted ticks last full =
    (asking_view (resumed_out u b l accepted ticks last full).0
    ≡ c.heard_asking (c.Asked (leg_view l) accepted ticks) (if full then c.Answers (f.Spent (u.rounds * u.budget)) else c.Sends (c.next_leg (plan_of u) (back_view b))))
    × (sent_leg (heard_leg (resumed_out u b l accepted ticks last full).1)
    ≡ w.heard_sends (if full then c.Answers (f.Spent (u.rounds * u.budget)) else c.Sends (c.next_leg (plan_of u) (back_view b))))

next_seen : (u : Setting) (b : Back) → leg_view (next_round (terms_of u b.request) b) ≡ c.next_leg (plan_of u) (back_view b)
next_seen u b = ap (λ k. p.leg_of b.request k (record { cur = b.cur; pad = b.pad; left = u.budget })) (plus_one b.leg)

resumes_by : (u : Setting) (b : Back) (l : Leg) (accepted ticks : ℕ) (full : Bool) → Resumes u b l accepted ticks false full
unfolding Resumes
resumes_by u b l accepted ticks true = (refl, refl)
resumes_by u b l accepted ticks false = ((λ i. c.Asked (next_seen u b i) (plus_one accepted i) 0), ap (λ x. w.to_switch (p.AsLeg x) ∷ []) (next_seen u b))

abbrev EndingSeen : Setting → Back → Leg → (accepted ticks : ℕ) → Ending → Type 0
EndingSeen u b l accepted ticks e =
    (asking_view (hear_ending (terms_of u b.request) b (Waiting l accepted ticks) accepted e).0 ≡ c.heard_asking (c.Asked (leg_view l) accepted ticks) (c.hears_ending (plan_of u) (back_view b) accepted (ending_view e)))
    × (sent_leg (heard_leg (hear_ending (terms_of u b.request) b (Waiting l accepted ticks) accepted e).1) ≡ w.heard_sends (c.hears_ending (plan_of u) (back_view b) accepted (ending_view e)))

ending_seen : (u : Setting) (b : Back) (l : Leg) (accepted ticks : ℕ) (e : Ending) → suc b.leg < 2 ^ 32 → b.left ≤ u.budget → EndingSeen u b l accepted ticks e
unfolding Resumes
ending_seen u b l accepted ticks ending.Done h left = (ap (λ n. c.Answered (f.DoneWith b.pad n)) (count_same (accepted * u.budget) u.budget b.left left), refl)
ending_seen u b l accepted ticks (ending.Fault kind) h left = (ap (λ n. c.Answered (f.FaultAt (kind_view kind) b.cur n)) (count_same (accepted * u.budget) u.budget b.left left), refl)
ending_seen u b l accepted ticks ending.Reroute h left = (refl, refl)
ending_seen u b l accepted ticks ending.Resume h left =
    let base = resumes_by u b l accepted ticks (nat_eq (accepted + 1) u.rounds) in
    let full : nat_eq (accepted + 1) u.rounds ≡ nat_eq (suc accepted) u.rounds = ap (λ z. nat_eq z u.rounds) (plus_one accepted) in
    let x = subst (λ z. Resumes u b l accepted ticks z (nat_eq (accepted + 1) u.rounds)) (sym (not_last b.leg h)) base in (
      x.0 ∙ ap (λ z. c.heard_asking (c.Asked (leg_view l) accepted ticks) (if z then c.Answers (f.Spent (u.rounds * u.budget)) else c.Sends (c.next_leg (plan_of u) (back_view b)))) full,
      x.1 ∙ ap (λ z. w.heard_sends (if z then c.Answers (f.Spent (u.rounds * u.budget)) else c.Sends (c.next_leg (plan_of u) (back_view b)))) full,
    )

abbrev hear_out : Setting → Back → Leg → (accepted ticks : ℕ) → Bool → Asking × Heard
hear_out u b l accepted ticks stale =
    if stale then (Waiting l accepted ticks, heard.Stale) else hear_ending (terms_of u b.request) b (Waiting l accepted ticks) accepted b.ending

HearBy : Setting → Back → Leg → (accepted ticks : ℕ) → (stale low : Bool) → Type 0
HearBy u b l accepted ticks stale low =
    (asking_view (hear_out u b l accepted ticks stale).0
    ≡ c.heard_asking (c.Asked (leg_view l) accepted ticks) (if low then c.Stale else c.hears_ending (plan_of u) (back_view b) accepted (ending_view b.ending)))
    × (sent_leg (heard_leg (hear_out u b l accepted ticks stale).1)
    ≡ w.heard_sends (if low then c.Stale else c.hears_ending (plan_of u) (back_view b) accepted (ending_view b.ending)))

hear_by : (u : Setting) (b : Back) (l : Leg) (accepted ticks : ℕ) (low : Bool) → suc b.leg < 2 ^ 32 → b.left ≤ u.budget → HearBy u b l accepted ticks low low
unfolding HearBy
hear_by u b l accepted ticks true h left = (refl, refl)
hear_by u b l accepted ticks false h left = ending_seen u b l accepted ticks b.ending h left

same_number : (a b : ℕ) → a ≡ b → nat_eq a b ≡ true
same_number a b e = grind (arith, e)

stale_same : (low : Bool) → (not true || (low || (not true || (not true || false)))) ≡ low
stale_same true = refl
stale_same false = refl

stale_is : (u : Setting) (b : Back) (l : Leg) → IsBackOf u b → l.request ≡ b.request → IsLegOf u l → b.left ≤ u.budget → is_stale (terms_of u b.request) l b ≡ nat_lt b.leg l.leg
stale_is u b l of same leg left =
    let client : nat_eq b.client (u.client b.request) ≡ true = same_number _ _ of.client in
    let program : nat_eq b.program l.program ≡ true = same_number _ _ (of.program ∙ ap u.program (sym same) ∙ sym leg.program) in
    let pad : nat_eq (length b.pad) (length l.pad) ≡ true = same_number _ _ (of.pad ∙ ap (pad_size u) (sym same) ∙ sym leg.pad) in
    let some : nat_lt u.budget b.left ≡ false = grind (arith, left) in
    (λ i. not (client i) || (nat_lt b.leg l.leg || (not (program i) || (not (pad i) || some i)))) ∙ stale_same (nat_lt b.leg l.leg)

pub hear_seen : HearSeen
unfolding HearBy
hear_seen u b NotAsked of h low left = (refl, refl)
hear_seen u b (Waiting l accepted ticks) of h low left =
    subst (λ z. HearBy u b l accepted ticks z (nat_lt b.leg l.leg)) (sym (stale_is u b l of h.0 h.1 left)) (hear_by u b l accepted ticks (nat_lt b.leg l.leg) low left)
hear_seen u b (Answered (answer.Done pad count)) of h low left = (refl, refl)
hear_seen u b (Answered (answer.Fault kind cur count)) of h low left = (refl, refl)
hear_seen u b (Answered (answer.Spent count)) of h low left = (refl, refl)
hear_seen u b (Answered answer.Silent) of h low left = (refl, refl)
hear_seen u b (Answered answer.Unasked) of h low left = absurd h
hear_seen u b (Answered answer.Waiting) of h low left = absurd h
