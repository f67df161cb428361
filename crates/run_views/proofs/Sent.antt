-- What clients and the switch send is of its request, and a client's requests stay so.
use Rattle.std.proofs.Common.{◌≡◌, ℕ, ◌+◌, ◌-◌, ◌*◌, ◌^◌, Bool, true, false, Option, Some, None, refl, sym, subst, nat_eq, nat_le, if◌then◌else◌}
use Rattle.range_table.specs.Memory.{region_of}
use Rattle.pulse_base.specs.declared.answer.Answer.TheVariants as answer
use Rattle.frame_codec.specs.declared.frame.Leg.{Leg}
use Rattle.frame_codec.specs.declared.frame.Back.{Back}
use Rattle.frame_codec.specs.declared.frame.Ending.{Ending}
use Rattle.frame_codec.specs.declared.frame.Ending.TheVariants as ending
use Rattle.run_rules.specs.declared.client.Asking.{Asking}
use Rattle.run_rules.specs.declared.client.Asking.TheVariants.{NotAsked, Waiting, Answered}
use Rattle.run_rules.specs.declared.client.Ticked.{Ticked}
use Rattle.run_rules.specs.declared.client.Ticked.TheVariants as ticked
use Rattle.run_rules.specs.declared.client.Heard.{Heard}
use Rattle.run_rules.specs.declared.client.Heard.TheVariants as heard
use Rattle.run_rules.specs.declared.switch.Out.{Out}
use Rattle.run_rules.specs.declared.switch.Out.TheVariants.{Nothing}
use Rattle.run_rules.specs.Outcome.{Begin, Ready, Ended, DivZero}
use Rattle.run_rules.specs.Client.{ask, asked_by, tick, resend, is_stale, next_round, hear, hear_ending}
use Rattle.run_rules.specs.Switch.{sent_to, route, next_leg, pass_back, is_known}
use Rattle.run_rules.proofs.Finds.{by_bool}
use Rattle.run_views.specs.Setting.{Setting, pad_size, BeginKeeps, IsSetting, IsLegOf, IsBackOf}
use Rattle.run_views.specs.Clients.{terms_of, asked_leg, ticked_leg, heard_leg, IsAskingOf}
use Rattle.run_views.specs.Switches.{switch_of}
use Rattle.run_views.specs.Keeps.{SentLegOf, OutOf, SwitchKeeps, ClientKeeps}

-- ---- the switch

sent_to_of : (u : Setting) (l : Leg) (o : Option ℕ) → IsLegOf u l → OutOf u (sent_to (switch_of u) l o)
sent_to_of u l (Some i) of = of
sent_to_of u l None of = (of.client, record { client = of.client; program = of.program; pad = of.pad })

route_of : (u : Setting) (l : Leg) → IsLegOf u l → OutOf u (route (switch_of u) l)
route_of u l of = sent_to_of u l (region_of u.table l.cur _) of

pass_of : (u : Setting) (b : Back) (e : Ending) → IsBackOf u b → OutOf u (pass_back (switch_of u) b e)
pass_of u b ending.Done of = (of.client, of)
pass_of u b ending.Resume of = (of.client, of)
pass_of u b (ending.Fault kind) of = (of.client, of)
pass_of u b ending.Reroute of = by_bool (nat_eq b.leg (2 ^ 32 - 1))
    (λ t. subst (λ z. OutOf u (if z then Nothing else route (switch_of u) (next_leg b))) (sym t) tt)
    (λ t. subst (λ z. OutOf u (if z then Nothing else route (switch_of u) (next_leg b))) (sym t) (route_of u (next_leg b) (record { client = of.client; program = of.program; pad = of.pad })))

known_of : (u : Setting) (b : Bool) (o : Out) → OutOf u o → OutOf u (if b then o else Nothing)
known_of u true o h = h
known_of u false o h = tt

pub switch_keeps : SwitchKeeps
switch_keeps u = (
  (λ l of. known_of u (is_known (switch_of u) l.client l.program) (route (switch_of u) l) (route_of u l of)),
  (λ b of. known_of u (is_known (switch_of u) b.client b.program) (pass_back (switch_of u) b b.ending) (pass_of u b b.ending of)),
)

-- ---- a client

begin_of : (u : Setting) (r : ℕ) (b : Begin) → BeginKeeps (pad_size u r) b → IsAskingOf u r (asked_by (terms_of u r) r (u.program r) b).0 × SentLegOf u (asked_leg (asked_by (terms_of u r) r (u.program r) b).1)
begin_of u r (Ready cur pad) h = ((refl, record { client = refl; program = refl; pad = h }), record { client = refl; program = refl; pad = h })
begin_of u r (Ended pad) h = (tt, tt)
begin_of u r DivZero h = (tt, tt)

ask_of : (u : Setting) (r : ℕ) (a : Asking) → IsSetting u → IsAskingOf u r a → IsAskingOf u r (ask (terms_of u r) r (u.program r) (u.begin r) a).0 × SentLegOf u (asked_leg (ask (terms_of u r) r (u.program r) (u.begin r) a).1)
ask_of u r NotAsked set h = begin_of u r (u.begin r) (set.begins r)
ask_of u r (Waiting l accepted ticks) set h = (h, tt)
ask_of u r (Answered a) set h = (h, tt)

abbrev tick_out : Leg → (accepted ticks : ℕ) → Bool → Asking × Ticked
tick_out l accepted ticks b = if b then (Answered answer.Silent, ticked.Silent) else (Waiting l accepted (ticks + 1), ticked.Resent l)

tick_by : (u : Setting) (r : ℕ) (l : Leg) (accepted ticks : ℕ) (b : Bool) → (l.request ≡ r) × IsLegOf u l → IsAskingOf u r (tick_out l accepted ticks b).0 × SentLegOf u (ticked_leg (tick_out l accepted ticks b).1)
tick_by u r l accepted ticks true h = (tt, tt)
tick_by u r l accepted ticks false h = (h, h.1)

tick_of : (u : Setting) (r : ℕ) (a : Asking) → IsAskingOf u r a → IsAskingOf u r (tick (terms_of u r) a).0 × SentLegOf u (ticked_leg (tick (terms_of u r) a).1) × SentLegOf u (resend a)
tick_of u r NotAsked h = (h, tt, tt)
tick_of u r (Answered a) h = (h, tt, tt)
tick_of u r (Waiting l accepted ticks) h = let x = tick_by u r l accepted ticks (nat_le u.tries ticks) h in (x.0, x.1, h.1)

abbrev resumed_out : Setting → ℕ → Back → Leg → (accepted ticks : ℕ) → (last full : Bool) → Asking × Heard
resumed_out u r b l accepted ticks last full =
    if last then (Waiting l accepted ticks, heard.Stale)
    else (if full then (Answered (answer.Spent (u.rounds * u.budget)), heard.Answered) else (Waiting (next_round (terms_of u r) b) (accepted + 1) 0, heard.Sent (next_round (terms_of u r) b)))

resumed_of : (u : Setting) (r : ℕ) (b : Back) (l : Leg) (accepted ticks : ℕ) (last full : Bool) → IsBackOf u b → b.request ≡ r → (l.request ≡ r) × IsLegOf u l
    → IsAskingOf u r (resumed_out u r b l accepted ticks last full).0 × SentLegOf u (heard_leg (resumed_out u r b l accepted ticks last full).1)
resumed_of u r b l accepted ticks true full of e h = (h, tt)
resumed_of u r b l accepted ticks false true of e h = (tt, tt)
resumed_of u r b l accepted ticks false false of e h =
    let x : IsLegOf u (next_round (terms_of u r) b) = record { client = of.client; program = of.program; pad = of.pad } in ((e, x), x)

ending_of : (u : Setting) (r : ℕ) (b : Back) (l : Leg) (accepted ticks : ℕ) (x : Ending) → IsBackOf u b → b.request ≡ r → (l.request ≡ r) × IsLegOf u l
    → IsAskingOf u r (hear_ending (terms_of u r) b (Waiting l accepted ticks) accepted x).0 × SentLegOf u (heard_leg (hear_ending (terms_of u r) b (Waiting l accepted ticks) accepted x).1)
ending_of u r b l accepted ticks ending.Done of e h = (tt, tt)
ending_of u r b l accepted ticks (ending.Fault kind) of e h = (tt, tt)
ending_of u r b l accepted ticks ending.Reroute of e h = (h, tt)
ending_of u r b l accepted ticks ending.Resume of e h = resumed_of u r b l accepted ticks (nat_eq b.leg (2 ^ 32 - 1)) (nat_eq (accepted + 1) u.rounds) of e h

abbrev hear_out : Setting → ℕ → Back → Leg → (accepted ticks : ℕ) → Bool → Asking × Heard
hear_out u r b l accepted ticks stale = if stale then (Waiting l accepted ticks, heard.Stale) else hear_ending (terms_of u r) b (Waiting l accepted ticks) accepted b.ending

hear_by : (u : Setting) (r : ℕ) (b : Back) (l : Leg) (accepted ticks : ℕ) (stale : Bool) → IsBackOf u b → b.request ≡ r → (l.request ≡ r) × IsLegOf u l
    → IsAskingOf u r (hear_out u r b l accepted ticks stale).0 × SentLegOf u (heard_leg (hear_out u r b l accepted ticks stale).1)
hear_by u r b l accepted ticks true of e h = (h, tt)
hear_by u r b l accepted ticks false of e h = ending_of u r b l accepted ticks b.ending of e h

hear_of : (u : Setting) (r : ℕ) (a : Asking) → IsAskingOf u r a → (b : Back) → IsBackOf u b → b.request ≡ r → IsAskingOf u r (hear (terms_of u r) b a).0 × SentLegOf u (heard_leg (hear (terms_of u r) b a).1)
hear_of u r NotAsked h b of e = (h, tt)
hear_of u r (Answered a) h b of e = (h, tt)
hear_of u r (Waiting l accepted ticks) h b of e = hear_by u r b l accepted ticks (is_stale (terms_of u r) l b) of e h

pub client_keeps : ClientKeeps
client_keeps u r a set h = (ask_of u r a set h, tick_of u r a h, (λ b of e. hear_of u r a h b of e))
