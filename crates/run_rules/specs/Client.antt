-- A client: what it does with one of its requests. How the request's walk begins is handed in.
use Rattle.std.specs.Prelude.{ℕ, ◌+◌, ◌-◌, ◌*◌, ◌^◌, Bool, not, ◌||◌, List, length, Option, Some, None, nat_eq, nat_lt, nat_le, if◌then◌else◌}
use Rattle.pulse_base.specs.declared.answer.Answer.{Answer}
use Rattle.pulse_base.specs.declared.answer.Answer.TheVariants as answer
use Rattle.pulse_base.specs.declared.answer.FaultKind.TheVariants as fault
use Rattle.frame_codec.specs.declared.frame.Leg.{Leg}
use Rattle.frame_codec.specs.declared.frame.Back.{Back}
use Rattle.frame_codec.specs.declared.frame.Ending.{Ending}
use Rattle.frame_codec.specs.declared.frame.Ending.TheVariants as ending
use Rattle.run_rules.specs.declared.client.Terms.{Terms}
use Rattle.run_rules.specs.declared.client.Asking.{Asking}
use Rattle.run_rules.specs.declared.client.Asking.TheVariants.{NotAsked, Waiting, Answered}
use Rattle.run_rules.specs.declared.client.Asked.{Asked}
use Rattle.run_rules.specs.declared.client.Asked.TheVariants as asked
use Rattle.run_rules.specs.declared.client.Ticked.{Ticked}
use Rattle.run_rules.specs.declared.client.Ticked.TheVariants as ticked
use Rattle.run_rules.specs.declared.client.Heard.{Heard}
use Rattle.run_rules.specs.declared.client.Heard.TheVariants as heard
use Rattle.run_rules.specs.Outcome.{Begin, Ready, Ended, DivZero}

-- ---- rule 1: ask

-- the first leg of a request, with the full budget
abbrev pub first_leg : Terms → (request program cur : ℕ) (pad : List ℕ) → Leg
first_leg t request program cur pad = record { client = t.client; request = request; leg = 0; program = program; left = t.budget; cur = cur; pad = pad }

abbrev pub asked_by : Terms → (request program : ℕ) → Begin → Asking × Asked
asked_by t request program (Ready cur pad) = (Waiting (first_leg t request program cur pad) 0 0, asked.Sent (first_leg t request program cur pad))
asked_by t request program (Ended pad) = (Answered (answer.Done pad 0), asked.Answered)
asked_by t request program DivZero = (Answered (answer.Fault fault.DivZero 0 0), asked.Answered)

abbrev pub ask : Terms → (request program : ℕ) → Begin → Asking → Asking × Asked
ask t request program begin NotAsked = asked_by t request program begin
ask t request program begin (Waiting l accepted ticks) = (Waiting l accepted ticks, asked.Again)
ask t request program begin (Answered a) = (Answered a, asked.Again)

-- ---- rule 2: tick

abbrev pub tick : Terms → Asking → Asking × Ticked
tick t NotAsked = (NotAsked, ticked.Nothing)
tick t (Answered a) = (Answered a, ticked.Nothing)
tick t (Waiting l accepted ticks) =
    if nat_le t.tries ticks then (Answered answer.Silent, ticked.Silent) else (Waiting l accepted (ticks + 1), ticked.Resent l)

-- the current leg of a request that waits
abbrev pub resend : Asking → Option Leg
resend NotAsked = None
resend (Waiting l accepted ticks) = Some l
resend (Answered a) = None

-- ---- rules 3 to 5: a back

-- the iterations that took effect, at a back with so many left
abbrev pub count_at : Terms → (accepted left : ℕ) → ℕ
count_at t accepted left = accepted * t.budget + t.budget - left

-- the leg of the next round
abbrev pub next_round : Terms → Back → Leg
next_round t b = record { client = b.client; request = b.request; leg = b.leg + 1; program = b.program; left = t.budget; cur = b.cur; pad = b.pad }

-- rule 5, for a request that waits at this leg: another client, an older leg, another program, a pad of another
-- size, or more left than the budget
abbrev pub is_stale : Terms → Leg → Back → Bool
is_stale t l b =
    not (nat_eq b.client t.client) || (nat_lt b.leg l.leg || (not (nat_eq b.program l.program) || (not (nat_eq (length b.pad) (length l.pad)) || nat_lt t.budget b.left)))

-- rule 3: a Resume counts one round
abbrev pub resumed : Terms → Back → Asking → ℕ → Asking × Heard
resumed t b was accepted =
    if nat_eq b.leg (2 ^ 32 - 1) then (was, heard.Stale)
    else (if nat_eq (accepted + 1) t.rounds then (Answered (answer.Spent (t.rounds * t.budget)), heard.Answered)
    else (Waiting (next_round t b) (accepted + 1) 0, heard.Sent (next_round t b)))

-- rule 4: Done and Fault are the answer; a Reroute is stale
abbrev pub hear_ending : Terms → Back → Asking → ℕ → Ending → Asking × Heard
hear_ending t b was accepted ending.Done = (Answered (answer.Done b.pad (count_at t accepted b.left)), heard.Answered)
hear_ending t b was accepted (ending.Fault kind) = (Answered (answer.Fault kind b.cur (count_at t accepted b.left)), heard.Answered)
hear_ending t b was accepted ending.Resume = resumed t b was accepted
hear_ending t b was accepted ending.Reroute = (was, heard.Stale)

abbrev pub hear : Terms → Back → Asking → Asking × Heard
hear t b NotAsked = (NotAsked, heard.Stale)
hear t b (Answered a) = (Answered a, heard.Stale)
hear t b (Waiting l accepted ticks) =
    if is_stale t l b then (Waiting l accepted ticks, heard.Stale) else hear_ending t b (Waiting l accepted ticks) accepted b.ending

-- ---- what is told of a request

abbrev pub answer_of : Asking → Answer
answer_of NotAsked = answer.Unasked
answer_of (Waiting l accepted ticks) = answer.Waiting
answer_of (Answered a) = a
