-- What it means that a leg is started, and that a node stays orderly then.
use Rattle.std.proofs.Common.{◌≡◌, ◌≢◌, ℕ, ◌<◌, ◌≤◌, true, false, List, [], ◌∷◌, ◌++◌, length, Option, Some, None, is_some, refl, sym, ap, ◌∙◌, arith, nat_le, if◌then◌else◌, length-append}
use Rattle.std.specs.FinMap as m
use Rattle.pulse_base.specs.declared.answer.FaultKind.TheVariants as fault
use Rattle.range_table.specs.Memory.{may_read}
use Rattle.frame_codec.specs.declared.frame.Leg.{Leg}
use Rattle.frame_codec.specs.declared.frame.Ending.TheVariants as ending
use Rattle.leg_ledger.specs.declared.leg.Reply.{Reply}
use Rattle.run_rules.specs.declared.node.LiveLeg.{LiveLeg}
use Rattle.run_rules.specs.declared.node.Accepted.{Accepted}
use Rattle.run_rules.specs.declared.node.Accepted.TheVariants.{Foreign, Answer, Running, Elsewhere, Full, Started, Memory}
use Rattle.run_rules.specs.Node.{NodeState, key_of, back_of, find_live, spans_of, place_of}
use Rattle.run_rules.specs.Accepting.{is_foreign, answer_at, answer_by, answer_to, number_at, started, after_answer, accept}
use Rattle.run_rules.specs.Waiting.{Each, Apart, IsOpen, IsOrderly}
use Rattle.run_rules.proofs.Finds.{by_bool, none_has, each_to, each_append}

-- a leg may be started
pub record MayStart (n : NodeState) (l : Leg) : Type 0 where
  pub known : is_foreign n l ≡ false
  pub unkept : m.get n.kept (key_of l) ≡ None
  pub idle : find_live n.live (key_of l) ≡ None
  pub room : length n.live < n.slots
  pub place : ℕ
  pub at : place_of n l ≡ Some place
  pub reads : may_read (spans_of n.regions) place ≡ true

record Room (n : NodeState) (l : Leg) (o : Option ℕ) : Type 0 where
  room : length n.live < n.slots
  place : ℕ
  at : o ≡ Some place
  reads : may_read (spans_of n.regions) place ≡ true

has_room : (n : NodeState) (l : Leg) (o : Option ℕ) → answer_at n l o ≡ Started → Room n l o
has_room n l None e = absurd (cc)
has_room n l (Some i) e = by_bool (may_read (spans_of n.regions) i)
    (λ r. by_bool (nat_le n.slots (length n.live))
    (λ f. let c : Full ≡ Started = sym (ap (λ b. if b then (if nat_le n.slots (length n.live) then Full else Started) else Answer (back_of l (ending.Fault fault.NotReadable))) r ∙ ap (λ b. if b then Full else Started) f) ∙ e in absurd (cc))
    (λ f. record { room = grind (arith, f); place = i; at = refl; reads = r }))
    (λ r. let c : Answer (back_of l (ending.Fault fault.NotReadable)) ≡ Started = sym (ap (λ b. if b then (if nat_le n.slots (length n.live) then Full else Started) else Answer (back_of l (ending.Fault fault.NotReadable))) r) ∙ e in absurd (cc))

is_some_none : {A : Type 0} (o : Option A) → is_some o ≡ false → o ≡ None
is_some_none None e = refl
is_some_none (Some x) e = absurd (cc)

record New (n : NodeState) (l : Leg) (o : Option Reply) : Type 0 where
  unkept : o ≡ None
  idle : find_live n.live (key_of l) ≡ None
  room : Room n l (place_of n l)

is_new : (n : NodeState) (l : Leg) (o : Option Reply) → answer_by n l o ≡ Started → New n l o
is_new n l (Some r) e = absurd (cc)
is_new n l None e = by_bool (is_some (find_live n.live (key_of l)))
    (λ t. let c : Running ≡ Started = sym (ap (λ b. if b then Running else answer_at n l (place_of n l)) t) ∙ e in absurd (cc))
    (λ f. record { unkept = refl; idle = is_some_none (find_live n.live (key_of l)) f; room = has_room n l (place_of n l) (sym (ap (λ b. if b then Running else answer_at n l (place_of n l)) f) ∙ e) })

pub may_start : (n : NodeState) (l : Leg) → answer_to n l ≡ Started → MayStart n l
may_start n l e = by_bool (is_foreign n l)
    (λ t. let c : Foreign ≡ Started = sym (ap (λ b. if b then Foreign else answer_by n l (m.get n.kept (key_of l))) t) ∙ e in absurd (cc))
    (λ f. let new = is_new n l (m.get n.kept (key_of l)) (sym (ap (λ b. if b then Foreign else answer_by n l (m.get n.kept (key_of l))) f) ∙ e) in
    record { known = f; unkept = new.unkept; idle = new.idle; room = new.room.room; place = new.room.place; at = new.room.at; reads = new.room.reads })

pub apart_end : (es : List LiveLeg) (x : LiveLeg) → Apart es → Each (λ e. key_of e.leg ≢ key_of x.leg) es → Apart (es ++ x ∷ [])
apart_end [] x a f = (tt, tt)
apart_end (e ∷ es) x a f = (each_append _ es (x ∷ []) a.0 (f.0, tt), apart_end es x a.1 f.1)

pub orderly_started : (n : NodeState) (l : Leg) → IsOrderly n → 1 ≤ l.left → MayStart n l → IsOrderly (started n l)
orderly_started n l h left s = record {
  few = omega (arith, length-append n.live (record { leg = l; region = number_at n (place_of n l) } ∷ []), s.room);
  apart = apart_end n.live (record { leg = l; region = number_at n (place_of n l) }) h.apart (none_has n.live (key_of l) s.idle);
  live = each_append _ n.live (record { leg = l; region = number_at n (place_of n l) } ∷ []) (each_to (IsOpen n) (IsOpen (started n l)) n.live (λ e o. o) h.live) ((left, s.unkept), tt);
}

orderly_by : (n : NodeState) (l : Leg) (a : Accepted) → answer_to n l ≡ a → IsOrderly n → 1 ≤ l.left → IsOrderly (after_answer a n l)
orderly_by n l Started e h left = orderly_started n l h left (may_start n l e)
orderly_by n l Foreign e h left = h
orderly_by n l (Answer b) e h left = h
orderly_by n l Running e h left = h
orderly_by n l Elsewhere e h left = h
orderly_by n l Full e h left = h
orderly_by n l Memory e h left = h

pub orderly_accept : (n : NodeState) (l : Leg) → IsOrderly n → 1 ≤ l.left → IsOrderly (accept n l).0
orderly_accept n l h left = orderly_by n l (answer_to n l) refl h left

-- what is kept, and how many slots there are, stays
pub accept_kept : (n : NodeState) (l : Leg) (a : Accepted) → ((after_answer a n l).kept ≡ n.kept) × ((after_answer a n l).slots ≡ n.slots)
accept_kept n l Started = (refl, refl)
accept_kept n l Foreign = (refl, refl)
accept_kept n l (Answer b) = (refl, refl)
accept_kept n l Running = (refl, refl)
accept_kept n l Elsewhere = (refl, refl)
accept_kept n l Full = (refl, refl)
accept_kept n l Memory = (refl, refl)
