-- A node that accepts a leg of its request does as the laws of runs say.
use Rattle.std.proofs.Common.{◌≡◌, ℕ, zero, suc, ◌<◌, ◌≤◌, ◌⊎◌, inl, inr, true, false, not, List, [], ◌∷◌, length, Option, Some, None, refl, sym, ap, ◌∙◌, subst, arith, nat_eq, nat_le, if◌then◌else◌}
use Rattle.std.specs.Prelude.{slice_get, is_some}
use Rattle.std.specs.FinMap as m
use Rattle.pulse_base.specs.declared.answer.FaultKind.TheVariants as fault
use Rattle.range_table.specs.Memory.{may_read}
use Rattle.frame_codec.specs.declared.frame.Leg.{Leg}
use Rattle.frame_codec.specs.declared.frame.Ending.TheVariants as ending
use Rattle.leg_ledger.specs.declared.leg.Reply.{Reply}
use Rattle.run_rules.specs.declared.node.ProgramSizes.{ProgramSizes}
use Rattle.run_rules.specs.declared.node.LiveLeg.{LiveLeg}
use Rattle.run_rules.specs.declared.node.Accepted.{Accepted}
use Rattle.run_rules.specs.declared.node.Accepted.TheVariants.{Foreign, Answer, Running, Elsewhere, Full, Started, Memory}
use Rattle.run_rules.specs.Node.{NodeState, key_of, back_of, same_key, find_live, spans_of, place_of, region_at}
use Rattle.run_rules.specs.Accepting.{foreign_by, is_foreign, answer_at, answer_by, answer_to, started, after_answer}
use Rattle.run_rules.specs.Waiting.{Each, IsOpen}
use Rattle.run_rules.proofs.Finds.{by_bool, find_first}
use Rattle.run_rules.proofs.Starting.{MayStart, may_start}
use Rattle.run_laws.specs.Plan as p
use Rattle.run_laws.specs.Node as n
use Rattle.run_views.specs.Frames.{leg_view, back_view}
use Rattle.run_views.specs.Setting.{Setting, plan_of, pad_in, IsSetting, IsLegOf}
use Rattle.run_views.specs.Nodes.{slot_by, slot_in, key_for, node_view, accepted_view, IsLiveOf, IsNodeOf}
use Rattle.run_views.specs.Laws.{AcceptSeen}
use Rattle.run_views.proofs.Shares.{arrival_at, arrives}
use Rattle.run_views.proofs.Slots.{key_is, keys_same, view_slot, started_slot}

-- ---- no leg of its request is foreign

get_some : (xs : List ProgramSizes) (k : ℕ) → k < length xs → (x : ProgramSizes) × (slice_get xs k ≡ Some x)
get_some [] k h = absurd (omega (arith, h))
get_some (x ∷ xs) zero h = (x, refl)
get_some (x ∷ xs) (suc k) h = get_some xs k (omega (arith, h))

pub not_foreign : (u : Setting) (s : NodeState) (l : Leg) → IsSetting u → s.sizes ≡ u.sizes → IsLegOf u l → is_foreign s l ≡ false
not_foreign u s l set e of =
    let x = get_some u.sizes (u.program l.request) (set.programs l.request) in
    let pad : length l.pad ≡ x.0.pad_size = of.pad ∙ ap pad_in x.1 in
    let same : nat_eq (length l.pad) x.0.pad_size ≡ true = grind (arith, pad) in
    (λ i. foreign_by l (slice_get (e i) (of.program i))) ∙ ap (foreign_by l) x.1 ∙ ap not same

-- ---- what each answer says

AnswerFacts : NodeState → Leg → Accepted → Type 0
AnswerFacts s l Foreign = ⊥
AnswerFacts s l (Answer b) = (slot_in s (key_of l) ≡ n.Kept (back_view b)) ⊎ ((arrival_at s (place_of s l) ≡ p.Barred) × (b ≡ back_of l (ending.Fault fault.NotReadable)))
AnswerFacts s l Running = (e : LiveLeg) × (slot_in s (key_of l) ≡ n.Running (leg_view e.leg).now)
AnswerFacts s l Elsewhere = place_of s l ≡ None
AnswerFacts s l Full = s.slots ≤ length s.live
AnswerFacts s l Started = Unit {0}
AnswerFacts s l Memory = ⊥

facts_at : (s : NodeState) (l : Leg) (o : Option ℕ) → place_of s l ≡ o → AnswerFacts s l (answer_at s l o)
unfolding AnswerFacts
facts_at s l None e = e
facts_at s l (Some i) e = by_bool (may_read (spans_of s.regions) i)
    (λ t. subst (λ b. AnswerFacts s l (if b then (if nat_le s.slots (length s.live) then Full else Started) else Answer (back_of l (ending.Fault fault.NotReadable)))) (sym t)
    (by_bool (nat_le s.slots (length s.live))
    (λ q. subst (λ b. AnswerFacts s l (if b then Full else Started)) (sym q) (le_of s.slots (length s.live) q))
    (λ q. subst (λ b. AnswerFacts s l (if b then Full else Started)) (sym q) tt)))
    (λ t. subst (λ b. AnswerFacts s l (if b then (if nat_le s.slots (length s.live) then Full else Started) else Answer (back_of l (ending.Fault fault.NotReadable)))) (sym t)
    (inr (ap (arrival_at s) e ∙ ap (λ b. if b then p.Here (region_at s i).number else p.Barred) t, refl)))
  where
    le_of : (a b : ℕ) → nat_le a b ≡ true → a ≤ b
    le_of a b e = grind (arith, e)

some_of : (o : Option LiveLeg) → is_some o ≡ true → (x : LiveLeg) × (o ≡ Some x)
some_of None e = absurd (cc)
some_of (Some x) e = (x, refl)

facts_by : (s : NodeState) (l : Leg) (o : Option Reply) → m.get s.kept (key_of l) ≡ o → AnswerFacts s l (answer_by s l o)
unfolding AnswerFacts
facts_by s l (Some reply) e = inl (ap (λ o. slot_by o (find_live s.live (key_of l))) e)
facts_by s l None e = by_bool (is_some (find_live s.live (key_of l)))
    (λ t. subst (λ b. AnswerFacts s l (if b then Running else answer_at s l (place_of s l))) (sym t)
    (let x = some_of (find_live s.live (key_of l)) t in (x.0, (λ i. slot_by (e i) (x.1 i)))))
    (λ t. subst (λ b. AnswerFacts s l (if b then Running else answer_at s l (place_of s l))) (sym t) (facts_at s l (place_of s l) refl))

facts : (s : NodeState) (l : Leg) → is_foreign s l ≡ false → AnswerFacts s l (answer_to s l)
facts s l f = subst (λ b. AnswerFacts s l (if b then Foreign else answer_by s l (m.get s.kept (key_of l)))) (sym f) (facts_by s l (m.get s.kept (key_of l)) refl)

-- ---- each answer

-- a full node is busy
busy : (u : Setting) (s : NodeState) (live : List LiveLeg) → s.live ≡ live → Each (IsOpen s) live → Each (IsLiveOf u s) live → 1 ≤ length live → n.IsBusy (node_view u s)
busy u s [] e o h some = absurd (omega (arith, some))
busy u s (x ∷ es) e o h some = record {
  request = x.leg.request;
  leg = x.leg.leg;
  now = (leg_view x.leg).now;
  runs = view_slot u s x.leg (n.Running (leg_view x.leg).now) h.0.leg.client
      ((λ i. slot_by (o.0.1 i) (find_live (e i) (key_of x.leg))) ∙ ap (slot_by None) (find_first x es));
}

started_view : (u : Setting) (s : NodeState) (l : Leg) → l.client ≡ u.client l.request → MayStart s l → node_view u (started s l) ≡ n.with_slot (node_view u s) l.request l.leg (n.Running (leg_view l).now)
started_view u s l e h = λ z. record {
  slot = λ q j. (started_slot s l h (key_for u q j)
      ∙ ap (λ b. if b then n.Running (leg_view l).now else slot_in s (key_for u q j)) (ap (same_key (key_for u q j)) (key_is u l e) ∙ keys_same u q j l.request l.leg)) z;
  bytes = λ i. (node_view u s).bytes i;
}

accepts_by : (u : Setting) (i : ℕ) (s : NodeState) (l : Leg) (a : Accepted) → IsNodeOf u i s → IsLegOf u l → p.arrive_on (plan_of u) i l.request l.cur ≡ arrival_at s (place_of s l) → answer_to s l ≡ a → AnswerFacts s l a
    → n.Accepts (plan_of u) i (node_view u s) (node_view u (after_answer a s l)) (leg_view l) (accepted_view a)
unfolding AnswerFacts
accepts_by u i s l Foreign h of arrive e f = f
accepts_by u i s l (Answer b) h of arrive e f = (refl, answer f)
  where
    answer : ((slot_in s (key_of l) ≡ n.Kept (back_view b)) ⊎ ((arrival_at s (place_of s l) ≡ p.Barred) × (b ≡ back_of l (ending.Fault fault.NotReadable))))
        → (((node_view u s).slot l.request l.leg ≡ n.Kept (back_view b)) ⊎ ((p.arrive_on (plan_of u) i l.request l.cur ≡ p.Barred) × (back_view b ≡ p.back_of l.request l.leg (leg_view l).now (p.Fault p.NotReadable))))
    answer (inl x) = inl (view_slot u s l (n.Kept (back_view b)) of.client x)
    answer (inr x) = inr (arrive ∙ x.0, ap back_view x.1)
accepts_by u i s l Running h of arrive e f = (refl, ((leg_view f.0.leg).now, view_slot u s l (n.Running (leg_view f.0.leg).now) of.client f.1))
accepts_by u i s l Elsewhere h of arrive e f = (refl, arrive ∙ ap (arrival_at s) f)
accepts_by u i s l Full h of arrive e f = (refl, busy u s s.live refl h.orderly.live h.live (let some = h.some in omega (arith, f, some)))
accepts_by u i s l Started h of arrive e f =
    let may = may_start s l e in (
      view_slot u s l n.Fresh of.client (λ j. slot_by (may.unkept j) (may.idle j)),
      ((region_at s may.place).number, arrive ∙ ap (arrival_at s) may.at ∙ ap (λ b. if b then p.Here (region_at s may.place).number else p.Barred) may.reads),
      started_view u s l of.client may,
    )
accepts_by u i s l Memory h of arrive e f = absurd f

pub accept_seen : AcceptSeen
accept_seen u i s l set h of =
    accepts_by u i s l (answer_to s l) h of (arrives u i s l set h.share h.sizes of.program) refl (facts s l (not_foreign u s l set h.sizes of))
