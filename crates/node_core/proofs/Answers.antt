-- What the rules answer to a leg that is known and new.
use Rattle.std.proofs.Common.{◌≡◌, ℕ, ◌<◌, ◌≤◌, true, false, nat_le, length, Option, Some, None, is_some, refl, sym, ap, ◌∙◌, if◌then◌else◌, arith}
use Rattle.std.specs.Prelude.{slice_get}
use Rattle.std.specs.FinMap as m
use Rattle.pulse_base.specs.declared.answer.FaultKind.TheVariants as fault
use Rattle.frame_codec.specs.declared.frame.Leg.{Leg}
use Rattle.frame_codec.specs.declared.frame.Ending.TheVariants as ending
use Rattle.run_rules.specs.declared.node.NodeRegion.{NodeRegion}
use Rattle.run_rules.specs.declared.node.Accepted.TheVariants.{Foreign, Answer, Running, Full, Started}
use Rattle.run_rules.specs.Node.{NodeState, key_of, back_of, find_live, place_of}
use Rattle.run_rules.specs.Accepting.{is_foreign, answer_at, answer_by, answer_to, number_at}
use Rattle.node_core.specs.inner.Starts.{MayStart}
use Rattle.node_core.proofs.Regions.{region_is, reads_is}

-- a leg that is known and new, at the place of its record
pub record IsNew (n : NodeState) (l : Leg) (o : Option ℕ) : Type 0 where
  pub known : is_foreign n l ≡ false
  pub unkept : m.get n.kept (key_of l) ≡ None
  pub idle : is_some (find_live n.live (key_of l)) ≡ false
  pub at : o ≡ place_of n l

pub answer_is : (n : NodeState) (l : Leg) (o : Option ℕ) → IsNew n l o → answer_to n l ≡ answer_at n l o
answer_is n l o w =
    ap (λ b. if b then Foreign else answer_by n l (m.get n.kept (key_of l))) w.known ∙ ap (answer_by n l) w.unkept
    ∙ ap (λ b. if b then Running else answer_at n l (place_of n l)) w.idle ∙ ap (answer_at n l) (sym w.at)

pub barred : (n : NodeState) (l : Leg) (o : Option ℕ) (i : ℕ) (r : NodeRegion) → IsNew n l o → o ≡ Some i → slice_get n.regions i ≡ Some r → r.span.read ≡ false → answer_to n l ≡ Answer (back_of l (ending.Fault fault.NotReadable))
barred n l o i r w e s f = answer_is n l o w ∙ ap (answer_at n l) e
    ∙ ap (λ b. if b then (if nat_le n.slots (length n.live) then Full else Started) else Answer (back_of l (ending.Fault fault.NotReadable))) (reads_is n.regions i r s ∙ f)

open_at : (n : NodeState) (l : Leg) (o : Option ℕ) (i : ℕ) (r : NodeRegion) → IsNew n l o → o ≡ Some i → slice_get n.regions i ≡ Some r → r.span.read ≡ true → answer_to n l ≡ (if nat_le n.slots (length n.live) then Full else Started)
open_at n l o i r w e s t = answer_is n l o w ∙ ap (answer_at n l) e
    ∙ ap (λ b. if b then (if nat_le n.slots (length n.live) then Full else Started) else Answer (back_of l (ending.Fault fault.NotReadable))) (reads_is n.regions i r s ∙ t)

pub full : (n : NodeState) (l : Leg) (o : Option ℕ) (i : ℕ) (r : NodeRegion) → IsNew n l o → o ≡ Some i → slice_get n.regions i ≡ Some r → r.span.read ≡ true → n.slots ≤ length n.live → answer_to n l ≡ Full
full n l o i r w e s t many = open_at n l o i r w e s t ∙ ap (λ b. if b then Full else Started) here
  where
    here : nat_le n.slots (length n.live) ≡ true
    here = grind (arith, many)

is_none : {A : Type 0} (o : Option A) → is_some o ≡ false → o ≡ None
is_none None e = refl
is_none (Some x) e = absurd (cc)

pub record Starts (n : NodeState) (l : Leg) (region : ℕ) : Type 0 where
  pub answer : answer_to n l ≡ Started
  pub number : number_at n (place_of n l) ≡ region
  pub may : MayStart n l

pub starts : (n : NodeState) (l : Leg) (o : Option ℕ) (i : ℕ) (r : NodeRegion) → IsNew n l o → o ≡ Some i → slice_get n.regions i ≡ Some r → r.span.read ≡ true → length n.live < n.slots → Starts n l r.number
starts n l o i r w e s t few = record {
  answer = open_at n l o i r w e s t ∙ ap (λ b. if b then Full else Started) here;
  number = ap (number_at n) (sym w.at ∙ e) ∙ ap (λ (x : NodeRegion). x.number) (region_is n i r s);
  may = record { known = w.known; unkept = w.unkept; idle = is_none (find_live n.live (key_of l)) w.idle; room = few; place = i; at = sym w.at ∙ e; reads = reads_is n.regions i r s ∙ t };
}
  where
    here : nat_le n.slots (length n.live) ≡ false
    here = grind (arith, few)
