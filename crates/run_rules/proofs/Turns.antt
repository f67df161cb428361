-- A turn of the first live leg: what stands after it, and that a node stays orderly.
use Rattle.std.proofs.Common.{◌≡◌, ◌≢◌, ℕ, ◌+◌, ◌-◌, ◌≤◌, List, [], ◌∷◌, ◌++◌, length, Option, Some, None, refl, sym, ap, ◌∙◌, subst, arith, nat_eq, if◌then◌else◌, length-append}
use Rattle.std.specs.FinMap as m
use Rattle.pulse_base.specs.declared.answer.FaultKind.TheVariants as fault
use Rattle.range_table.specs.Memory.{may_read}
use Rattle.frame_codec.specs.declared.frame.Leg.{Leg}
use Rattle.frame_codec.specs.declared.frame.Back.{Back}
use Rattle.frame_codec.specs.declared.frame.Ending.TheVariants as ending
use Rattle.leg_ledger.specs.declared.leg.LegKey.{LegKey}
use Rattle.leg_ledger.specs.declared.leg.Reply.{Reply}
use Rattle.leg_ledger.proofs.Keys.{get_other}
use Rattle.run_rules.specs.declared.node.LiveLeg.{LiveLeg}
use Rattle.run_rules.specs.declared.node.Fate.{Fate}
use Rattle.run_rules.specs.declared.node.Fate.TheVariants.{Stays, Ends}
use Rattle.run_rules.specs.Outcome.{Outcome, Done, Goes, Faults}
use Rattle.run_rules.specs.Node.{NodeState, Kept, key_of, back_of, find_live, spans_of, place_of}
use Rattle.run_rules.specs.Turning.{moved, fate_at, fate_of, stored, without, settled, turn_of, turn}
use Rattle.run_rules.specs.Waiting.{Each, Apart, IsOpen, IsOrderly}
use Rattle.run_rules.proofs.Finds.{by_bool, key_self, find_first, find_none, each_to, each_both, each_append}
use Rattle.run_rules.proofs.Starting.{apart_end}

abbrev pub live_after : LiveLeg → List LiveLeg → Fate → List LiveLeg
live_after e es (Stays l) = es ++ record { leg = l; region = e.region } ∷ []
live_after e es (Ends b) = es

abbrev pub kept_after : Kept → LiveLeg → Fate → Kept
kept_after kept e (Stays l) = kept
kept_after kept e (Ends b) = m.insert kept (key_of e.leg) (record { back = b; region = e.region })

-- what a turn of the first live leg leaves
pub record Turned (n t : NodeState) (e : LiveLeg) (es : List LiveLeg) (f : Fate) : Type 0 where
  pub live : t.live ≡ live_after e es f
  pub kept : t.kept ≡ kept_after n.kept e f
  pub slots : t.slots ≡ n.slots

without_first : (e : LiveLeg) (es : List LiveLeg) → without (e ∷ es) (key_of e.leg) ≡ es
without_first e es = ap (λ b. if b then es else e ∷ without es (key_of e.leg)) (key_self (key_of e.leg))

settled_first : (n : NodeState) (e : LiveLeg) (es : List LiveLeg) (f : Fate) → n.live ≡ e ∷ es → Turned n (settled n e f) e es f
settled_first n e es (Stays l) s = record { live = ap (λ z. z ++ record { leg = l; region = e.region } ∷ []) (ap (λ z. without z (key_of e.leg)) s ∙ without_first e es); kept = refl; slots = refl }
settled_first n e es (Ends b) s = record { live = ap (λ z. without z (key_of e.leg)) s ∙ without_first e es; kept = refl; slots = refl }

stored_first : (n : NodeState) (e : LiveLeg) (es : List LiveLeg) (o : Outcome) (p : Option ℕ) (f : Fate) → n.live ≡ e ∷ es → Turned n (settled (stored n e.leg o p) e f) e es f
stored_first n e es o None f s = settled_first n e es f s
stored_first n e es o (Some i) f s = let t = settled_first (stored n e.leg o (Some i)) e es f s in record { live = t.live; kept = t.kept; slots = t.slots }

-- the turn of the first live leg
pub turn_is : (n : NodeState) (e : LiveLeg) (es : List LiveLeg) (o : Outcome) → n.live ≡ e ∷ es → turn n (key_of e.leg) o ≡ turn_of n (Some e) o
turn_is n e es o s = ap (λ z. turn_of n z o) (ap (λ z. find_live z (key_of e.leg)) s ∙ find_first e es)

pub turned : (n : NodeState) (e : LiveLeg) (es : List LiveLeg) (o : Outcome) → n.live ≡ e ∷ es → Turned n (turn n (key_of e.leg) o).0 e es (fate_of n e.leg o)
turned n e es o s = subst (λ (t : NodeState × Option Back). Turned n t.0 e es (fate_of n e.leg o)) (sym (turn_is n e es o s)) (stored_first n e es o (place_of n e.leg) (fate_of n e.leg o) s)

-- a leg that stays has one iteration less left, and at least one
pub record StaysAs (x l : Leg) : Type 0 where
  pub left : l.left + 1 ≡ x.left
  pub some : 1 ≤ l.left
  pub same : key_of l ≡ key_of x

stays_at : (n : NodeState) (y l : Leg) (o : Option ℕ) → fate_at n y o ≡ Stays l → y ≡ l
stays_at n y l None e = absurd (cc)
stays_at n y l (Some i) e = by_bool (may_read (spans_of n.regions) i)
    (λ t. let c : Stays y ≡ Stays l = sym (ap (λ b. if b then Stays y else Ends (back_of y (ending.Fault fault.NotReadable))) t) ∙ e in cc)
    (λ f. let c : Ends (back_of y (ending.Fault fault.NotReadable)) ≡ Stays l = sym (ap (λ b. if b then Stays y else Ends (back_of y (ending.Fault fault.NotReadable))) f) ∙ e in absurd (cc))

pub stays_as : (n : NodeState) (x : Leg) (o : Outcome) (l : Leg) → 1 ≤ x.left → fate_of n x o ≡ Stays l → StaysAs x l
stays_as n x (Faults c) l left e = absurd (cc)
stays_as n x (Done bytes pad) l left e = absurd (cc)
stays_as n x (Goes to bytes pad) l left e = by_bool (nat_eq (x.left - 1) 0)
    (λ t. let c : Ends (back_of (moved x to pad) ending.Resume) ≡ Stays l = sym (ap (λ b. if b then Ends (back_of (moved x to pad) ending.Resume) else fate_at n (moved x to pad) (place_of n (moved x to pad))) t) ∙ e in absurd (cc))
    (λ f. let same : moved x to pad ≡ l = stays_at n (moved x to pad) l (place_of n (moved x to pad)) (sym (ap (λ b. if b then Ends (back_of (moved x to pad) ending.Resume) else fate_at n (moved x to pad) (place_of n (moved x to pad))) f) ∙ e) in
    subst (λ (z : Leg). StaysAs x z) same (record { left = omega (arith, left); some = grind (arith, f, left); same = refl }))

-- a node stays orderly
flip : (e : LiveLeg) (es : List LiveLeg) (q : LegKey) → q ≡ key_of e.leg → Each (λ f. key_of e.leg ≢ key_of f.leg) es → Each (λ f. key_of f.leg ≢ q) es
flip e es q k = each_to _ _ es (λ f ne s. ne (sym (s ∙ k)))

orderly_by : (n t : NodeState) (e : LiveLeg) (es : List LiveLeg) (f : Fate) → IsOrderly n → n.live ≡ e ∷ es → ((l : Leg) → f ≡ Stays l → StaysAs e.leg l) → Turned n t e es f → IsOrderly t
orderly_by n t e es (Stays l) h s stays u =
    let as' = stays l refl in
    let x : LiveLeg = record { leg = l; region = e.region } in
    let apart : Apart (e ∷ es) = subst Apart s h.apart in
    let live : Each (IsOpen n) (e ∷ es) = subst (Each (IsOpen n)) s h.live in
    let open' : (y : LiveLeg) → IsOpen n y → IsOpen t y = λ y o. (o.0, ap (λ k. m.get k (key_of y.leg)) u.kept ∙ o.1) in
    record {
      few = omega (arith, h.few, u.slots, ap length s, ap length u.live, length-append es (x ∷ []));
      apart = subst Apart (sym u.live) (apart_end es x apart.1 (flip e es (key_of l) as'.same apart.0));
      live = subst (Each (IsOpen t)) (sym u.live) (each_append _ es (x ∷ []) (each_to (IsOpen n) (IsOpen t) es open' live.1)
          ((as'.some, ap (λ k. m.get k (key_of l)) u.kept ∙ ap (m.get n.kept) as'.same ∙ live.0.1), tt));
    }
orderly_by n t e es (Ends b) h s stays u =
    let apart : Apart (e ∷ es) = subst Apart s h.apart in
    let live : Each (IsOpen n) (e ∷ es) = subst (Each (IsOpen n)) s h.live in
    record {
      few = omega (arith, h.few, u.slots, ap length s, ap length u.live);
      apart = subst Apart (sym u.live) apart.1;
      live = subst (Each (IsOpen t)) (sym u.live) (each_both (IsOpen n) _ (IsOpen t) es
          (λ y o ne. (o.0, ap (λ k. m.get k (key_of y.leg)) u.kept ∙ get_other n.kept (key_of e.leg) (key_of y.leg) _ ne ∙ o.1)) live.1 (flip e es (key_of e.leg) refl apart.0));
    }

pub orderly_turn : (n : NodeState) (e : LiveLeg) (es : List LiveLeg) (o : Outcome) → IsOrderly n → n.live ≡ e ∷ es → IsOrderly (turn n (key_of e.leg) o).0
orderly_turn n e es o h s =
    let live : Each (IsOpen n) (e ∷ es) = subst (Each (IsOpen n)) s h.live in
    orderly_by n _ e es (fate_of n e.leg o) h s (λ l k. stays_as n e.leg o l live.0.0 k) (turned n e es o s)

-- no leg whose reply is kept is live
pub kept_not_live : (n : NodeState) (es : List LiveLeg) (q : LegKey) (r : Reply) → Each (IsOpen n) es → m.get n.kept q ≡ Some r → find_live es q ≡ None
kept_not_live n es q r h k = find_none es q (each_to (IsOpen n) _ es (λ e o s. let c : None ≡ Some r = sym o.1 ∙ ap (m.get n.kept) s ∙ k in cc) h)

-- a kept reply stays in a turn
kept_by : (n t : NodeState) (e : LiveLeg) (es : List LiveLeg) (f : Fate) (q : LegKey) (r : Reply) → Turned n t e es f → (q ≡ key_of e.leg → ⊥) → m.get n.kept q ≡ Some r → m.get t.kept q ≡ Some r
kept_by n t e es (Stays l) q r u ne k = ap (λ z. m.get z q) u.kept ∙ k
kept_by n t e es (Ends b) q r u ne k = ap (λ z. m.get z q) u.kept ∙ get_other n.kept (key_of e.leg) q _ ne ∙ k

pub kept_turn : (n : NodeState) (e : LiveLeg) (es : List LiveLeg) (o : Outcome) (q : LegKey) (r : Reply) → IsOrderly n → n.live ≡ e ∷ es → m.get n.kept q ≡ Some r → m.get (turn n (key_of e.leg) o).0.kept q ≡ Some r
kept_turn n e es o q r h s k =
    let live : Each (IsOpen n) (e ∷ es) = subst (Each (IsOpen n)) s h.live in
    kept_by n _ e es (fate_of n e.leg o) q r (turned n e es o s) (λ same. let c : None ≡ Some r = sym live.0.1 ∙ ap (m.get n.kept) (sym same) ∙ k in cc) k
