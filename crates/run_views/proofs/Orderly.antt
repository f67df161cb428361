-- A node stays orderly in a turn of any live leg.
use Rattle.std.proofs.Common.{◌≡◌, ◌≢◌, suc, ◌≤◌, List, [], ◌∷◌, length, Some, None, sym, ap, ◌∙◌, subst, arith, if◌then◌else◌, length-append}
use Rattle.std.specs.FinMap as m
use Rattle.leg_ledger.specs.declared.leg.LegKey.{LegKey}
use Rattle.leg_ledger.proofs.Keys.{get_other}
use Rattle.run_rules.specs.declared.node.LiveLeg.{LiveLeg}
use Rattle.run_rules.specs.declared.node.Fate.{Fate}
use Rattle.run_rules.specs.declared.node.Fate.TheVariants as fate
use Rattle.run_rules.specs.Node.{NodeState, key_of, same_key, find_live}
use Rattle.run_rules.specs.Turning.{without, settled}
use Rattle.run_rules.specs.Waiting.{Each, Apart, IsOpen, IsOrderly}
use Rattle.run_rules.proofs.Finds.{by_bool, none_has, each_to, each_both, each_append}
use Rattle.run_rules.proofs.Starting.{apart_end}
use Rattle.run_views.proofs.Slots.{without_self}

pub each_without : (P : LiveLeg → Type 0) (es : List LiveLeg) (k : LegKey) → Each P es → Each P (without es k)
each_without P [] k h = tt
each_without P (y ∷ es) k h = by_bool (same_key k (key_of y.leg))
    (λ t. subst (λ b. Each P (if b then es else y ∷ without es k)) (sym t) h.1)
    (λ t. subst (λ b. Each P (if b then es else y ∷ without es k)) (sym t) (h.0, each_without P es k h.1))

apart_without : (es : List LiveLeg) (k : LegKey) → Apart es → Apart (without es k)
apart_without [] k h = tt
apart_without (y ∷ es) k h = by_bool (same_key k (key_of y.leg))
    (λ t. subst (λ b. Apart (if b then es else y ∷ without es k)) (sym t) h.1)
    (λ t. subst (λ b. Apart (if b then es else y ∷ without es k)) (sym t) (each_without (λ f. key_of y.leg ≢ key_of f.leg) es k h.0, apart_without es k h.1))

fewer : (es : List LiveLeg) (k : LegKey) (e : LiveLeg) → find_live es k ≡ Some e → suc (length (without es k)) ≡ length es
fewer [] k e f = absurd (cc)
fewer (y ∷ es) k e f = by_bool (same_key k (key_of y.leg))
    (λ t. ap (λ b. suc (length (if b then es else y ∷ without es k))) t)
    (λ t. ap (λ b. suc (length (if b then es else y ∷ without es k))) t ∙ ap suc (fewer es k e (sym (ap (λ b. if b then Some y else find_live es k) t) ∙ f)))

-- what a fate that stays says of its leg
abbrev pub FateLeft : NodeState → LiveLeg → Fate → Type 0
FateLeft s e (fate.Stays l) = (1 ≤ l.left) × (key_of l ≡ key_of e.leg)
FateLeft s e (fate.Ends b) = Unit {0}

pub orderly_settled : (s : NodeState) (e : LiveLeg) (g : Fate) → IsOrderly s → find_live s.live (key_of e.leg) ≡ Some e → m.get s.kept (key_of e.leg) ≡ None → FateLeft s e g → IsOrderly (settled s e g)
orderly_settled s e (fate.Stays l) h found none f =
    let k = key_of e.leg in
    let x : LiveLeg = record { leg = l; region = e.region } in
    let others = none_has (without s.live k) k (without_self s.live k h.apart) in
    record {
      few = omega (arith, h.few, fewer s.live k e found, length-append (without s.live k) (x ∷ []));
      apart = apart_end (without s.live k) x (apart_without s.live k h.apart) (each_to _ _ (without s.live k) (λ y ne same. ne (same ∙ f.1)) others);
      live = each_append _ (without s.live k) (x ∷ []) (each_to (IsOpen s) (IsOpen (settled s e (fate.Stays l))) (without s.live k) (λ y o. (o.0, o.1)) (each_without (IsOpen s) s.live k h.live))
          ((f.0, ap (m.get s.kept) f.1 ∙ none), tt);
    }
orderly_settled s e (fate.Ends b) h found none f =
    let k = key_of e.leg in
    let others = none_has (without s.live k) k (without_self s.live k h.apart) in
    record {
      few = omega (arith, h.few, fewer s.live k e found);
      apart = apart_without s.live k h.apart;
      live = each_both (IsOpen s) _ (IsOpen (settled s e (fate.Ends b))) (without s.live k) (λ y o ne. (o.0, get_other s.kept k (key_of y.leg) _ ne ∙ o.1)) (each_without (IsOpen s) s.live k h.live) others;
    }
