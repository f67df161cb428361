-- A start and a turn change one slot of a node.
use Rattle.std.proofs.Common.{◌≡◌, ℕ, ◌&&◌, Bool, true, false, List, [], ◌∷◌, Some, None, refl, sym, ap, ◌∙◌, subst, arith, nat_eq, if◌then◌else◌, eqb-true}
use Rattle.std.specs.FinMap as m
use Rattle.frame_codec.specs.declared.frame.Leg.{Leg}
use Rattle.leg_ledger.specs.declared.leg.LegKey.{LegKey}
use Rattle.leg_ledger.proofs.Keys.{get_same, get_other}
use Rattle.run_rules.specs.declared.node.LiveLeg.{LiveLeg}
use Rattle.run_rules.specs.declared.node.Fate.{Fate}
use Rattle.run_rules.specs.declared.node.Fate.TheVariants as fate
use Rattle.run_rules.specs.Node.{NodeState, key_of, same_key, find_live, place_of}
use Rattle.run_rules.specs.Accepting.{number_at, started}
use Rattle.run_rules.specs.Turning.{without, settled}
use Rattle.run_rules.specs.Waiting.{Each, Apart}
use Rattle.run_rules.proofs.Finds.{by_bool, is_key, not_key, find_end, find_front, find_none, each_to}
use Rattle.run_rules.proofs.Starting.{MayStart}
use Rattle.run_laws.specs.Node as n
use Rattle.run_views.specs.Frames.{leg_view, back_view}
use Rattle.run_views.specs.Setting.{Setting}
use Rattle.run_views.specs.Nodes.{slot_by, slot_in, key_for}

-- ---- names

pub key_is : (u : Setting) (l : Leg) → l.client ≡ u.client l.request → key_of l ≡ key_for u l.request l.leg
key_is u l e = λ i. record { client = e i; request = l.request; leg = l.leg }

pub keys_same : (u : Setting) (q j r k : ℕ) → same_key (key_for u q j) (key_for u r k) ≡ (nat_eq q r && nat_eq j k)
keys_same u q j r k = by_bool (nat_eq q r)
    (λ t. let e : nat_eq (u.client q) (u.client r) ≡ true = ap (λ z. nat_eq (u.client z) (u.client r)) (eqb-true q r t) ∙ self (u.client r) in
    ap (λ b. b && (nat_eq q r && nat_eq j k)) e)
    (λ t. never (nat_eq (u.client q) (u.client r)) (nat_eq q r) (nat_eq j k) t)
  where
    self : (x : ℕ) → nat_eq x x ≡ true
    self x = grind arith

    never : (a b c : Bool) → b ≡ false → (a && (b && c)) ≡ (b && c)
    never a b c e = grind (arith, e)

-- the slot of a leg, by request and number
pub view_slot : (u : Setting) (s : NodeState) (l : Leg) (x : n.Slot) → l.client ≡ u.client l.request → slot_in s (key_of l) ≡ x → slot_in s (key_for u l.request l.leg) ≡ x
view_slot u s l x e h = ap (slot_in s) (sym (key_is u l e)) ∙ h

-- the leg that is found has the name, and what holds of each live leg
pub found_key : (es : List LiveLeg) (q : LegKey) (e : LiveLeg) → find_live es q ≡ Some e → q ≡ key_of e.leg
found_key [] q e f = absurd (cc)
found_key (y ∷ es) q e f = by_bool (same_key q (key_of y.leg))
    (λ t. let c : Some y ≡ Some e = sym (ap (λ b. if b then Some y else find_live es q) t) ∙ f in let d : y ≡ e = cc in is_key q (key_of y.leg) t ∙ ap (λ (z : LiveLeg). key_of z.leg) d)
    (λ t. found_key es q e (sym (ap (λ b. if b then Some y else find_live es q) t) ∙ f))

pub each_find : (P : LiveLeg → Type 0) (es : List LiveLeg) (q : LegKey) (e : LiveLeg) → find_live es q ≡ Some e → Each P es → P e
each_find P [] q e f h = absurd (cc)
each_find P (y ∷ es) q e f h = by_bool (same_key q (key_of y.leg))
    (λ t. let c : Some y ≡ Some e = sym (ap (λ b. if b then Some y else find_live es q) t) ∙ f in let d : y ≡ e = cc in subst P d h.0)
    (λ t. each_find P es q e (sym (ap (λ b. if b then Some y else find_live es q) t) ∙ f) h.1)

-- ---- a start

pub started_slot : (s : NodeState) (l : Leg) → MayStart s l → (q : LegKey) → slot_in (started s l) q ≡ (if same_key q (key_of l) then n.Running (leg_view l).now else slot_in s q)
started_slot s l h q =
    let x : LiveLeg = record { leg = l; region = number_at s (place_of s l) } in
    by_bool (same_key q (key_of l))
    (λ t. let same : q ≡ key_of l = is_key q (key_of l) t in
    let none : find_live s.live q ≡ None = ap (find_live s.live) same ∙ h.idle in
    (λ i. slot_by (m.get s.kept (same i)) (find_end s.live x q none t i)) ∙ ap (λ o. slot_by o (Some x)) h.unkept
    ∙ sym (ap (λ b. if b then n.Running (leg_view l).now else slot_in s q) t))
    (λ t. ap (slot_by (m.get s.kept q)) (find_front s.live x q t) ∙ sym (ap (λ b. if b then n.Running (leg_view l).now else slot_in s q) t))

-- ---- a turn

-- the live legs without one of them
pub without_other : (es : List LiveLeg) (k q : LegKey) → same_key q k ≡ false → find_live (without es k) q ≡ find_live es q
without_other [] k q ne = refl
without_other (y ∷ es) k q ne = by_bool (same_key k (key_of y.leg))
    (λ t. let same : k ≡ key_of y.leg = is_key k (key_of y.leg) t in
    ap (λ b. find_live (if b then es else y ∷ without es k) q) t ∙ sym (ap (λ b. if b then Some y else find_live es q) (ap (same_key q) (sym same) ∙ ne)))
    (λ t. ap (λ b. find_live (if b then es else y ∷ without es k) q) t ∙ ap (λ o. if same_key q (key_of y.leg) then Some y else o) (without_other es k q ne))

pub without_self : (es : List LiveLeg) (k : LegKey) → Apart es → find_live (without es k) k ≡ None
without_self [] k a = refl
without_self (y ∷ es) k a = by_bool (same_key k (key_of y.leg))
    (λ t. let same : k ≡ key_of y.leg = is_key k (key_of y.leg) t in
    ap (λ b. find_live (if b then es else y ∷ without es k) k) t ∙ find_none es k (each_to _ _ es (λ f ne e. ne (sym (e ∙ same))) a.0))
    (λ t. ap (λ b. find_live (if b then es else y ∷ without es k) k) t ∙ ap (λ b. if b then Some y else find_live (without es k) k) t ∙ without_self es k a.1)

-- the slot that a fate gives
abbrev pub fate_slot : Fate → n.Slot
fate_slot (fate.Stays l) = n.Running (leg_view l).now
fate_slot (fate.Ends b) = n.Kept (back_view b)

-- the fate is of the leg
abbrev pub FateNames : Fate → Leg → Type 0
FateNames (fate.Stays x) l = key_of x ≡ key_of l
FateNames (fate.Ends b) l = (b.request ≡ l.request) × (b.leg ≡ l.leg)

pub settled_slot : (s : NodeState) (e : LiveLeg) (f : Fate) → Apart s.live → m.get s.kept (key_of e.leg) ≡ None → FateNames f e.leg → (q : LegKey)
    → slot_in (settled s e f) q ≡ (if same_key q (key_of e.leg) then fate_slot f else slot_in s q)
settled_slot s e (fate.Stays l) apart none names q =
    let k = key_of e.leg in
    let x : LiveLeg = record { leg = l; region = e.region } in
    by_bool (same_key q k)
    (λ t. let same : q ≡ k = is_key q k t in
    let gone : find_live (without s.live k) q ≡ None = ap (find_live (without s.live k)) same ∙ without_self s.live k apart in
    (λ i. slot_by (m.get s.kept (same i)) (find_end (without s.live k) x q gone (ap (same_key q) names ∙ t) i)) ∙ ap (λ o. slot_by o (Some x)) none
    ∙ sym (ap (λ b. if b then n.Running (leg_view l).now else slot_in s q) t))
    (λ t. ap (slot_by (m.get s.kept q)) (find_front (without s.live k) x q (ap (same_key q) names ∙ t) ∙ without_other s.live k q t)
    ∙ sym (ap (λ b. if b then n.Running (leg_view l).now else slot_in s q) t))
settled_slot s e (fate.Ends b) apart none names q =
    let k = key_of e.leg in
    by_bool (same_key q k)
    (λ t. let same : q ≡ k = is_key q k t in
    (λ i. slot_by (m.get (m.insert s.kept k (record { back = b; region = e.region })) (same i)) (find_live (without s.live k) q)) ∙ ap (λ o. slot_by o (find_live (without s.live k) q)) (get_same s.kept k _)
    ∙ sym (ap (λ z. if z then n.Kept (back_view b) else slot_in s q) t))
    (λ t. (λ i. slot_by (get_other s.kept k q (record { back = b; region = e.region }) (not_key q k t) i) (without_other s.live k q t i))
    ∙ sym (ap (λ z. if z then n.Kept (back_view b) else slot_in s q) t))
