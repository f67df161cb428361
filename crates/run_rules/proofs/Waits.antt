-- The waits of live legs under the node's calls.
use Rattle.std.proofs.Common.{◌≡◌, ◌≢◌, ℕ, suc, ◌+◌, ◌-◌, ◌*◌, ◌≤◌, true, false, List, [], ◌∷◌, ◌++◌, length, Option, Some, None, option_map, ◌⊎◌, inl, inr, refl, sym, ap, ◌∙◌, subst, arith, if◌then◌else◌}
use Rattle.std.specs.FinMap as m
use Rattle.frame_codec.specs.declared.frame.Leg.{Leg}
use Rattle.leg_ledger.specs.declared.leg.LegKey.{LegKey}
use Rattle.leg_ledger.specs.declared.leg.Reply.{Reply}
use Rattle.leg_ledger.proofs.Keys.{get_same}
use Rattle.run_rules.specs.declared.node.LiveLeg.{LiveLeg}
use Rattle.run_rules.specs.declared.node.Accepted.{Accepted}
use Rattle.run_rules.specs.declared.node.Accepted.TheVariants.{Foreign, Answer, Running, Elsewhere, Full, Started, Memory}
use Rattle.run_rules.specs.declared.node.Fate.{Fate}
use Rattle.run_rules.specs.declared.node.Fate.TheVariants.{Stays, Ends}
use Rattle.run_rules.specs.Outcome.{Outcome}
use Rattle.run_rules.specs.Node.{NodeState, key_of, same_key, find_live, place_of}
use Rattle.run_rules.specs.Accepting.{answer_to, number_at, started, after_answer, accept}
use Rattle.run_rules.specs.Turning.{fate_of, turn}
use Rattle.run_rules.specs.Waiting.{wait_at, wait_from, wait, waits_from, rest, Move, Accepts, Turns, turn_first, moves, count_turns, HaveLeft, Each, Apart, IsOpen, IsOrderly, BoundedWait, StartedWait, TurnWait}
use Rattle.run_rules.proofs.Finds.{by_bool, is_key, key_self, other_key, find_none, none_has, each_to}
use Rattle.run_rules.proofs.Starting.{MayStart, may_start, orderly_accept, accept_kept}
use Rattle.run_rules.proofs.Turns.{Turned, live_after, turned, StaysAs, stays_as, orderly_turn, kept_not_live, kept_turn}

-- ---- places

later : (w p : ℕ) (es : List LiveLeg) (q : LegKey) → wait_from w (suc p) es q ≡ option_map suc (wait_from w p es q)
later w p [] q = refl
later w p (e ∷ es) q = by_bool (same_key q (key_of e.leg))
    (λ t. ap (λ b. if b then Some (wait_at w (suc p) e.leg) else wait_from w (suc (suc p)) es q) t ∙ ap Some more ∙ sym (ap (λ b. option_map suc (if b then Some (wait_at w p e.leg) else wait_from w (suc p) es q)) t))
    (λ f. ap (λ b. if b then Some (wait_at w (suc p) e.leg) else wait_from w (suc (suc p)) es q) f ∙ later w (suc p) es q ∙ sym (ap (λ b. option_map suc (if b then Some (wait_at w p e.leg) else wait_from w (suc p) es q)) f))
  where
    more : wait_at w (suc p) e.leg ≡ suc (wait_at w p e.leg)
    more = omega arith

at_front : (w p : ℕ) (es : List LiveLeg) (x : LiveLeg) (q : LegKey) → same_key q (key_of x.leg) ≡ false → wait_from w p (es ++ x ∷ []) q ≡ wait_from w p es q
at_front w p [] x q f = ap (λ b. if b then Some (wait_at w p x.leg) else None) f
at_front w p (e ∷ es) x q f = ap (λ o. if same_key q (key_of e.leg) then Some (wait_at w p e.leg) else o) (at_front w (suc p) es x q f)

at_end : (w p : ℕ) (es : List LiveLeg) (x : LiveLeg) (q : LegKey) → Each (λ e. key_of e.leg ≢ q) es → same_key q (key_of x.leg) ≡ true → wait_from w p (es ++ x ∷ []) q ≡ Some (wait_at w (p + length es) x.leg)
at_end w p [] x q none t = let here : wait_at w p x.leg ≡ wait_at w (p + 0) x.leg = omega arith in ap (λ b. if b then Some (wait_at w p x.leg) else None) t ∙ ap Some here
at_end w p (e ∷ es) x q none t =
    ap (λ b. if b then Some (wait_at w p e.leg) else wait_from w (suc p) (es ++ x ∷ []) q) (other_key q (key_of e.leg) (λ s. none.0 (sym s)))
    ∙ at_end w (suc p) es x q none.1 t ∙ ap Some there
  where
    there : wait_at w (suc p + length es) x.leg ≡ wait_at w (p + length (e ∷ es)) x.leg
    there = omega arith

-- a wait is at least the place where it is counted from
from_place : (w p : ℕ) (es : List LiveLeg) (q : LegKey) (v : ℕ) → wait_from w p es q ≡ Some v → p ≤ v
from_place w p [] q v e = absurd (cc)
from_place w p (x ∷ es) q v e = by_bool (same_key q (key_of x.leg))
    (λ t. let c : Some (wait_at w p x.leg) ≡ Some v = sym (ap (λ b. if b then Some (wait_at w p x.leg) else wait_from w (suc p) es q) t) ∙ e in
    let d : wait_at w p x.leg ≡ v = cc in omega (arith, d))
    (λ f. let c = from_place w (suc p) es q v (sym (ap (λ b. if b then Some (wait_at w p x.leg) else wait_from w (suc p) es q) f) ∙ e) in omega (arith, c))

-- a leg that is not live has no wait
gone : (w p : ℕ) (es : List LiveLeg) (q : LegKey) → find_live es q ≡ None → wait_from w p es q ≡ None
gone w p [] q none = refl
gone w p (x ∷ es) q none = by_bool (same_key q (key_of x.leg))
    (λ t. let c : Some x ≡ None = sym (ap (λ b. if b then Some x else find_live es q) t) ∙ none in absurd (cc))
    (λ f. ap (λ b. if b then Some (wait_at w p x.leg) else wait_from w (suc p) es q) f ∙ gone w (suc p) es q (sym (ap (λ b. if b then Some x else find_live es q) f) ∙ none))

unless_suc : (o : Option ℕ) (v : ℕ) → option_map suc o ≡ Some v → (u : ℕ) × (o ≡ Some u) × (suc u ≡ v)
unless_suc None v e = absurd (cc)
unless_suc (Some u) v e = (u, refl, (let c : suc u ≡ v = cc in c))

-- ---- the sum of the waits

sum_later : (w p : ℕ) (es : List LiveLeg) → waits_from w (suc p) es ≡ waits_from w p es + length es
sum_later w p [] = omega arith
sum_later w p (e ∷ es) = let h = sum_later w (suc p) es in omega (arith, h)

sum_end : (w p : ℕ) (es : List LiveLeg) (x : LiveLeg) → waits_from w p (es ++ x ∷ []) ≡ waits_from w p es + wait_at w (p + length es) x.leg
sum_end w p [] x = omega arith
sum_end w p (e ∷ es) x = let h = sum_end w (suc p) es x in let c : wait_at w (suc p + length es) x.leg ≡ wait_at w (p + length (e ∷ es)) x.leg = omega arith in omega (arith, h, c)

-- a leg that goes to the back of the turn order with one iteration less waits less
last_waits_less : (w l k b : ℕ) → 1 ≤ k → k + 1 ≡ l → b + 1 ≤ w → (k - 1) * w + (1 + b) + 1 ≤ (l - 1) * w + 1
last_waits_less w l k b one e len =
    let c : l - 1 ≡ (k - 1) + 1 = omega (arith, e, one) in
    let d : (l - 1) * w ≡ (k - 1) * w + w = ap (λ z. z * w) c ∙ omega arith in
    omega (arith, d, len)

-- ---- a start

waits_budget : (w b k : ℕ) → 1 ≤ b → k + 1 ≤ w → (b - 1) * w + (1 + k) ≤ b * w
waits_budget w b k one len =
    let c : b ≡ (b - 1) + 1 = omega (arith, one) in
    let d : b * w ≡ (b - 1) * w + w = ap (λ z. z * w) c ∙ omega arith in
    omega (arith, d, len)

start_waits : (n : NodeState) (l : Leg) → MayStart n l → wait (started n l) (key_of l) ≡ Some (wait_at n.slots (1 + length n.live) l)
start_waits n l s = at_end n.slots 1 n.live (record { leg = l; region = number_at n (place_of n l) }) (key_of l) (none_has n.live (key_of l) s.idle) (key_self (key_of l))

start_others : (n : NodeState) (l : Leg) (q : LegKey) → (q ≡ key_of l → ⊥) → wait (started n l) q ≡ wait n q
start_others n l q ne = at_front n.slots 1 n.live (record { leg = l; region = number_at n (place_of n l) }) q (other_key q (key_of l) ne)

pub started_wait : StartedWait
started_wait n l h left e =
    let s = may_start n l e in
    let is : (accept n l).0 ≡ started n l = ap (λ a. after_answer a n l) e in (
      (wait_at n.slots (1 + length n.live) l, ap (λ (z : NodeState). wait z (key_of l)) is ∙ start_waits n l s, waits_budget n.slots l.left (length n.live) left (omega (arith, s.room))),
      (λ q ne. ap (λ (z : NodeState). wait z q) is ∙ start_others n l q ne),
    )

-- ---- a turn

after_by : (n t : NodeState) (e : LiveLeg) (es : List LiveLeg) (f : Fate) (q : LegKey) (v : ℕ) → IsOrderly n → n.live ≡ e ∷ es → ((l : Leg) → f ≡ Stays l → StaysAs e.leg l) → Turned n t e es f
    → wait t q ≡ Some v → (w : ℕ) × (wait n q ≡ Some w) × (v + 1 ≤ w)
after_by n t e es (Ends b) q v h s stays u k =
    let apart : Apart (e ∷ es) = subst Apart s h.apart in
    let seen : wait_from n.slots 1 es q ≡ Some v = (λ i. wait_from (sym u.slots i) 1 (sym u.live i) q) ∙ k in
    by_bool (same_key q (key_of e.leg))
    (λ t. let none : find_live es q ≡ None = find_none es q (each_to _ _ es (λ f ne g. ne (sym (g ∙ is_key q (key_of e.leg) t))) apart.0) in
    let c : None ≡ Some v = sym (gone n.slots 1 es q none) ∙ seen in absurd (cc))
    (λ f. (suc v, (ap (λ z. wait_from n.slots 1 z q) s ∙ ap (λ b. if b then Some (wait_at n.slots 1 e.leg) else wait_from n.slots 2 es q) f ∙ later n.slots 1 es q ∙ ap (option_map suc) seen), omega arith))
after_by n t e es (Stays l) q v h s stays u k =
    let as' = stays l refl in
    let x : LiveLeg = record { leg = l; region = e.region } in
    let apart : Apart (e ∷ es) = subst Apart s h.apart in
    let seen : wait_from n.slots 1 (es ++ record { leg = l; region = e.region } ∷ []) q ≡ Some v = (λ i. wait_from (sym u.slots i) 1 (sym u.live i) q) ∙ k in
    by_bool (same_key q (key_of e.leg))
    (λ t. let same : q ≡ key_of e.leg = is_key q (key_of e.leg) t in
    let last : wait_from n.slots 1 (es ++ record { leg = l; region = e.region } ∷ []) q ≡ Some (wait_at n.slots (1 + length es) l) =
    at_end n.slots 1 es (record { leg = l; region = e.region }) q (each_to _ _ es (λ f ne g. ne (sym (g ∙ same))) apart.0) (ap (same_key q) as'.same ∙ t) in
    let c : Some (wait_at n.slots (1 + length es) l) ≡ Some v = sym last ∙ seen in
    let d : wait_at n.slots (1 + length es) l ≡ v = cc in (
      wait_at n.slots 1 e.leg,
      (ap (λ z. wait_from n.slots 1 z q) s ∙ ap (λ b. if b then Some (wait_at n.slots 1 e.leg) else wait_from n.slots 2 es q) t),
      (let less = last_waits_less n.slots e.leg.left l.left (length es) as'.some as'.left (omega (arith, h.few, ap length s)) in omega (arith, d, less)),
    ))
    (λ f. let front : wait_from n.slots 1 es q ≡ Some v = sym (at_front n.slots 1 es (record { leg = l; region = e.region }) q (ap (same_key q) as'.same ∙ f)) ∙ seen in
    (suc v, (ap (λ z. wait_from n.slots 1 z q) s ∙ ap (λ b. if b then Some (wait_at n.slots 1 e.leg) else wait_from n.slots 2 es q) f ∙ later n.slots 1 es q ∙ ap (option_map suc) front), omega arith))

rest_by : (n t : NodeState) (e : LiveLeg) (es : List LiveLeg) (f : Fate) → IsOrderly n → n.live ≡ e ∷ es → ((l : Leg) → f ≡ Stays l → StaysAs e.leg l) → Turned n t e es f → rest t + 1 ≤ rest n
rest_by n t e es f h s stays u =
    let old : rest n ≡ (e.leg.left - 1) * n.slots + 1 + (waits_from n.slots 1 es + length es) = ap (waits_from n.slots 1) s ∙ ap (λ z. (e.leg.left - 1) * n.slots + 1 + z) (sum_later n.slots 1 es) in
    let now : rest t ≡ waits_from n.slots 1 (live_after e es f) = λ i. waits_from (u.slots i) 1 (u.live i) in
    by_fate f stays old now
  where
    by_fate : (f : Fate) → ((l : Leg) → f ≡ Stays l → StaysAs e.leg l) → rest n ≡ (e.leg.left - 1) * n.slots + 1 + (waits_from n.slots 1 es + length es) → rest t ≡ waits_from n.slots 1 (live_after e es f) → rest t + 1 ≤ rest n
    by_fate (Ends b) stays old now = omega (arith, old, now)
    by_fate (Stays l) stays old now =
        let as' = stays l refl in
        let more = sum_end n.slots 1 es (record { leg = l; region = e.region }) in
        let less = last_waits_less n.slots e.leg.left l.left (length es) as'.some as'.left (omega (arith, h.few, ap length s)) in
        omega (arith, old, now, more, less)

stays_first : (n : NodeState) (e : LiveLeg) (es : List LiveLeg) (o : Outcome) → IsOrderly n → n.live ≡ e ∷ es → (l : Leg) → fate_of n e.leg o ≡ Stays l → StaysAs e.leg l
stays_first n e es o h s l k = let live : Each (IsOpen n) (e ∷ es) = subst (Each (IsOpen n)) s h.live in stays_as n e.leg o l live.0.0 k

pub turn_wait : TurnWait
turn_wait n e es o h s = (
  (λ q v k. after_by n _ e es (fate_of n e.leg o) q v h s (stays_first n e es o h s) (turned n e es o s) k),
  rest_by n _ e es (fate_of n e.leg o) h s (stays_first n e es o h s) (turned n e es o s),
)

-- ---- runs

abbrev Ended : NodeState → LegKey → Type 0
Ended n q = (find_live n.live q ≡ None) × ((r : Reply) × (m.get n.kept q ≡ Some r))

by_live : {A : Type 0} (n : NodeState) → (n.live ≡ [] → A) → ((e : LiveLeg) (es : List LiveLeg) → n.live ≡ e ∷ es → A) → A
by_live {A = A} n f g = go n.live refl
  where
    go : (xs : List LiveLeg) → n.live ≡ xs → A
    go [] s = f s
    go (e ∷ es) s = g e es s

turn_idle : (n : NodeState) (o : Outcome) → n.live ≡ [] → turn_first n n.live o ≡ n
turn_idle n o s = ap (λ z. turn_first n z o) s

turn_some : (n : NodeState) (e : LiveLeg) (es : List LiveLeg) (o : Outcome) → n.live ≡ e ∷ es → turn_first n n.live o ≡ (turn n (key_of e.leg) o).0
turn_some n e es o s = ap (λ z. turn_first n z o) s

-- a kept reply is kept for good
stays_ended : (xs : List Move) (n : NodeState) (q : LegKey) (r : Reply) → IsOrderly n → HaveLeft xs → m.get n.kept q ≡ Some r → Ended (moves n xs) q
stays_ended [] n q r h f k = (kept_not_live n n.live q r h.live k, (r, k))
stays_ended (Accepts l ∷ xs) n q r h f k = stays_ended xs (accept n l).0 q r (orderly_accept n l h f.0) f.1 (ap (λ z. m.get z q) (accept_kept n l (answer_to n l)).0 ∙ k)
stays_ended (Turns o ∷ xs) n q r h f k = by_live n
    (λ s. subst (λ (z : NodeState). Ended (moves z xs) q) (sym (turn_idle n o s)) (stays_ended xs n q r h f k))
    (λ e es s. subst (λ (z : NodeState). Ended (moves z xs) q) (sym (turn_some n e es o s)) (stays_ended xs (turn n (key_of e.leg) o).0 q r (orderly_turn n e es o h s) f (kept_turn n e es o q r h s k)))

-- a turn lowers the wait of a live leg, or ends it
next_by : (n t : NodeState) (e : LiveLeg) (es : List LiveLeg) (f : Fate) (q : LegKey) (w : ℕ) → ((l : Leg) → f ≡ Stays l → StaysAs e.leg l) → IsOrderly n → n.live ≡ e ∷ es → Turned n t e es f → wait n q ≡ Some w
    → ((v : ℕ) × (wait t q ≡ Some v) × (v + 1 ≤ w)) ⊎ ((r : Reply) × (m.get t.kept q ≡ Some r))
next_by n t e es (Ends b) q w stays h s u k = by_bool (same_key q (key_of e.leg))
    (λ y. inr (record { back = b; region = e.region }, ap (λ z. m.get z q) u.kept ∙ ap (m.get (m.insert n.kept (key_of e.leg) (record { back = b; region = e.region }))) (is_key q (key_of e.leg) y) ∙ get_same n.kept (key_of e.leg) (record { back = b; region = e.region })))
    (λ y. let seen : option_map suc (wait_from n.slots 1 es q) ≡ Some w =
    sym (later n.slots 1 es q) ∙ sym (ap (λ b. if b then Some (wait_at n.slots 1 e.leg) else wait_from n.slots 2 es q) y) ∙ sym (ap (λ z. wait_from n.slots 1 z q) s) ∙ k in
    let less = unless_suc (wait_from n.slots 1 es q) w seen in
    inl (less.0, ((λ i. wait_from (u.slots i) 1 (u.live i) q) ∙ less.1), omega (arith, less.2)))
next_by n t e es (Stays l) q w stays h s u k =
    let as' = stays l refl in
    let apart : Apart (e ∷ es) = subst Apart s h.apart in
    by_bool (same_key q (key_of e.leg))
    (λ y. let same : q ≡ key_of e.leg = is_key q (key_of e.leg) y in
    let last : wait_from n.slots 1 (es ++ record { leg = l; region = e.region } ∷ []) q ≡ Some (wait_at n.slots (1 + length es) l) =
    at_end n.slots 1 es (record { leg = l; region = e.region }) q (each_to _ _ es (λ f ne g. ne (sym (g ∙ same))) apart.0) (ap (same_key q) as'.same ∙ y) in
    let c : Some (wait_at n.slots 1 e.leg) ≡ Some w = sym (ap (λ b. if b then Some (wait_at n.slots 1 e.leg) else wait_from n.slots 2 es q) y) ∙ sym (ap (λ z. wait_from n.slots 1 z q) s) ∙ k in
    let d : wait_at n.slots 1 e.leg ≡ w = cc in
    let less = last_waits_less n.slots e.leg.left l.left (length es) as'.some as'.left (omega (arith, h.few, ap length s)) in
    inl (wait_at n.slots (1 + length es) l, ((λ i. wait_from (u.slots i) 1 (u.live i) q) ∙ last), omega (arith, d, less)))
    (λ y. let seen : option_map suc (wait_from n.slots 1 es q) ≡ Some w =
    sym (later n.slots 1 es q) ∙ sym (ap (λ b. if b then Some (wait_at n.slots 1 e.leg) else wait_from n.slots 2 es q) y) ∙ sym (ap (λ z. wait_from n.slots 1 z q) s) ∙ k in
    let less = unless_suc (wait_from n.slots 1 es q) w seen in
    inl (less.0, ((λ i. wait_from (u.slots i) 1 (u.live i) q) ∙ at_front n.slots 1 es (record { leg = l; region = e.region }) q (ap (same_key q) as'.same ∙ y) ∙ less.1), omega (arith, less.2)))

accept_waits : (n : NodeState) (l : Leg) (a : Accepted) (q : LegKey) (w : ℕ) → answer_to n l ≡ a → wait n q ≡ Some w → wait (after_answer a n l) q ≡ Some w
accept_waits n l Started q w e k = by_bool (same_key q (key_of l))
    (λ t. let none : wait n q ≡ None = gone n.slots 1 n.live q (ap (find_live n.live) (is_key q (key_of l) t) ∙ (may_start n l e).idle) in
    let c : None ≡ Some w = sym none ∙ k in absurd (cc))
    (λ f. at_front n.slots 1 n.live (record { leg = l; region = number_at n (place_of n l) }) q f ∙ k)
accept_waits n l Foreign q w e k = k
accept_waits n l (Answer b) q w e k = k
accept_waits n l Running q w e k = k
accept_waits n l Elsewhere q w e k = k
accept_waits n l Full q w e k = k
accept_waits n l Memory q w e k = k

waits_out : (xs : List Move) (n : NodeState) (q : LegKey) (w : ℕ) → IsOrderly n → wait n q ≡ Some w → HaveLeft xs → w ≤ count_turns xs → Ended (moves n xs) q
waits_out [] n q w h k f c = let one = from_place n.slots 1 n.live q w k in absurd (omega (arith, one, c))
waits_out (Accepts l ∷ xs) n q w h k f c = waits_out xs (accept n l).0 q w (orderly_accept n l h f.0) (accept_waits n l (answer_to n l) q w refl k) f.1 c
waits_out (Turns o ∷ xs) n q w h k f c = by_live n
    (λ s. let c : None ≡ Some w = sym (ap (λ z. wait_from n.slots 1 z q) s) ∙ k in absurd (cc))
    (λ e es s. subst (λ (z : NodeState). Ended (moves z xs) q) (sym (turn_some n e es o s))
    (elim (next_by n _ e es (fate_of n e.leg o) q w (stays_first n e es o h s) h s (turned n e es o s) k) [
      | inl live ↦ waits_out xs (turn n (key_of e.leg) o).0 q live.0 (orderly_turn n e es o h s) live.1 f (omega (arith, live.2, c))
      | inr kept ↦ stays_ended xs (turn n (key_of e.leg) o).0 q kept.0 (orderly_turn n e es o h s) f kept.1
    ]))

pub bounded_wait : BoundedWait
bounded_wait n l xs h left e f c =
    let s = started_wait n l h left e in
    waits_out xs (accept n l).0 (key_of l) s.0.0 (orderly_accept n l h left) s.0.1 f (omega (arith, s.0.2, c))
