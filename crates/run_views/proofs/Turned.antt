-- A turn of a live leg does as the laws of runs say.
use Rattle.std.proofs.Common.{◌≡◌, ℕ, zero, suc, ◌+◌, ◌-◌, ◌<◌, ◌&&◌, List, [], ◌∷◌, ◌++◌, length, take, drop, Option, Some, None, refl, sym, ap, ◌∙◌, subst, arith, nat_eq, if◌then◌else◌, append_assoc}
use Rattle.std.proofs.lemmas.List.{take-append-drop}
use Rattle.std.proofs.lemmas.List.Quantifiers.{position-Some}
use Rattle.pulse_base.specs.declared.answer.FaultKind.TheVariants as fault
use Rattle.range_table.specs.Memory.{holds, may_read, may_write}
use Rattle.range_table.specs.Memory as table
use Rattle.frame_codec.specs.declared.frame.Leg.{Leg}
use Rattle.frame_codec.specs.declared.frame.Back.{Back}
use Rattle.frame_codec.specs.declared.frame.Ending.TheVariants as ending
use Rattle.leg_ledger.specs.declared.leg.LegKey.{LegKey}
use Rattle.run_rules.specs.declared.node.LiveLeg.{LiveLeg}
use Rattle.run_rules.specs.declared.node.Fate.{Fate}
use Rattle.run_rules.specs.declared.node.Fate.TheVariants as fate
use Rattle.run_rules.specs.Outcome.{Outcome, Done, Goes, Faults, record_after}
use Rattle.run_rules.specs.Node.{NodeState, key_of, back_of, same_key, find_live, spans_of, size_of, place_of, region_at, offset_of, record_in, spliced, with_record}
use Rattle.run_rules.specs.Turning.{moved, fate_at, fate_of, stored, settled, back_in, turn_of, turn, record_by, writable_by}
use Rattle.run_rules.specs.Waiting.{IsOpen}
use Rattle.run_rules.proofs.Finds.{by_bool}
use Rattle.run_laws.specs.Plan as p
use Rattle.run_laws.specs.Flat as f
use Rattle.run_laws.specs.Node as n
use Rattle.run_laws.specs.World as w
use Rattle.run_views.specs.Frames.{leg_view, ending_view}
use Rattle.run_views.specs.Setting.{Setting, plan_of, record_size, outcome_view, offset_in, iterate_in}
use Rattle.run_views.specs.Nodes.{slot_by, slot_in, key_for, bytes_numbered, fate_view, sent_back, outcome_of, IsLiveOf, IsNodeOf}
use Rattle.run_views.specs.Laws.{TurnSeen}
use Rattle.run_views.proofs.Shares.{nowhere, span_at, many_spans, arrival_at, size_same, arrives, number_at, bytes_at, bytes_put}
use Rattle.run_views.proofs.Slots.{key_is, keys_same, view_slot, found_key, each_find, fate_slot, FateNames, settled_slot}

-- ---- the fate

at_view : (s : NodeState) (l : Leg) (o : Option ℕ) → fate_view (fate_at s l o) ≡ n.goes_to (leg_view l).now (arrival_at s o)
at_view s l None = refl
at_view s l (Some k) = by_bool (may_read (spans_of s.regions) k)
    (λ t. ap (λ b. fate_view (if b then fate.Stays l else fate.Ends (back_of l (ending.Fault fault.NotReadable)))) t ∙ sym (ap (λ b. n.goes_to (leg_view l).now (if b then p.Here (region_at s k).number else p.Barred)) t))
    (λ t. ap (λ b. fate_view (if b then fate.Stays l else fate.Ends (back_of l (ending.Fault fault.NotReadable)))) t ∙ sym (ap (λ b. n.goes_to (leg_view l).now (if b then p.Here (region_at s k).number else p.Barred)) t))

fate_seen : (P : p.Plan) (i : ℕ) (s : NodeState) (l : Leg) (bytes : List ℕ) (at : ℕ) (o : Outcome) → ((x : Leg) → x.request ≡ l.request → x.program ≡ l.program → p.arrive_on P i x.request x.cur ≡ arrival_at s (place_of s x))
    → fate_view (fate_of s l o) ≡ n.turned P i l.request (leg_view l).now (outcome_view bytes at o)
fate_seen P i s l bytes at (Done b pad) a = refl
fate_seen P i s l bytes at (Goes to b pad) a = by_bool (nat_eq (l.left - 1) 0)
    (λ t. ap (λ z. fate_view (if z then fate.Ends (back_of (moved l to pad) ending.Resume) else fate_at s (moved l to pad) (place_of s (moved l to pad)))) t ∙ sym (ap (λ z. n.goes_on (leg_view (moved l to pad)).now z (p.arrive_on P i l.request to)) t))
    (λ t. ap (λ z. fate_view (if z then fate.Ends (back_of (moved l to pad) ending.Resume) else fate_at s (moved l to pad) (place_of s (moved l to pad)))) t ∙ at_view s (moved l to pad) (place_of s (moved l to pad))
    ∙ ap (n.goes_to (leg_view (moved l to pad)).now) (sym (a (moved l to pad) refl refl)) ∙ sym (ap (λ z. n.goes_on (leg_view (moved l to pad)).now z (p.arrive_on P i l.request to)) t))
fate_seen P i s l bytes at (Faults cause) a = refl

at_names : (s : NodeState) (l x : Leg) (o : Option ℕ) → key_of x ≡ key_of l → x.request ≡ l.request → x.leg ≡ l.leg → FateNames (fate_at s x o) l
at_names s l x None k a b = (a, b)
at_names s l x (Some i) k a b = by_bool (may_read (spans_of s.regions) i)
    (λ t. subst (λ z. FateNames (if z then fate.Stays x else fate.Ends (back_of x (ending.Fault fault.NotReadable))) l) (sym t) k)
    (λ t. subst (λ z. FateNames (if z then fate.Stays x else fate.Ends (back_of x (ending.Fault fault.NotReadable))) l) (sym t) (a, b))

pub fate_names : (s : NodeState) (l : Leg) (o : Outcome) → FateNames (fate_of s l o) l
fate_names s l (Done b pad) = (refl, refl)
fate_names s l (Goes to b pad) = by_bool (nat_eq (l.left - 1) 0)
    (λ t. subst (λ z. FateNames (if z then fate.Ends (back_of (moved l to pad) ending.Resume) else fate_at s (moved l to pad) (place_of s (moved l to pad))) l) (sym t) (refl, refl))
    (λ t. subst (λ z. FateNames (if z then fate.Ends (back_of (moved l to pad) ending.Resume) else fate_at s (moved l to pad) (place_of s (moved l to pad))) l) (sym t) (at_names s l (moved l to pad) (place_of s (moved l to pad)) refl refl refl))
fate_names s l (Faults cause) = (refl, refl)

slot_of_fate : (g : Fate) (l : Leg) → FateNames g l → fate_slot g ≡ n.turned_slot l.request l.leg (fate_view g)
slot_of_fate (fate.Stays x) l h = refl
slot_of_fate (fate.Ends b) l h = λ j. n.Kept (p.back_of (h.0 j) (h.1 j) (record { cur = b.cur; pad = b.pad; left = b.left }) (ending_view b.ending))

sends_of_fate : (g : Fate) (l : Leg) → FateNames g l → w.turned_sends l.request l.leg (fate_view g) ≡ sent_back (back_in g)
sends_of_fate (fate.Stays x) l h = refl
sends_of_fate (fate.Ends b) l h = λ j. w.to_switch (p.AsBack (p.back_of (sym h.0 j) (sym h.1 j) (record { cur = b.cur; pad = b.pad; left = b.left }) (ending_view b.ending))) ∷ []

-- ---- the bytes

-- a record that is put where it stands
front_same : (ys : List ℕ) (k : ℕ) → take k ys ++ drop (length (take k ys)) ys ≡ ys
front_same [] zero = refl
front_same [] (suc k) = refl
front_same (y ∷ ys) zero = refl
front_same (y ∷ ys) (suc k) = ap (λ z. y ∷ z) (front_same ys k)

drop_none : (k : ℕ) → drop {A = ℕ} k [] ≡ []
drop_none zero = refl
drop_none (suc k) = refl

drop_twice : (i j : ℕ) (l : List ℕ) → drop j (drop i l) ≡ drop (i + j) l
drop_twice zero j l = ap (λ n. drop n l) (let e : j ≡ 0 + j = omega arith in e)
drop_twice (suc i) j [] = drop_none j ∙ sym (drop_none (suc i + j))
drop_twice (suc i) j (x ∷ l) = drop_twice i j l ∙ ap (λ n. drop n (x ∷ l)) (let e : suc (i + j) ≡ suc i + j = omega arith in e)

splice_same : (xs : List ℕ) (o k : ℕ) → spliced xs o (take k (drop o xs)) ≡ xs
splice_same xs o k =
    append_assoc (take o xs) (take k (drop o xs)) (drop (o + length (take k (drop o xs))) xs)
    ∙ ap (λ z. take o xs ++ (take k (drop o xs) ++ z)) (sym (drop_twice o (length (take k (drop o xs))) xs))
    ∙ ap (λ z. take o xs ++ z) (front_same (drop o xs) k) ∙ take-append-drop o xs

bytes_are : (bytes : List ℕ) (at k : ℕ) (o : Outcome) → spliced bytes at (record_after o (take k (drop at bytes))) ≡ f.new_bytes bytes (outcome_view bytes at o)
bytes_are bytes at k (Done b pad) = refl
bytes_are bytes at k (Goes to b pad) = refl
bytes_are bytes at k (Faults cause) = splice_same bytes at k

-- slots where only bytes differ
same_slots : (s : NodeState) (l : Leg) (place : ℕ) (b : List ℕ) (e : LiveLeg) (g : Fate) (q : LegKey) → slot_in (settled (with_record s l place b) e g) q ≡ slot_in (settled s e g) q
same_slots s l place b e (fate.Stays x) q = refl
same_slots s l place b e (fate.Ends x) q = refl

pub settled_regions : (s : NodeState) (e : LiveLeg) (g : Fate) → (settled s e g).regions ≡ s.regions
settled_regions s e (fate.Stays x) = refl
settled_regions s e (fate.Ends x) = refl

-- ---- the turn

-- what is known of a live leg
pub record Site (u : Setting) (i : ℕ) (s : NodeState) (q : LegKey) (e : LiveLeg) : Type 0 where
  pub key : q ≡ key_of e.leg
  pub open' : IsOpen s e
  pub live : IsLiveOf u s e
  pub low : live.place < length s.regions
  pub size : size_of s e.leg ≡ record_size u e.leg.request
  pub span : (region_at s live.place).span ≡ table.region_at u.table (region_at s live.place).number
  pub alone : (j : ℕ) → j < live.place → number_at s.regions j ≡ number_at s.regions live.place → ⊥

pub site : (u : Setting) (i : ℕ) (s : NodeState) (q : LegKey) (e : LiveLeg) → IsNodeOf u i s → find_live s.live q ≡ Some e → Site u i s q e
site u i s q e h found =
    let live = each_find (IsLiveOf u s) s.live q e found h.live in
    let there = (position-Some (λ r. holds r e.leg.cur (size_of s e.leg)) (spans_of s.regions) live.place nowhere live.at).0 in
    let low : live.place < length s.regions = subst (λ z. live.place < z) (many_spans s) there in
    record {
      key = found_key s.live q e found;
      open' = each_find (IsOpen s) s.live q e found h.orderly.live;
      live = live;
      low = low;
      size = size_same u s e.leg h.sizes live.leg.program;
      span = h.share.spans live.place low;
      alone = λ j less same. (let d : j ≡ live.place = h.share.once j live.place (omega (arith, less, low)) low same in omega (arith, d, less));
    }

-- the iteration on the node's record is the plan's
pub same_outcome : (u : Setting) (i : ℕ) (s : NodeState) (q : LegKey) (e : LiveLeg) (x : Site u i s q e)
    → outcome_of u s e.leg ≡ iterate_in u e.leg.request (region_at s x.live.place).number (region_at s x.live.place).bytes e.leg.cur e.leg.pad
same_outcome u i s q e x =
    let l = e.leg in
    let place = x.live.place in
    let bytes = (region_at s place).bytes in
    let writes : may_write (spans_of s.regions) place ≡ may_write u.table (region_at s place).number = ap (λ r. r.write) (span_at s place ∙ x.span) in
    (λ j. u.iterate (x.live.leg.program j) (record_by s l (x.live.at j)) l.cur l.pad (writable_by s (x.live.at j)))
    ∙ (λ j. u.iterate (u.program l.request) (take (x.size j) (drop (l.cur - (x.span j).base) bytes)) l.cur l.pad (writes j))

pub turn_is : (u : Setting) (i : ℕ) (s : NodeState) (q : LegKey) (e : LiveLeg) (o : Outcome) (x : Site u i s q e) → find_live s.live q ≡ Some e
    → turn s q o ≡ (settled (with_record s e.leg x.live.place (record_after o (record_in s e.leg x.live.place))) e (fate_of s e.leg o), back_in (fate_of s e.leg o))
turn_is u i s q e o x found =
    ap (λ z. turn_of s z o) found ∙ ap (λ z. (settled (stored s e.leg o z) e (fate_of s e.leg o), back_in (fate_of s e.leg o))) x.live.at

-- the bytes of each region after the turn
bytes_view : (u : Setting) (i : ℕ) (s : NodeState) (q : LegKey) (e : LiveLeg) (g : Fate) (o : Outcome) (x : Site u i s q e) (j : ℕ)
    → bytes_numbered (settled (with_record s e.leg x.live.place (record_after o (record_in s e.leg x.live.place))) e g).regions j
    ≡ p.put (λ k. bytes_numbered s.regions k) (region_at s x.live.place).number (f.new_bytes (region_at s x.live.place).bytes (outcome_view (region_at s x.live.place).bytes (offset_of s e.leg x.live.place) o)) j
bytes_view u i s q e g o x j =
    let place = x.live.place in
    let r = region_at s place in
    let after = record_after o (record_in s e.leg place) in
    ap (λ z. bytes_numbered z j) (settled_regions (with_record s e.leg place after) e g)
    ∙ bytes_put s.regions place (record r { bytes = spliced r.bytes (offset_of s e.leg place) after }) j x.low refl x.alone
    ∙ ap (λ z. if nat_eq j r.number then z else bytes_numbered s.regions j) (bytes_are r.bytes (offset_of s e.leg place) (size_of s e.leg) o)

pub turn_seen : TurnSeen
turn_seen u i s q e set h found =
    let x = site u i s q e h found in
    let l = e.leg in
    let place = x.live.place in
    let r = region_at s place in
    let o = outcome_of u s l in
    let g = fate_of s l o in
    let P = plan_of u in
    let names = fate_names s l o in
    let after = record_after o (record_in s l place) in
    let is = turn_is u i s q e o x found in
    let arrive : (y : Leg) → y.request ≡ l.request → y.program ≡ l.program → p.arrive_on P i y.request y.cur ≡ arrival_at s (place_of s y) =
    λ y a b. arrives u i s y set h.share h.sizes (b ∙ x.live.leg.program ∙ ap u.program (sym a)) in
    let here_bytes : bytes_numbered s.regions r.number ≡ r.bytes = bytes_at s.regions place x.low x.alone in
    let offset : offset_of s l place ≡ offset_in u r.number l.cur = ap (λ z. l.cur - z.base) x.span in
    let ran : P.iterate l.request r.number (bytes_numbered s.regions r.number) l.cur l.pad ≡ outcome_view r.bytes (offset_of s l place) o =
    ap (λ z. P.iterate l.request r.number z l.cur l.pad) here_bytes ∙ (λ j. outcome_view r.bytes (sym offset j) (sym (same_outcome u i s q e x) j)) in (
      record {
        now = (leg_view l).now;
        region = r.number;
        is_live = view_slot u s l (n.Running (leg_view l).now) x.live.leg.client ((λ j. slot_by (x.open'.1 j) (find_live s.live (sym x.key j))) ∙ ap (slot_by None) found);
        here = arrive l refl refl ∙ ap (arrival_at s) x.live.at ∙ ap (λ b. if b then p.Here r.number else p.Barred) x.live.reads;
        left = fate_seen P i s l r.bytes (offset_of s l place) o arrive ∙ ap (n.turned P i l.request (leg_view l).now) (sym ran);
        changes = λ z. record {
          slot = λ k j. (ap (λ (t : NodeState × Option Back). slot_in t.0 (key_for u k j)) is
              ∙ same_slots s l place after e g (key_for u k j)
              ∙ settled_slot s e g h.orderly.apart x.open'.1 names (key_for u k j)
              ∙ ap (λ b. if b then fate_slot g else slot_in s (key_for u k j)) (ap (same_key (key_for u k j)) (key_is u l x.live.leg.client) ∙ keys_same u k j l.request l.leg)
              ∙ ap (λ y. if nat_eq k l.request && nat_eq j l.leg then y else slot_in s (key_for u k j)) (slot_of_fate g l names)) z;
          bytes = λ j. (ap (λ (t : NodeState × Option Back). bytes_numbered t.0.regions j) is
              ∙ bytes_view u i s q e g o x j
              ∙ (λ y. p.put (λ k. bytes_numbered s.regions k) r.number (f.new_bytes (sym here_bytes y) (sym ran y)) j)) z;
        };
      },
      sends_of_fate g l names ∙ ap (λ (t : NodeState × Option Back). sent_back t.1) (sym is),
    )
