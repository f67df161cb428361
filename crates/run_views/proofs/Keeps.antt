-- Node, switch and client keep what is always true of them.
use Rattle.std.proofs.Common.{◌≡◌, ℕ, zero, suc, ◌+◌, ◌-◌, ◌<◌, ◌≤◌, true, leb, List, [], ◌∷◌, ◌++◌, length, take, drop, map, Option, Some, None, refl, sym, ap, ◌∙◌, subst, arith, nat_eq, nat_le, if◌then◌else◌, length-append}
use Rattle.std.specs.Prelude.{slice_get, slice_set, slice_index_or, is_some}
use Rattle.std.specs.FinMap as m
use Rattle.std.proofs.lemmas.Bool.{and_parts, leb-true}
use Rattle.std.proofs.lemmas.List.{length-drop, length-take-le}
use Rattle.std.proofs.lemmas.List.Quantifiers.{position-Some}
use Rattle.pulse_base.specs.declared.answer.FaultKind.TheVariants as fault
use Rattle.range_table.specs.declared.region.RegionSpan.{RegionSpan}
use Rattle.range_table.specs.Memory.{holds, end_of, may_read, region_of}
use Rattle.range_table.specs.Memory as table
use Rattle.frame_codec.specs.declared.frame.Leg.{Leg}
use Rattle.frame_codec.specs.declared.frame.Back.{Back}
use Rattle.frame_codec.specs.declared.frame.Ending.TheVariants as ending
use Rattle.leg_ledger.specs.declared.leg.LegKey.{LegKey}
use Rattle.leg_ledger.specs.declared.leg.Reply.{Reply}
use Rattle.leg_ledger.proofs.Keys.{get_same, get_other}
use Rattle.run_rules.specs.declared.node.NodeRegion.{NodeRegion}
use Rattle.run_rules.specs.declared.node.LiveLeg.{LiveLeg}
use Rattle.run_rules.specs.declared.node.Fate.{Fate}
use Rattle.run_rules.specs.declared.node.Fate.TheVariants as fate
use Rattle.run_rules.specs.declared.node.Accepted.{Accepted}
use Rattle.run_rules.specs.declared.node.Accepted.TheVariants.{Foreign, Answer, Running, Elsewhere, Full, Started, Memory}
use Rattle.run_rules.specs.Outcome.{Outcome, Done, Goes, Faults, record_after}
use Rattle.run_rules.specs.Node.{NodeState, key_of, back_of, same_key, find_live, spans_of, size_in, size_of, place_of, region_at, offset_of, record_in, spliced, with_record}
use Rattle.run_rules.specs.Accepting.{number_at, answer_at, answer_by, answer_to, is_foreign, started, after_answer}
use Rattle.run_rules.specs.Turning.{moved, fate_at, fate_of, without, settled, back_in}
use Rattle.run_rules.specs.Waiting.{Each, IsOrderly}
use Rattle.run_rules.proofs.Finds.{by_bool, is_key, not_key, each_to, each_append}
use Rattle.run_rules.proofs.Starting.{may_start, orderly_accept}
use Rattle.run_rules.proofs.Turns.{stays_as}
use Rattle.run_views.specs.Setting.{Setting, owner_of, pad_size, record_size, OutcomeKeeps, offset_in, IsLegOf, IsBackOf}
use Rattle.run_views.specs.Nodes.{outcome_of, IsShare, IsLiveOf, IsNodeOf}
use Rattle.run_views.specs.Keeps.{AnswerOf, SentBackOf, AcceptKeeps, TurnKeeps}
use Rattle.run_views.proofs.Shares.{nowhere, no_region, span_at}
use Rattle.run_views.proofs.Slots.{FateNames}
use Rattle.run_views.proofs.Turned.{fate_names, Site, site, same_outcome, turn_is}
use Rattle.run_views.proofs.Orderly.{each_without, FateLeft, orderly_settled}

-- ---- accepting

-- what a node answers is of the leg's request
answer_at_of : (u : Setting) (s : NodeState) (l : Leg) (o : Option ℕ) → IsLegOf u l → AnswerOf u (answer_at s l o)
answer_at_of u s l None of = tt
answer_at_of u s l (Some i) of = by_bool (may_read (spans_of s.regions) i)
    (λ t. subst (λ b. AnswerOf u (if b then (if nat_le s.slots (length s.live) then Full else Started) else Answer (back_of l (ending.Fault fault.NotReadable)))) (sym t)
    (by_bool (nat_le s.slots (length s.live))
    (λ q. subst (λ b. AnswerOf u (if b then Full else Started)) (sym q) tt)
    (λ q. subst (λ b. AnswerOf u (if b then Full else Started)) (sym q) tt)))
    (λ t. subst (λ b. AnswerOf u (if b then (if nat_le s.slots (length s.live) then Full else Started) else Answer (back_of l (ending.Fault fault.NotReadable)))) (sym t)
    (record { client = of.client; program = of.program; pad = of.pad }))

answer_by_of : (u : Setting) (s : NodeState) (l : Leg) (o : Option Reply) → IsLegOf u l → ((reply : Reply) → o ≡ Some reply → IsBackOf u reply.back) → AnswerOf u (answer_by s l o)
answer_by_of u s l (Some reply) of kept = kept reply refl
answer_by_of u s l None of kept = by_bool (is_some (find_live s.live (key_of l)))
    (λ t. subst (λ b. AnswerOf u (if b then Running else answer_at s l (place_of s l))) (sym t) tt)
    (λ t. subst (λ b. AnswerOf u (if b then Running else answer_at s l (place_of s l))) (sym t) (answer_at_of u s l (place_of s l) of))

answer_of : (u : Setting) (s : NodeState) (l : Leg) → IsLegOf u l → ((q : LegKey) (reply : Reply) → m.get s.kept q ≡ Some reply → IsBackOf u reply.back) → AnswerOf u (answer_to s l)
answer_of u s l of kept = by_bool (is_foreign s l)
    (λ t. subst (λ b. AnswerOf u (if b then Foreign else answer_by s l (m.get s.kept (key_of l)))) (sym t) tt)
    (λ t. subst (λ b. AnswerOf u (if b then Foreign else answer_by s l (m.get s.kept (key_of l)))) (sym t) (answer_by_of u s l (m.get s.kept (key_of l)) of (kept (key_of l))))

share_started : (u : Setting) (i : ℕ) (s : NodeState) (l : Leg) → IsShare u i s → IsShare u i (started s l)
share_started u i s l h = record { inside = h.inside; spans = h.spans; owned = h.owned; whole = h.whole; once = h.once; filled = h.filled }

live_started : (u : Setting) (s : NodeState) (l : Leg) (e : LiveLeg) → IsLiveOf u s e → IsLiveOf u (started s l) e
live_started u s l e h = record { leg = h.leg; place = h.place; at = h.at; reads = h.reads }

accept_by : (u : Setting) (i : ℕ) (s : NodeState) (l : Leg) (a : Accepted) → IsNodeOf u i s → IsLegOf u l → IsOrderly (after_answer a s l) → answer_to s l ≡ a → IsNodeOf u i (after_answer a s l)
accept_by u i s l Started h of orderly e =
    let may = may_start s l e in
    let x : LiveLeg = record { leg = l; region = number_at s (place_of s l) } in
    record {
      orderly = orderly;
      some = h.some;
      sizes = h.sizes;
      share = share_started u i s l h.share;
      live = each_append (IsLiveOf u (started s l)) s.live (x ∷ []) (each_to (IsLiveOf u s) (IsLiveOf u (started s l)) s.live (λ y o. live_started u s l y o) h.live)
          (record { leg = of; place = may.place; at = may.at; reads = may.reads }, tt);
      kept = h.kept;
    }
accept_by u i s l Foreign h of orderly e = h
accept_by u i s l (Answer b) h of orderly e = h
accept_by u i s l Running h of orderly e = h
accept_by u i s l Elsewhere h of orderly e = h
accept_by u i s l Full h of orderly e = h
accept_by u i s l Memory h of orderly e = h

pub accept_keeps : AcceptKeeps
accept_keeps u i s l set h of left = (accept_by u i s l (answer_to s l) h of (orderly_accept s l h.orderly left) refl, answer_of u s l of h.kept)

-- ---- a turn

-- regions of which one has other bytes
regions_same : (regions : List NodeRegion) (k : ℕ) (g : NodeRegion) → g.number ≡ (slice_index_or regions k no_region).number → g.span ≡ (slice_index_or regions k no_region).span → length g.bytes ≡ length (slice_index_or regions k no_region).bytes
    → (j : ℕ) → ((slice_index_or (slice_set regions k g) j no_region).number ≡ (slice_index_or regions j no_region).number)
    × ((slice_index_or (slice_set regions k g) j no_region).span ≡ (slice_index_or regions j no_region).span)
    × (length (slice_index_or (slice_set regions k g) j no_region).bytes ≡ length (slice_index_or regions j no_region).bytes)
regions_same [] k g a b c j = (refl, refl, refl)
regions_same (x ∷ regions) zero g a b c zero = (a, b, c)
regions_same (x ∷ regions) zero g a b c (suc j) = (refl, refl, refl)
regions_same (x ∷ regions) (suc k) g a b c zero = (refl, refl, refl)
regions_same (x ∷ regions) (suc k) g a b c (suc j) = regions_same regions k g a b c j

spans_same : (regions : List NodeRegion) (k : ℕ) (g : NodeRegion) → g.span ≡ (slice_index_or regions k no_region).span → map (λ r. r.span) (slice_set regions k g) ≡ map (λ r. r.span) regions
spans_same [] k g e = refl
spans_same (x ∷ regions) zero g e = ap (λ z. z ∷ map (λ r. r.span) regions) e
spans_same (x ∷ regions) (suc k) g e = ap (λ z. x.span ∷ z) (spans_same regions k g e)

many_same : (regions : List NodeRegion) (k : ℕ) (g : NodeRegion) → length (slice_set regions k g) ≡ length regions
many_same [] k g = refl
many_same (x ∷ regions) zero g = refl
many_same (x ∷ regions) (suc k) g = ap suc (many_same regions k g)

-- a node with other bytes in one region
pub share_same : (u : Setting) (i : ℕ) (s t : NodeState) → IsShare u i s → length t.regions ≡ length s.regions
    → ((j : ℕ) → ((region_at t j).number ≡ (region_at s j).number) × ((region_at t j).span ≡ (region_at s j).span) × (length (region_at t j).bytes ≡ length (region_at s j).bytes)) → IsShare u i t
share_same u i s t h many same = record {
  inside = λ k low. subst (λ z. z < length u.table) (sym (same k).0) (h.inside k (subst (λ z. k < z) many low));
  spans = λ k low. (same k).1 ∙ h.spans k (subst (λ z. k < z) many low) ∙ ap (table.region_at u.table) (sym (same k).0);
  owned = λ k low. ap (λ z. owner_of u z) (same k).0 ∙ h.owned k (subst (λ z. k < z) many low);
  whole = λ j low own. (let w = h.whole j low own in (w.0, subst (λ z. w.0 < z) (sym many) w.1, (same w.0).0 ∙ w.2));
  once = λ k j a b e. h.once k j (subst (λ z. k < z) many a) (subst (λ z. j < z) many b) (sym (same k).0 ∙ e ∙ (same j).0);
  filled = λ k low. (same k).2 ∙ h.filled k (subst (λ z. k < z) many low) ∙ ap (λ (z : RegionSpan). z.len) (sym (same k).1);
}

-- what a turn gives is of the leg's request
abbrev FateOf : Setting → Fate → Type 0
FateOf u (fate.Stays x) = IsLegOf u x
FateOf u (fate.Ends b) = IsBackOf u b

at_of : (u : Setting) (s : NodeState) (x : Leg) (o : Option ℕ) → IsLegOf u x → FateOf u (fate_at s x o)
at_of u s x None of = record { client = of.client; program = of.program; pad = of.pad }
at_of u s x (Some k) of = by_bool (may_read (spans_of s.regions) k)
    (λ t. subst (λ b. FateOf u (if b then fate.Stays x else fate.Ends (back_of x (ending.Fault fault.NotReadable)))) (sym t) of)
    (λ t. subst (λ b. FateOf u (if b then fate.Stays x else fate.Ends (back_of x (ending.Fault fault.NotReadable)))) (sym t) (record { client = of.client; program = of.program; pad = of.pad }))

fate_is_of : (u : Setting) (s : NodeState) (l : Leg) (o : Outcome) → IsLegOf u l → OutcomeKeeps (record_size u l.request) (pad_size u l.request) o → FateOf u (fate_of s l o)
fate_is_of u s l (Done b pad) of k = record { client = of.client; program = of.program; pad = k.1 }
fate_is_of u s l (Faults cause) of k = record { client = of.client; program = of.program; pad = of.pad }
fate_is_of u s l (Goes to b pad) of k =
    let x : IsLegOf u (moved l to pad) = record { client = of.client; program = of.program; pad = k.1 } in
    by_bool (nat_eq (l.left - 1) 0)
    (λ t. subst (λ z. FateOf u (if z then fate.Ends (back_of (moved l to pad) ending.Resume) else fate_at s (moved l to pad) (place_of s (moved l to pad)))) (sym t) (record { client = of.client; program = of.program; pad = k.1 }))
    (λ t. subst (λ z. FateOf u (if z then fate.Ends (back_of (moved l to pad) ending.Resume) else fate_at s (moved l to pad) (place_of s (moved l to pad)))) (sym t) (at_of u s (moved l to pad) (place_of s (moved l to pad)) x))

-- a leg that stays has its record here
abbrev FateHere : NodeState → Fate → Type 0
FateHere s (fate.Stays x) = (k : ℕ) × (place_of s x ≡ Some k) × (may_read (spans_of s.regions) k ≡ true)
FateHere s (fate.Ends b) = Unit {0}

at_here : (s : NodeState) (x : Leg) (o : Option ℕ) → place_of s x ≡ o → FateHere s (fate_at s x o)
at_here s x None e = tt
at_here s x (Some k) e = by_bool (may_read (spans_of s.regions) k)
    (λ t. subst (λ b. FateHere s (if b then fate.Stays x else fate.Ends (back_of x (ending.Fault fault.NotReadable)))) (sym t) (k, e, t))
    (λ t. subst (λ b. FateHere s (if b then fate.Stays x else fate.Ends (back_of x (ending.Fault fault.NotReadable)))) (sym t) tt)

fate_here : (s : NodeState) (l : Leg) (o : Outcome) → FateHere s (fate_of s l o)
fate_here s l (Done b pad) = tt
fate_here s l (Faults cause) = tt
fate_here s l (Goes to b pad) = by_bool (nat_eq (l.left - 1) 0)
    (λ t. subst (λ z. FateHere s (if z then fate.Ends (back_of (moved l to pad) ending.Resume) else fate_at s (moved l to pad) (place_of s (moved l to pad)))) (sym t) tt)
    (λ t. subst (λ z. FateHere s (if z then fate.Ends (back_of (moved l to pad) ending.Resume) else fate_at s (moved l to pad) (place_of s (moved l to pad)))) (sym t) (at_here s (moved l to pad) (place_of s (moved l to pad)) refl))

-- the length of a region into which a record is put
pub spliced_length : (bytes : List ℕ) (at size : ℕ) (new : List ℕ) → length new ≡ size → at + size ≤ length bytes → length (spliced bytes at new) ≡ length bytes
spliced_length bytes at size new e h =
    let front = length-take-le at bytes (omega (arith, h)) in
    let back = length-drop (at + length new) bytes in
    let a = length-append (take at bytes ++ new) (drop (at + length new) bytes) in
    let b = length-append (take at bytes) new in
    omega (arith, front, back, a, b, e, h)

pub record_length : (bytes : List ℕ) (at size : ℕ) → at + size ≤ length bytes → length (take size (drop at bytes)) ≡ size
record_length bytes at size h = length-take-le size (drop at bytes) (let d = length-drop at bytes in omega (arith, d, h))

after_length : (size pad : ℕ) (o : Outcome) (old : List ℕ) → length old ≡ size → OutcomeKeeps size pad o → length (record_after o old) ≡ size
after_length size pad (Done b p) old e k = k.0
after_length size pad (Goes to b p) old e k = k.0
after_length size pad (Faults cause) old e k = e

-- the record of a live leg lies in its region
pub inside : (u : Setting) (i : ℕ) (s : NodeState) (q : LegKey) (e : LiveLeg) (x : Site u i s q e) → IsShare u i s → offset_of s e.leg x.live.place + record_size u e.leg.request ≤ length (region_at s x.live.place).bytes
inside u i s q e x share =
    let place = x.live.place in
    let l = e.leg in
    let here = (position-Some (λ r. holds r l.cur (size_of s l)) (spans_of s.regions) place nowhere x.live.at).1 in
    let r = region_at s place in
    let here2 : holds r.span l.cur (record_size u l.request) ≡ true = (λ j. holds (sym (span_at s place) j) l.cur (sym x.size j)) ∙ here in
    let both = and_parts (leb r.span.base l.cur) (leb (l.cur + record_size u l.request) (end_of r.span)) here2 in
    let a = leb-true _ _ both.0 in let b = leb-true _ _ both.1 in
    let full = share.filled place x.low in
    omega (arith, a, b, full)

left_of : (s : NodeState) (e : LiveLeg) (o : Outcome) (g : Fate) → fate_of s e.leg o ≡ g → 1 ≤ e.leg.left → FateNames g e.leg → FateLeft s e g
left_of s e o (fate.Stays l) eq left names = ((stays_as s e.leg o l left eq).some, names)
left_of s e o (fate.Ends b) eq left names = tt

-- the node after a turn, by its fate
settled_of : (u : Setting) (i : ℕ) (s t : NodeState) (e : LiveLeg) (g : Fate) → IsOrderly (settled t e g) → 1 ≤ t.slots → t.sizes ≡ u.sizes → IsShare u i t → Each (IsLiveOf u t) t.live
    → ((q : LegKey) (reply : Reply) → m.get t.kept q ≡ Some reply → IsBackOf u reply.back) → FateOf u g → FateHere t g → IsNodeOf u i (settled t e g)
settled_of u i s t e (fate.Stays l) orderly some sizes share live kept of here =
    let x : LiveLeg = record { leg = l; region = e.region } in
    let n = settled t e (fate.Stays l) in
    record {
      orderly = orderly;
      some = some;
      sizes = sizes;
      share = record { inside = share.inside; spans = share.spans; owned = share.owned; whole = share.whole; once = share.once; filled = share.filled };
      live = each_append (IsLiveOf u n) (without t.live (key_of e.leg)) (x ∷ [])
          (each_to (IsLiveOf u t) (IsLiveOf u n) (without t.live (key_of e.leg)) (λ y h. record { leg = h.leg; place = h.place; at = h.at; reads = h.reads }) (each_without (IsLiveOf u t) t.live (key_of e.leg) live))
          (record { leg = of; place = here.0; at = here.1; reads = here.2 }, tt);
      kept = kept;
    }
settled_of u i s t e (fate.Ends b) orderly some sizes share live kept of here =
    let k = key_of e.leg in
    let n = settled t e (fate.Ends b) in
    let reply : Reply = record { back = b; region = e.region } in
    record {
      orderly = orderly;
      some = some;
      sizes = sizes;
      share = record { inside = share.inside; spans = share.spans; owned = share.owned; whole = share.whole; once = share.once; filled = share.filled };
      live = each_to (IsLiveOf u t) (IsLiveOf u n) (without t.live k) (λ y h. record { leg = h.leg; place = h.place; at = h.at; reads = h.reads }) (each_without (IsLiveOf u t) t.live k live);
      kept = λ q r f. by_bool (same_key q k)
          (λ z. let c : Some reply ≡ Some r = sym (get_same t.kept k reply) ∙ ap (m.get (m.insert t.kept k reply)) (sym (is_key q k z)) ∙ f in
          let d : reply ≡ r = cc in subst (λ (y : Reply). IsBackOf u y.back) d of)
          (λ z. kept q r (sym (get_other t.kept k q reply (not_key q k z)) ∙ f));
    }

here_same : (s t : NodeState) (g : Fate) → spans_of t.regions ≡ spans_of s.regions → t.sizes ≡ s.sizes → FateHere s g → FateHere t g
here_same s t (fate.Stays x) e z h = (h.0, (λ j. region_of (e j) x.cur (size_in (slice_get (z j) x.program))) ∙ h.1, ap (λ y. may_read y h.0) e ∙ h.2)
here_same s t (fate.Ends b) e z h = tt

sent_of : (u : Setting) (g : Fate) → FateOf u g → SentBackOf u (back_in g)
sent_of u (fate.Stays x) h = tt
sent_of u (fate.Ends b) h = h

pub turn_keeps : TurnKeeps
turn_keeps u i s q e set h found =
    let x = site u i s q e h found in
    let l = e.leg in
    let place = x.live.place in
    let r = region_at s place in
    let o = outcome_of u s l in
    let g = fate_of s l o in
    let at = offset_of s l place in
    let fits = inside u i s q e x h.share in
    let here : length (record_in s l place) ≡ record_size u l.request = ap (λ z. length (take z (drop at r.bytes))) x.size ∙ record_length r.bytes at (record_size u l.request) fits in
    let offset : at ≡ offset_in u r.number l.cur = ap (λ z. l.cur - z.base) x.span in
    let keeps : OutcomeKeeps (record_size u l.request) (pad_size u l.request) o = subst (OutcomeKeeps (record_size u l.request) (pad_size u l.request)) (sym (same_outcome u i s q e x))
    (set.iterates l.request (take (record_size u l.request) (drop (offset_in u r.number l.cur) r.bytes)) l.cur l.pad _
    (ap (λ z. length (take (record_size u l.request) (drop z r.bytes))) (sym offset) ∙ record_length r.bytes at (record_size u l.request) fits) x.live.leg.pad) in
    let after = record_after o (record_in s l place) in
    let g2 = record r { bytes = spliced r.bytes at after } in
    let t = with_record s l place after in
    let long : length (spliced r.bytes at after) ≡ length r.bytes = spliced_length r.bytes at (record_size u l.request) after (after_length (record_size u l.request) (pad_size u l.request) o (record_in s l place) here keeps) fits in
    let spans : spans_of t.regions ≡ spans_of s.regions = spans_same s.regions place g2 refl in
    let share : IsShare u i t = share_same u i s t h.share (many_same s.regions place g2) (λ j. regions_same s.regions place g2 refl refl long j) in
    let orderly_t : IsOrderly t = record { few = h.orderly.few; apart = h.orderly.apart; live = h.orderly.live } in
    let live_t : Each (IsLiveOf u t) t.live = each_to (IsLiveOf u s) (IsLiveOf u t) s.live (λ y o2. record { leg = o2.leg; place = o2.place; at = ap (λ z. region_of z y.leg.cur (size_of s y.leg)) spans ∙ o2.at; reads = ap (λ z. may_read z o2.place) spans ∙ o2.reads }) h.live in
    let names = fate_names s l o in
    let found2 : find_live t.live (key_of l) ≡ Some e = ap (find_live s.live) (sym x.key) ∙ found in
    let orderly = orderly_settled t e g orderly_t found2 x.open'.1 (left_of s e o g refl x.open'.0 names) in
    let of = fate_is_of u s l o x.live.leg keeps in
    let node = settled_of u i s t e g orderly h.some h.sizes share live_t h.kept of (here_same s t g spans refl (fate_here s l o)) in
    subst (λ (z : NodeState × Option Back). IsNodeOf u i z.0 × SentBackOf u z.1) (sym (turn_is u i s q e o x found)) (node, sent_of u g of)
